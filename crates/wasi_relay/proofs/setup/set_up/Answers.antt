use Rattle.wasi_relay.specs.Setup.{with_left, as_is}
use Rattle.wasi_relay.proofs.Going.{went_give}
use Rattle.wasi_relay.proofs.Settling.{setup_quits, setup_then}
use Rattle.wasi_relay.proofs.setup.set_up.Goals as goal

pub returns-in_err-network : goal.returns-in_err-network
returns-in_err-network g c = setup_quits (with_left 0) as_is _ _ c.from_residual.result c.from_residual.ensures.1 c.in_err-network.ensures

pub returns-in_err-socket : goal.returns-in_err-socket
returns-in_err-socket g c =
    rw (← c.family_of-family.ensures) (setup_then _ c.in_ok-network.ensures (setup_quits (with_left 0) as_is _ _ c.from_residual-in_err-socket.result c.from_residual-in_err-socket.ensures.1 c.in_err-socket.ensures))

pub returns-in_err-settle : goal.returns-in_err-settle
returns-in_err-settle g c =
    rw (← c.family_of-family.ensures)
    (setup_then _ c.in_ok-network.ensures (setup_then _ c.in_ok-socket.ensures
    (setup_quits (with_left 0) as_is _ _ c.from_residual-in_err-settle.result c.from_residual-in_err-settle.ensures.1 c.in_err-settle.ensures)))

pub returns-in_err-settle-2 : goal.returns-in_err-settle-2
returns-in_err-settle-2 g c =
    rw (← c.family_of-family.ensures)
    (setup_then _ c.in_ok-network.ensures (setup_then _ c.in_ok-socket.ensures (setup_then _ c.in_ok-settle.ensures
    (setup_quits (with_left 0) as_is _ _ c.from_residual-in_err-settle-2.result c.from_residual-in_err-settle-2.ensures.1 c.in_err-settle-2.ensures))))

pub returns-in_err-settle-3 : goal.returns-in_err-settle-3
returns-in_err-settle-3 g c =
    rw (← c.family_of-family.ensures)
    (setup_then _ c.in_ok-network.ensures (setup_then _ c.in_ok-socket.ensures (setup_then _ c.in_ok-settle.ensures (setup_then _ c.in_ok-settle-2.ensures
    (setup_quits (with_left 0) as_is _ _ c.from_residual-in_err-settle-3.result c.from_residual-in_err-settle-3.ensures.1 c.in_err-settle-3.ensures)))))

pub returns-in_err-settle-4 : goal.returns-in_err-settle-4
returns-in_err-settle-4 g c =
    rw (← c.family_of-family.ensures)
    (setup_then _ c.in_ok-network.ensures (setup_then _ c.in_ok-socket.ensures (setup_then _ c.in_ok-settle.ensures (setup_then _ c.in_ok-settle-2.ensures (setup_then _ c.in_ok-settle-3.ensures
    (setup_quits (with_left 0) as_is _ _ c.from_residual-in_err-settle-4.result c.from_residual-in_err-settle-4.ensures.1 c.in_err-settle-4.ensures))))))

pub returns : goal.returns
returns g c =
    rw (← c.family_of-family.ensures)
    (setup_then _ c.in_ok-network.ensures (setup_then _ c.in_ok-socket.ensures (setup_then _ c.in_ok-settle.ensures (setup_then _ c.in_ok-settle-2.ensures (setup_then _ c.in_ok-settle-3.ensures
    (setup_then _ c.in_ok-settle-4.ensures (went_give _)))))))
