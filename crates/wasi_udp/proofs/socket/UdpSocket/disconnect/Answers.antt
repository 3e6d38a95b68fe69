use Rattle.std.proofs.Common.{refl, sym, ◌∙◌}
use Rattle.wasi_world.proofs.Walks.{refused_exit, asks_then, asks_end}
use Rattle.wasi_udp.proofs.Disconnects.{disconnect_asked}
use Rattle.wasi_udp.proofs.socket.UdpSocket.disconnect.Goals as goal

pub returns-in_err-done-clause-asked : goal.returns-in_err-done-clause-asked
returns-in_err-done-clause-asked g c =
    disconnect_asked c.args.op c.args.self.now (sym c.is_connected.ensures ∙ c.if-not-is_connected.false)
    (rw (← c.self.view_is) (refused_exit _ c.from_residual.result c.from_residual.ensures.1 c.in_err-done.ensures.asked.err))

pub returns-in_err-told-clause-asked : goal.returns-in_err-told-clause-asked
returns-in_err-told-clause-asked g c =
    disconnect_asked c.args.op c.args.self.now (sym c.is_connected.ensures ∙ c.if-not-is_connected.false)
    (rw (← c.self.view_is) (asks_then _ c.in_ok-done.ensures.asked.ok (refused_exit _ c.from_residual-in_err-told.result c.from_residual-in_err-told.ensures.1 c.in_err-told.ensures.asked.err)))

pub returns-in-Ok-clause-asked : goal.returns-in-Ok-clause-asked
returns-in-Ok-clause-asked g c =
    disconnect_asked c.args.op c.args.self.now (sym c.is_connected.ensures ∙ c.if-not-is_connected.false)
    (rw (← c.self.view_is) (asks_then _ c.in_ok-done.ensures.asked.ok (asks_end _ c.in_ok-told.ensures.asked.ok (rw (c.learn_remote.ensures, c.in-Ok.is) refl))))

pub returns-in-Err-clause-asked : goal.returns-in-Err-clause-asked
returns-in-Err-clause-asked g c =
    disconnect_asked c.args.op c.args.self.now (sym c.is_connected.ensures ∙ c.if-not-is_connected.false)
    (rw (← c.self.view_is) (asks_then _ c.in_ok-done.ensures.asked.ok (asks_end _ c.in_ok-told.ensures.asked.ok (rw (c.learn_remote.ensures, c.in-Err.is) refl))))
