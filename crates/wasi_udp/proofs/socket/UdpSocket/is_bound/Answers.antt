use Rattle.std.proofs.Common.{ap, sym, false}
use Rattle.wasi_world.specs.Asks.{Give}
use Rattle.wasi_world.proofs.Walks.{asks_at, asks_exit, asks_end}
use Rattle.wasi_udp.specs.Socket.{ask_bound}
use Rattle.wasi_udp.proofs.socket.UdpSocket.is_bound.Goals as goal

pub returns-in_err-told-clause-asked : goal.returns-in_err-told-clause-asked
returns-in_err-told-clause-asked g c =
    asks_at (ask_bound c.args.op c.args.self.now) {e = false} (rw (← c.self.view_is) c.if-self.false) (rw (← c.self.view_is) (asks_exit _ _ c.from_residual.ensures.1 c.in_err-told.ensures.asked.err))

pub returns-clause-asked : goal.returns-clause-asked
returns-clause-asked g c =
    asks_at (ask_bound c.args.op c.args.self.now) {e = false} (rw (← c.self.view_is) c.if-self.false) (rw (← c.self.view_is) (asks_end _ c.in_ok-told.ensures.asked.ok (ap Give (sym (rw (← c.self.view_is) at c.learn_bound.ensures.learned)))))
