use Rattle.std.proofs.Common.{refl}
use Rattle.wasi_world.proofs.Walks.{refused_exit, asks_end}
use Rattle.wasi_udp.proofs.socket.UdpSocket.local_where.Goals as goal

pub returns-in_err-told-clause-asked : goal.returns-in_err-told-clause-asked
returns-in_err-told-clause-asked g c = rw (← c.self.view_is, c.if-not-bound.false) (refused_exit _ c.from_residual.result c.from_residual.ensures.1 c.in_err-told.ensures.asked.err)

pub returns-in-Ok-clause-asked : goal.returns-in-Ok-clause-asked
returns-in-Ok-clause-asked g c = rw (← c.self.view_is, c.if-not-bound.false) (asks_end _ c.in_ok-told.ensures.asked.ok (rw c.in-Ok.is refl))

pub returns-in-Err-clause-asked : goal.returns-in-Err-clause-asked
returns-in-Err-clause-asked g c = rw (← c.self.view_is, c.if-not-bound.false) (asks_end _ c.in_ok-told.ensures.asked.ok (rw c.in-Err.is refl))
