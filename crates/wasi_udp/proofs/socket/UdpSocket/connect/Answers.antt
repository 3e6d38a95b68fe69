use Rattle.std.proofs.Common.{refl}
use Rattle.wasi_world.proofs.Walks.{refused_exit, asks_end}
use Rattle.wasi_udp.proofs.socket.UdpSocket.connect.Goals as goal

pub returns-in_err-bound-clause-asked : goal.returns-in_err-bound-clause-asked
returns-in_err-bound-clause-asked g c = rw (← c.is_connectable.ensures, c.if-not-is_connectable.false) (refused_exit _ c.from_residual.result c.from_residual.ensures.1 c.in_err-bound.ensures.asked.err)

pub returns-clause-asked : goal.returns-clause-asked
returns-clause-asked g c = rw (← c.is_connectable.ensures, c.if-not-is_connectable.false) (asks_end _ c.in_ok-bound.ensures.asked.ok (rw c.begin_connect.ensures.begun refl))
