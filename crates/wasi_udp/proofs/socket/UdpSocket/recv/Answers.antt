use Rattle.std.proofs.Common.{refl}
use Rattle.wasi_world.proofs.Walks.{asks_exit, asks_end}
use Rattle.wasi_udp.proofs.socket.UdpSocket.recv.Goals as goal

pub returns-in_err-bound-clause-asked : goal.returns-in_err-bound-clause-asked
returns-in_err-bound-clause-asked g c = asks_exit _ _ c.from_residual.ensures.1 c.in_err-bound.ensures.asked.err

pub returns-clause-asked : goal.returns-clause-asked
returns-clause-asked g c = asks_end _ c.in_ok-bound.ensures.asked.ok (rw c.begin_recv.ensures.begun refl)
