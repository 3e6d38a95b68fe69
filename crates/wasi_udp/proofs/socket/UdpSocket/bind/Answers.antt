use Rattle.std.proofs.Common.{refl}
use Rattle.wasi_world.proofs.Walks.{refused_exit, refused_end}
use Rattle.wasi_udp.proofs.socket.UdpSocket.bind.Goals as goal

pub returns-in_err-bound-clause-asked : goal.returns-in_err-bound-clause-asked
returns-in_err-bound-clause-asked g c = refused_exit _ c.from_residual.result c.from_residual.ensures.1 c.in_err-bound.ensures.asked.err

pub returns-clause-asked : goal.returns-clause-asked
returns-clause-asked g c = refused_end _ c.begin_bind.result c.in_ok-bound.ensures.asked.ok c.begin_bind.ensures.begun refl
