use Rattle.std.proofs.Common.{refl}
use Rattle.wasi_world.proofs.Walks.{refused_on, asks_end}
use Rattle.tcp_records.proofs.socket.TcpRecord.begin_connect.Goals as goal

pub returns-in_err-start_connect-clause-asked : goal.returns-in_err-start_connect-clause-asked
returns-in_err-start_connect-clause-asked g c = refused_on _ _ c.from_residual.result c.from_residual.ensures.1 c.in_err-start_connect.ensures.asked (λ code. refl)

pub returns-clause-asked : goal.returns-clause-asked
returns-clause-asked g c = asks_end _ c.in_ok-start_connect.ensures.asked.ok refl
