use Rattle.std.proofs.Common.{Ok, ap, refl, sym}
use Rattle.wasi_world.specs.Asks.{Give}
use Rattle.wasi_world.proofs.Walks.{asks_end, refused_on}
use Rattle.tcp_records.specs.declared.socket.TcpRecord.{TcpRecord}
use Rattle.host_tcp.proofs.Listens.{left_balances}
use Rattle.host_tcp.proofs.listening.relisten.Goals as goal

pub returns-in_err-answer-clause-asked : goal.returns-in_err-answer-clause-asked
returns-in_err-answer-clause-asked g c = refused_on _ _ c.from_residual.result c.from_residual.ensures.1 c.in_err-answer.ensures.asked (λ code. refl)

pub returns-clause-asked : goal.returns-clause-asked
returns-clause-asked g c = asks_end _ c.in_ok-answer.ensures.asked.ok (ap (λ (r : TcpRecord). Give (Ok c.in_ok-answer.answer, r)) (sym c.leave_bound.ensures))

pub returns-clause-sides : goal.returns-clause-sides
returns-clause-sides g c = left_balances c.in_ok-answer.answer c.leave_bound.ensures c.in_ok-answer.ensures.sides
