use Rattle.std.proofs.Common.{refl}
use Rattle.wasi_world.proofs.Walks.{asks_end, refused_on}
use Rattle.tcp_records.proofs.ends.read_by_half.Goals as goal

pub returns-in_err-answer-in-Open-clause-asked : goal.returns-in_err-answer-in-Open-clause-asked
returns-in_err-answer-in-Open-clause-asked g c =
    rw c.in-Open.is (refused_on _ _ c.from_residual.result c.from_residual.ensures.1 c.in_err-answer-in-Open.ensures.asked (λ code. refl))

pub returns-in_ok-answer-in-Open-clause-asked : goal.returns-in_ok-answer-in-Open-clause-asked
returns-in_ok-answer-in-Open-clause-asked g c = rw c.in-Open.is (asks_end _ c.in_ok-answer-in-Open.ensures.asked.ok refl)
