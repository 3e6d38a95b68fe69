use Rattle.std.proofs.Common.{ap, refl, sym}
use Rattle.wasi_world.specs.Asks.{Give}
use Rattle.wasi_world.proofs.Walks.{asks_end, asks_exit}
use Rattle.lookup_records.proofs.name_lookup.Lookup.turn.Goals as goal

pub returns-in_err-answer-clause-asked : goal.returns-in_err-answer-clause-asked
returns-in_err-answer-clause-asked g c = rw c.in-InProgress.is (asks_exit _ _ c.from_residual.ensures.1 c.in_err-answer.ensures.asked.err)

pub returns-clause-asked : goal.returns-clause-asked
returns-clause-asked g c = rw c.in-InProgress.is (asks_end _ c.in_ok-answer.ensures.asked.ok (ap Give (sym (c.settle.ensures c.in-InProgress.op refl))))
