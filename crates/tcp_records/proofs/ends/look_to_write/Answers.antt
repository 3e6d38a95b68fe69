use Rattle.std.proofs.Common.{refl}
use Rattle.wasi_world.proofs.Walks.{asks_end, asks_exit}
use Rattle.tcp_records.proofs.ends.look_to_write.Goals as goal

pub returns-in_err-answer-in-Ready-clause-asked : goal.returns-in_err-answer-in-Ready-clause-asked
returns-in_err-answer-in-Ready-clause-asked g c = rw c.in-Ready.is (asks_exit _ _ c.from_residual.ensures.1 c.in_err-answer-in-Ready.ensures.asked.err)

pub returns-in_ok-answer-in-Ready-clause-asked : goal.returns-in_ok-answer-in-Ready-clause-asked
returns-in_ok-answer-in-Ready-clause-asked g c = rw c.in-Ready.is (asks_end _ c.in_ok-answer-in-Ready.ensures.asked.ok refl)
