use Rattle.wasi_pipes.proofs.WriteLaws.{whole_after_flush, initial_kept}
use Rattle.wasi_pipes.proofs.cores.write.laws.budget_is_whole_after_a_flush.Goals as goal

pub returns-clause-whole : goal.returns-clause-whole
returns-clause-whole c = whole_after_flush

pub returns-clause-initial : goal.returns-clause-initial
returns-clause-initial c = initial_kept
