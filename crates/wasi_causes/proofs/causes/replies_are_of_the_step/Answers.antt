use Rattle.wasi_causes.proofs.causes.replies_are_of_the_step.Goals as goal
use Rattle.wasi_causes.proofs.tables.Steps.{may_be, all_may_be}

pub returns : goal.returns
returns c = record { next = may_be; all = all_may_be }
