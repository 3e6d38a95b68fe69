use Rattle.wasi_causes.proofs.causes.answers_are_in_the_table.Goals as goal
use Rattle.wasi_causes.proofs.tables.Steps.{its_own}

pub returns : goal.returns
returns c = its_own
