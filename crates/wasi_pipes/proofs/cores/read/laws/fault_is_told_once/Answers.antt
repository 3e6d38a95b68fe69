use Rattle.wasi_pipes.proofs.ReadLaws.{told_once, closed_later}
use Rattle.wasi_pipes.proofs.cores.read.laws.fault_is_told_once.Goals as goal

pub returns-clause-once : goal.returns-clause-once
returns-clause-once c = told_once

pub returns-clause-closed : goal.returns-clause-closed
returns-clause-closed c = closed_later
