use Rattle.wasi_pipes.proofs.ReadLaws.{taken_in_order, all_taken, all_taken_at_error}
use Rattle.wasi_pipes.proofs.cores.read.laws.lengths_are_taken_in_order.Goals as goal

pub returns-clause-in_order : goal.returns-clause-in_order
returns-clause-in_order c = taken_in_order

pub returns-clause-empty : goal.returns-clause-empty
returns-clause-empty c = all_taken

pub returns-clause-told : goal.returns-clause-told
returns-clause-told c = all_taken_at_error
