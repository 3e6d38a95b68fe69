use Rattle.wasi_laws.proofs.order.Polls.{operation_checks_first, operation_leaves_none}
use Rattle.wasi_laws.proofs.operations_check_first.Goals as goal

pub returns : goal.returns
returns c = record { poll = operation_checks_first; later = operation_leaves_none }
