use Rattle.wasi_pipes.proofs.WriteLaws.{popped_in_order}
use Rattle.wasi_pipes.proofs.cores.write.laws.lengths_are_popped_in_order.Goals as goal

pub returns : goal.returns
returns c = popped_in_order
