use Rattle.wasi_writer.proofs.Ends.{left_of}
use Rattle.wasi_writer.proofs.shared.Shared.settle.Goals as goal

pub returns-clause-chunks : goal.returns-clause-chunks
returns-clause-chunks g c = left_of c.count_left.ensures c.settle.ensures.settled c.requires.counted.0 c.requires.counted.1
