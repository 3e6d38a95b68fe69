use Rattle.wasi_tcp.proofs.ReadBytes.{read_within}
use Rattle.wasi_tcp.proofs.laws.reads_are_within_their_size.Goals as goal

pub returns : goal.returns
returns c = read_within
