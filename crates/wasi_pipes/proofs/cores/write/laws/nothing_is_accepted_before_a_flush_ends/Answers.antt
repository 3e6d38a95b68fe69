use Rattle.wasi_pipes.proofs.WriteLaws.{none_accepted}
use Rattle.wasi_pipes.proofs.cores.write.laws.nothing_is_accepted_before_a_flush_ends.Goals as goal

pub returns : goal.returns
returns c = none_accepted
