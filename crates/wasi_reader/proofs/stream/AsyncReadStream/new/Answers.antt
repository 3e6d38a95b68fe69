use Rattle.wasi_reader.proofs.Handed.{owned_new}
use Rattle.wasi_reader.proofs.stream.AsyncReadStream.new.Goals as goal

pub invariant_of-result : goal.invariant_of-result
invariant_of-result g c = owned_new _ c.args.parts.line _ _ _ c.args.parts.pops c.requires.line c.open-owner.ensures.keys c.new-in-Ok-start.ensures
