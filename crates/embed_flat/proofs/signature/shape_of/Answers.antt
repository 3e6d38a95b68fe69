-- What the row says, if there is one.
use Rattle.std.proofs.Common.{ap}
use Rattle.embed_flat.specs.Signatures.{shape_in}
use Rattle.embed_flat.proofs.signature.shape_of.Goals as goal

pub returns-in-Some : goal.returns-in-Some
returns-in-Some c = ap shape_in c.in-Some.ensures

pub returns-in-None : goal.returns-in-None
returns-in-None c = ap shape_in c.in-None.ensures
