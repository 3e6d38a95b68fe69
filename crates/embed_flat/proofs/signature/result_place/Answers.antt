-- What the row says, if there is one.
use Rattle.std.proofs.Common.{ap}
use Rattle.embed_flat.specs.Signatures.{place_in}
use Rattle.embed_flat.proofs.signature.result_place.Goals as goal

pub returns-in-Some : goal.returns-in-Some
returns-in-Some c = ap place_in c.in-Some.ensures

pub returns-in-None : goal.returns-in-None
returns-in-None c = ap place_in c.in-None.ensures
