use Rattle.std.proofs.Common.{refl}
use Rattle.embed_flat.proofs.signature.signatures_are_the_imports.Goals as goal

pub returns : goal.returns
returns c = refl
