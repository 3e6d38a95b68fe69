-- The case, and then the code where it has its place.
use Rattle.embed_flat.proofs.Blocks.{code_bytes}
use Rattle.embed_flat.proofs.block.code_block.Goals as goal

pub returns : goal.returns
returns c = rw (c.set-2.ensures, c.set.ensures, c.payload.ensures.place, c.from.ensures, c.code_number.ensures) (code_bytes c.args.shape c.args.code)
