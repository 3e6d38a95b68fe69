-- The case, and then that of the error.
use Rattle.embed_flat.proofs.Blocks.{failed_bytes}
use Rattle.embed_flat.proofs.block.stream_block.Goals as goal

pub returns-in-Some : goal.returns-in-Some
returns-in-Some c = rw (c.in-Some.is, c.set-in-Some.ensures, c.set.ensures, c.payload-at.ensures.place, c.from.ensures) (failed_bytes c.args.shape c.in-Some.handle)
