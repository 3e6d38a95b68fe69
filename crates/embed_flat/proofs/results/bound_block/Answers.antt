-- The address lies behind the case and what aligns it.
use Rattle.std.proofs.Common.{◌∙◌}
use Rattle.embed_flat.proofs.Done.{bound_bytes}
use Rattle.embed_flat.proofs.results.bound_block.Goals as goal

pub returns : goal.returns
returns c = bound_bytes c.args.fields.now c.copy_from_slice.new.self (c.copy_from_slice.ensures.after ∙ c.address_block.ensures)
