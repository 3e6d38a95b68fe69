-- The bytes of a slice are bytes.
use Rattle.std.proofs.Common.{◌∙◌, ap, arith, rules}
use Rattle.std.specs.Prelude.{slice_get}
use Rattle.embed_flat.proofs.Outside.{put-kept}
use Rattle.embed_flat.proofs.memory.put.Goals as goal

pub returns-clause-bytes : goal.returns-clause-bytes
returns-clause-bytes c = λ i. let fits = c.type_inv.bytes i in omega arith

pub returns-clause-memory : goal.returns-clause-memory
returns-clause-memory c = search rules

pub returns-clause-outside : goal.returns-clause-outside
returns-clause-outside c = λ k outside. ap (λ memory. slice_get memory k) (returns-clause-memory c) ∙ put-kept c.args.at c.args.memory.now c.args.bytes.now k c.requires outside
