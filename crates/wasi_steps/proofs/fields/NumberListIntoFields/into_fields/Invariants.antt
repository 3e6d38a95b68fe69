use Rattle.std.proofs.Common.{◌≡◌, take}
use Rattle.wasi_steps.specs.Reply.{numbers_fields}
use Rattle.wasi_steps.proofs.fields.NumberListIntoFields.into_fields.Given as goal

abbrev pub invariant-loop-number : goal.invariant-loop-number
invariant-loop-number l = l.fields.items ≡ numbers_fields (take l.number-index l.number-items)
