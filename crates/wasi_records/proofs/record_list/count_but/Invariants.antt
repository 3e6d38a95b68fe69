use Rattle.std.proofs.Common.{◌≡◌, ◌+◌, ◌^◌, ◌-◌, min, ℕ}
use Rattle.wasi_records.specs.Totals.{used_under}
use Rattle.wasi_records.proofs.record_list.count_but.Given as goal

-- what the records so far and those to come count
abbrev pub invariant-loop-number : goal.invariant-loop-number
invariant-loop-number l =
    goal.iterator-loop-number.can_next l.number-iterator × goal.iterator-loop-number.is_finite l.number-iterator
    × ((done : ℕ) × ((l.bytes ≡ min done (2 ^ 64 - 1)) × (done + used_under l.slots l.place l.context l.number-iterator ≡ used_under l.slots l.place l.context l.fn.keys)))
