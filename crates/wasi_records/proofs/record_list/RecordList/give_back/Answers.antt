use Rattle.std.proofs.Common.{◌≡◌, ℕ, false, is_some, ap, ◌∙◌, sym, subst}
use Rattle.slab.specs.Slab.{get}
use Rattle.wasi_records.specs.RecordMap.{key_at, of_number}
use Rattle.wasi_records.specs.Totals.{IsCounted}
use Rattle.wasi_records.proofs.Counts.{leaves, counted_gone}
use Rattle.wasi_records.proofs.RecordMaps.{gone, sound_gone, is_in, taken_without, none_without}
use Rattle.wasi_records.proofs.record_list.RecordList.give_back.Goals as goal

pub settle-requires-clause-led : goal.settle-requires-clause-led
settle-requires-clause-led c = c.self.invariant.0.led

pub settle-requires-clause-counted : goal.settle-requires-clause-counted
settle-requires-clause-counted c = leaves c.self.inside.slots c.self.inside.keys c.self.inside.next c.self.invariant.0 c.self.inside.totals c.self.inside.lent c.args.place c.self.invariant.1

pub invariant_of-self : goal.invariant_of-self
invariant_of-self c =
    let there = is_in c.args.place (get c.self.inside.slots c.key_of-slot.result) (sym c.is_in.ensures ∙ c.if-is_in.true) in
    let without = taken_without c.self.inside.slots c.self.inside.keys c.self.inside.next c.self.invariant.0 _ _ _ there c.remove-then-is_in.ensures.updates in (
      sound_gone c.self.inside.slots c.self.inside.keys c.self.inside.next c.self.invariant.0 _ _ _ c.remove.ensures.found without,
      subst (IsCounted c.settle.new.totals c.args.place) (sym (gone _ _ _ _ _ _ c.self.invariant.0 c.remove.ensures.found without))
          (counted_gone c.self.inside.slots c.self.inside.keys c.self.inside.next c.self.invariant.0 c.self.inside.totals c.settle.new.totals c.self.inside.lent c.args.place c.self.invariant.1 c.settle.ensures),
    )

pub invariant_of-self-else-is_in : goal.invariant_of-self-else-is_in
invariant_of-self-else-is_in c =
    let none : is_some (of_number c.args.place (get c.self.inside.slots (key_at c.self.inside.keys c.args.place))) ≡ false =
    ap (λ (key : ℕ). is_some (of_number c.args.place (get c.self.inside.slots key))) (sym c.key_of-slot.ensures) ∙ sym c.is_in.ensures ∙ c.if-is_in.false in
    let without = none_without c.self.inside.slots c.self.inside.keys c.self.inside.next c.self.invariant.0 _ none in (
      sound_gone c.self.inside.slots c.self.inside.keys c.self.inside.next c.self.invariant.0 _ _ _ c.remove.ensures.found without,
      subst (IsCounted c.settle.new.totals c.args.place) (sym (gone _ _ _ _ _ _ c.self.invariant.0 c.remove.ensures.found without))
          (counted_gone c.self.inside.slots c.self.inside.keys c.self.inside.next c.self.invariant.0 c.self.inside.totals c.settle.new.totals c.self.inside.lent c.args.place c.self.invariant.1 c.settle.ensures),
    )

pub returns-then-is_in : goal.returns-then-is_in
returns-then-is_in c =
    let there = is_in c.args.place (get c.self.inside.slots c.key_of-slot.result) (sym c.is_in.ensures ∙ c.if-is_in.true) in
    let without = taken_without c.self.inside.slots c.self.inside.keys c.self.inside.next c.self.invariant.0 _ _ _ there c.remove-then-is_in.ensures.updates in
    rw (← c.self.view_is) (gone _ _ _ _ _ _ c.self.invariant.0 c.remove.ensures.found without)

pub returns-else-is_in : goal.returns-else-is_in
returns-else-is_in c =
    let none : is_some (of_number c.args.place (get c.self.inside.slots (key_at c.self.inside.keys c.args.place))) ≡ false =
    ap (λ (key : ℕ). is_some (of_number c.args.place (get c.self.inside.slots key))) (sym c.key_of-slot.ensures) ∙ sym c.is_in.ensures ∙ c.if-is_in.false in
    let without = none_without c.self.inside.slots c.self.inside.keys c.self.inside.next c.self.invariant.0 _ none in
    rw (← c.self.view_is) (gone _ _ _ _ _ _ c.self.invariant.0 c.remove.ensures.found without)
