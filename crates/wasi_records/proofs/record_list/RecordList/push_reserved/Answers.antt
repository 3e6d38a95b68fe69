use Rattle.std.proofs.Common.{ℕ, ◌+◌, ap, ◌∙◌, sym, subst}
use Rattle.wasi_records.specs.Totals.{total_of, Adds, IsCounted}
use Rattle.wasi_records.specs.RecordMap.{record_in}
use Rattle.wasi_records.specs.Used.{used_in}
use Rattle.wasi_records.proofs.Counts.{counted_pushed}
use Rattle.wasi_records.proofs.RecordMaps.{room_found, pushed, sound_pushed}
use Rattle.wasi_records.proofs.record_list.RecordList.push_reserved.Goals as goal

pub share_of-before-requires : goal.share_of-before-requires
share_of-before-requires c = c.self.invariant.0.led

pub set-requires : goal.set-requires
set-requires c = room_found c.self.inside.slots c.self.inside.keys c.self.inside.next (rw (← c.self.view_is) at c.requires)

pub invariant_of-self : goal.invariant_of-self
invariant_of-self c =
    let adds : Adds c.self.inside.totals c.add.new.self (λ (context : ℕ). used_in context (record_in c.self.inside.slots c.self.inside.keys c.self.inside.lent)) =
    λ exact. (let a = c.add.ensures exact in (a.0, λ context. a.1 context ∙ ap (λ (n : ℕ). total_of c.self.inside.totals context + n) (c.share_of-before.ensures context))) in (
      sound_pushed _ _ _ c.self.invariant.0 _ _ _ _ c.insert_reserved-slot.ensures.was_vacant c.insert_reserved-slot.ensures.updates c.set.ensures,
      subst (IsCounted c.add.new.self c.self.inside.next) (sym (pushed _ _ _ c.self.invariant.0 _ _ _ _ c.insert_reserved-slot.ensures.was_vacant c.insert_reserved-slot.ensures.updates c.set.ensures))
          (counted_pushed c.self.inside.slots c.self.inside.keys c.self.inside.next c.self.invariant.0 c.self.inside.totals c.add.new.self c.self.inside.lent c.args.added c.self.invariant.1 adds),
    )

pub returns : goal.returns
returns c = record { items = rw (← c.self.view_is) (pushed _ _ _ c.self.invariant.0 _ _ _ _ c.insert_reserved-slot.ensures.was_vacant c.insert_reserved-slot.ensures.updates c.set.ensures) }
