use Rattle.std.proofs.Common.{◌≡◌, ℕ, refl, ap, arith, subst, sym}
use Rattle.slab.specs.Slab.{Slab, get}
use Rattle.wasi_records.specs.declared.record_list.NumberedRecord.{NumberedRecord}
use Rattle.wasi_records.specs.Totals.{IsCounted}
use Rattle.wasi_records.proofs.RecordMaps.{reserved, sound_reserved, led_other}
use Rattle.wasi_records.proofs.record_list.RecordList.reserve.Goals as goal

pub returns-clause-items : goal.returns-clause-items
returns-clause-items c =
    let same : (k : ℕ) → get c.reserve.new.self k ≡ get c.self.inside.slots k = λ k. ap (λ (s : Slab NumberedRecord). get s k) c.reserve.ensures.rest_kept in
    rw (← c.self.view_is) (reserved c.self.inside.slots _ _ c.self.invariant.0 c.reserve.new.self _ same (λ q below. led_other _ _ _ _ c.in_ok-insert.ensures.found q (λ e. omega (arith, e, below))))

pub invariant_of-self-2 : goal.invariant_of-self-2
invariant_of-self-2 c =
    let same : (k : ℕ) → get c.reserve.new.self k ≡ get c.self.inside.slots k = λ k. ap (λ (s : Slab NumberedRecord). get s k) c.reserve.ensures.rest_kept in (
      sound_reserved c.self.inside.slots _ _ c.self.invariant.0 c.reserve.new.self _ same (λ q below. led_other _ _ _ _ c.in_ok-insert.ensures.found q (λ e. omega (arith, e, below))),
      subst (IsCounted c.self.inside.totals c.self.inside.lent)
          (sym (reserved c.self.inside.slots _ _ c.self.invariant.0 c.reserve.new.self _ same (λ q below. led_other _ _ _ _ c.in_ok-insert.ensures.found q (λ e. omega (arith, e, below)))))
          c.self.invariant.1,
    )

-- where there is no room
pub invariant_of-self : goal.invariant_of-self
invariant_of-self c =
    let same : (k : ℕ) → get c.reserve.new.self k ≡ get c.self.inside.slots k = λ k. ap (λ (s : Slab NumberedRecord). get s k) c.reserve.ensures.rest_kept in (
      sound_reserved c.self.inside.slots _ _ c.self.invariant.0 c.reserve.new.self c.self.inside.keys same (λ q below. refl),
      subst (IsCounted c.self.inside.totals c.self.inside.lent) (sym (reserved c.self.inside.slots _ _ c.self.invariant.0 c.reserve.new.self c.self.inside.keys same (λ q below. refl))) c.self.invariant.1,
    )

pub invariant_of-self-in_err-insert : goal.invariant_of-self-in_err-insert
invariant_of-self-in_err-insert c =
    let same : (k : ℕ) → get c.reserve.new.self k ≡ get c.self.inside.slots k = λ k. ap (λ (s : Slab NumberedRecord). get s k) c.reserve.ensures.rest_kept in
    rw c.in_err-insert.ensures.err (
      sound_reserved c.self.inside.slots _ _ c.self.invariant.0 c.reserve.new.self c.self.inside.keys same (λ q below. refl),
      subst (IsCounted c.self.inside.totals c.self.inside.lent) (sym (reserved c.self.inside.slots _ _ c.self.invariant.0 c.reserve.new.self c.self.inside.keys same (λ q below. refl))) c.self.invariant.1,
    )
