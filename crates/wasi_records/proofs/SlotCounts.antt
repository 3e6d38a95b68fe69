-- Slots among the records hold no network socket.
use Rattle.std.proofs.Common.{◌≡◌, ℕ, zero, suc, ◌+◌, List, [], ◌∷◌, Some, refl, ap}
use Rattle.wasi_records.specs.declared.records.Record.{Record}
use Rattle.wasi_records.specs.declared.records.Record.TheVariants.{Tcp, Udp, Lookup, InputPipe, OutputPipe, Slot as SlotRecord, Gone}
use Rattle.tcp_records.specs.declared.slot.Slot.{Slot}
use Rattle.record_common.specs.Sides.{Weight}
use Rattle.wasi_records.specs.Sides.{held_by, held_in}
use Rattle.wasi_records.specs.Records.{slot_at, slot_put, slot_pushed}
use Rattle.record_common.proofs.SideCounts.{same_tally}

slot_in : (w : Weight) (rs : List Record) (i : ℕ) (old now : Slot) → slot_at rs i ≡ Some old → held_in (slot_put rs i now) w ≡ held_in rs w
slot_in w [] i old now h = refl
slot_in w (Tcp r ∷ rs) zero old now h = absurd (cc)
slot_in w (Udp u ∷ rs) zero old now h = absurd (cc)
slot_in w (Lookup l ∷ rs) zero old now h = absurd (cc)
slot_in w (InputPipe b ∷ rs) zero old now h = absurd (cc)
slot_in w (OutputPipe p ∷ rs) zero old now h = absurd (cc)
slot_in w (SlotRecord s ∷ rs) zero old now h = refl
slot_in w (Gone ∷ rs) zero old now h = absurd (cc)
slot_in w (x ∷ rs) (suc i) old now h = ap (λ n. held_by x w + n) (slot_in w rs i old now h)

pub held_in-slot : (rs : List Record) (i : ℕ) (old now : Slot) → slot_at rs i ≡ Some old → held_in (slot_put rs i now) ≡ held_in rs
held_in-slot rs i old now h = same_tally (λ w. slot_in w rs i old now h)

slot_more : (w : Weight) (rs : List Record) (s : Slot) → held_in (slot_pushed rs s) w ≡ held_in rs w
slot_more w [] s = refl
slot_more w (x ∷ rs) s = ap (λ n. held_by x w + n) (slot_more w rs s)

pub held_in-slot_pushed : (rs : List Record) (s : Slot) → held_in (slot_pushed rs s) ≡ held_in rs
held_in-slot_pushed rs s = same_tally (λ w. slot_more w rs s)
