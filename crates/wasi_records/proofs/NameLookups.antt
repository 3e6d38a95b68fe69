-- Lookups of names among the records, and the network sockets of the records where one is replaced.
use Rattle.std.specs.Borrow.{Bor, MutBor}
use Rattle.std.proofs.Common.{◌≡◌, ℕ, zero, suc, ◌+◌, List, [], ◌∷◌, Some, None, sym, ap, refl, length}
use Rattle.lookup_records.specs.declared.name_lookup.Lookup.{Lookup as NameLookup}
use Rattle.wasi_records.specs.declared.records.Record.{Record}
use Rattle.wasi_records.specs.declared.records.Record.TheVariants.{Tcp, Udp, Lookup, InputPipe, OutputPipe, Slot as SlotRecord, Gone}
use Rattle.wasi_records.specs.Numbered.{item_at}
use Rattle.wasi_records.specs.Records.{lookup_at, lookup_put, lookup_pushed}
use Rattle.record_common.specs.Sides.{Weight, no_socket}
use Rattle.wasi_records.specs.Sides.{held_by, held_in}
use Rattle.record_common.proofs.SideCounts.{same_tally}

-- == what is lent, by its number
pub lookup_found : (xs : List Record) (i : ℕ) (x : MutBor NameLookup) → Some x.now ≡ lookup_at xs i → lookup_at xs i ≡ Some x.now
lookup_found xs i x h = sym h

pub lookup_got : (xs : List Record) (i : ℕ) (x : Bor NameLookup) → Some x.now ≡ lookup_at xs i → lookup_at xs i ≡ Some x.now
lookup_got xs i x h = sym h

pub no_lookup : (xs : List Record) (i : ℕ) → None ≡ lookup_at xs i → lookup_at xs i ≡ None
no_lookup xs i h = sym h

-- and what it became is there
pub lookup_there : (xs : List Record) (i : ℕ) (now old : NameLookup) → lookup_at xs i ≡ Some old → lookup_at (lookup_put xs i now) i ≡ Some now
lookup_there [] i now old h = absurd (cc)
lookup_there (x ∷ xs) zero now old h = refl
lookup_there (x ∷ xs) (suc i) now old h = lookup_there xs i now old h

-- == the network sockets of the records
module _ (w : Weight) where
  put_in : (rs : List Record) (i : ℕ) (old now : NameLookup) → lookup_at rs i ≡ Some old → held_in (lookup_put rs i now) w ≡ held_in rs w
  put_in [] i old now h = refl
  put_in (Tcp r ∷ rs) zero old now h = absurd (cc)
  put_in (Udp u ∷ rs) zero old now h = absurd (cc)
  put_in (InputPipe b ∷ rs) zero old now h = absurd (cc)
  put_in (OutputPipe p ∷ rs) zero old now h = absurd (cc)
  put_in (SlotRecord s ∷ rs) zero old now h = absurd (cc)
  put_in (Gone ∷ rs) zero old now h = absurd (cc)
  put_in (Lookup l ∷ rs) zero old now h = refl
  put_in (x ∷ rs) (suc i) old now h = ap (λ n. held_by x w + n) (put_in rs i old now h)

  pushed_in : (rs : List Record) (l : NameLookup) → held_in (lookup_pushed rs l) w ≡ held_in rs w
  pushed_in [] l = refl
  pushed_in (x ∷ rs) l = ap (λ n. held_by x w + n) (pushed_in rs l)

pub held_in-lookup : (rs : List Record) (i : ℕ) (old now : NameLookup) → lookup_at rs i ≡ Some old → held_in (lookup_put rs i now) ≡ held_in rs
held_in-lookup rs i old now h = same_tally (λ w. put_in w rs i old now h)

pub held_in-lookup_more : (rs : List Record) (l : NameLookup) → held_in (lookup_pushed rs l) ≡ held_in rs
held_in-lookup_more rs l = same_tally (λ w. pushed_in w rs l)

-- the last of the records, which holds none
pub lookup_held : (rs : List Record) (l : NameLookup) → held_by (item_at (lookup_pushed rs l) (length rs)) ≡ no_socket
lookup_held [] l = refl
lookup_held (x ∷ rs) l = lookup_held rs l
