-- Handles that are live where one is made.
use Rattle.std.specs.Prelude.{IsSome, is_some}
use Rattle.std.proofs.Common.{◌≡◌, ℕ, ◌==◌, Bool, true, false, List, [], ◌∷◌, ◌++◌, Option, Some, None, refl, ap}
use Rattle.wasi_table.specs.Table.{Live, value_at, pushed}
use Rattle.wasi_table.proofs.Tables.{value_front}
use Rattle.host_store.specs.declared.kind.Kind.{Kind}
use Rattle.host_store.specs.Kinds.{HandleTable, kind_at}
use Rattle.std.proofs.lemmas.Bool.{eq-eqb}

-- what is live stays so where a handle is made
pub stays_live : (t n : HandleTable) (kind : Kind) (parent : Option ℕ) (h : ℕ) → n ≡ pushed t kind parent → IsSome (kind_at t h) → IsSome (kind_at n h)
stays_live t n kind parent h e live = by (kind_at t h) refl
  where
    by : (k : Option Kind) → kind_at t h ≡ k → IsSome (kind_at n h)
    by None q = let z : is_some (kind_at t h) ≡ true = live in let w : is_some (kind_at t h) ≡ false = ap is_some q in absurd (cc)
    by (Some k) q = rw (e, value_front t.live _ h k q) refl

-- and so does the one that is made
slot_live : (rest : List (Live Kind)) (s : Live Kind) (n : ℕ) (kind : Kind) (parent : Option ℕ) (b : Bool) → (s.handle == n) ≡ b → IsSome (value_at (rest ++ record { handle = n; value = kind; parent = parent } ∷ []) n) → IsSome (value_at ((s ∷ rest) ++ record { handle = n; value = kind; parent = parent } ∷ []) n)
slot_live rest s n kind parent true e later = rw e refl
slot_live rest s n kind parent false e later = rw e later

last_live : (live : List (Live Kind)) (n : ℕ) (kind : Kind) (parent : Option ℕ) → IsSome (value_at (live ++ record { handle = n; value = kind; parent = parent } ∷ []) n)
last_live [] n kind parent = rw (eq-eqb n n refl) refl
last_live (s ∷ live) n kind parent = slot_live live s n kind parent (s.handle == n) refl (last_live live n kind parent)

pub comes_live : (t n : HandleTable) (kind : Kind) (parent : Option ℕ) (h : ℕ) → h ≡ t.next → n ≡ pushed t kind parent → IsSome (kind_at n h)
comes_live t n kind parent h e k = rw (k, e) (last_live t.live t.next kind parent)
