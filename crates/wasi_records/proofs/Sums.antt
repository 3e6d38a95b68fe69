-- How what the records count for a context changes with a record.
use Rattle.std.proofs.Common.{◌≡◌, ◌≢◌, ℕ, zero, suc, ◌+◌, ◌<◌, ◌≤◌, List, [], ◌∷◌, ◌++◌, length, refl, ap, arith}
use Rattle.std.specs.Prelude.{slice_set}
use Rattle.wasi_records.specs.declared.records.Record.{Record}
use Rattle.wasi_records.specs.declared.records.Record.TheVariants.{Gone}
use Rattle.wasi_records.specs.Numbered.{item_at}
use Rattle.wasi_records.specs.Used.{used_in, used}

-- a record comes in the place of another
pub used_put : (context : ℕ) (rs : List Record) (i : ℕ) (w : Record) → i < length rs → used context (slice_set rs i w) + used_in context (item_at rs i) ≡ used context rs + used_in context w
used_put context [] i w below = absurd (omega (arith, below))
used_put context (x ∷ rs) zero w below = omega arith
used_put context (x ∷ rs) (suc i) w below = let later = used_put context rs i w (omega (arith, below)) in omega arith

-- one goes, if it was there
pub used_gone : (context : ℕ) (rs : List Record) (i : ℕ) → used context (slice_set rs i Gone) + used_in context (item_at rs i) ≡ used context rs
used_gone context [] i = refl
used_gone context (x ∷ rs) zero = omega arith
used_gone context (x ∷ rs) (suc i) = let later = used_gone context rs i in omega arith

-- one is a part of the sum
pub used_at : (context : ℕ) (rs : List Record) (i : ℕ) → used_in context (item_at rs i) ≤ used context rs
used_at context rs i = let gone = used_gone context rs i in omega (arith, gone)

-- and two are
pub used_pair : (context : ℕ) (rs : List Record) (i j : ℕ) → i ≢ j → used_in context (item_at rs i) + used_in context (item_at rs j) ≤ used context rs
used_pair context [] i j apart = omega arith
used_pair context (x ∷ rs) zero zero apart = absurd (apart refl)
used_pair context (x ∷ rs) zero (suc j) apart = let part = used_at context rs j in omega arith
used_pair context (x ∷ rs) (suc i) zero apart = let part = used_at context rs i in omega arith
used_pair context (x ∷ rs) (suc i) (suc j) apart = let later = used_pair context rs i j (λ same. apart (ap suc same)) in omega arith

-- one more comes
pub used_more : (context : ℕ) (rs : List Record) (w : Record) → used context (rs ++ w ∷ []) ≡ used context rs + used_in context w
used_more context [] w = omega arith
used_more context (x ∷ rs) w = let later = used_more context rs w in omega arith

-- the record in a place, where one was put there
pub item_put : (rs : List Record) (i : ℕ) (w : Record) → i < length rs → item_at (slice_set rs i w) i ≡ w
item_put [] i w below = absurd (omega (arith, below))
item_put (x ∷ rs) zero w below = refl
item_put (x ∷ rs) (suc i) w below = item_put rs i w (omega (arith, below))

pub item_gone : (rs : List Record) (i : ℕ) → item_at (slice_set rs i Gone) i ≡ Gone
item_gone [] i = refl
item_gone (x ∷ rs) zero = refl
item_gone (x ∷ rs) (suc i) = item_gone rs i

-- and the last, where one came there
pub item_last : (rs : List Record) (w : Record) → item_at (rs ++ w ∷ []) (length rs) ≡ w
item_last [] w = refl
item_last (x ∷ rs) w = item_last rs w
