-- The records of which one was given back: what is there was there before, and of another number it still is.
use Rattle.std.proofs.Common.{◌≡◌, ℕ, zero, suc, List, [], ◌∷◌, Option, Some, None, refl, slice_get}
use Rattle.wasi_records.specs.declared.records.Record.{Record}
use Rattle.wasi_records.specs.declared.records.Record.TheVariants.{Gone}
use Rattle.wasi_records.specs.Numbered.{record_gone}

-- by a reading of records by which one that is given back is nothing
module _ {A : Type 0} (f : Option Record → Option A) (none : f (Some Gone) ≡ None) where
  pub was_there : (xs : List Record) (i k : ℕ) (x : A) → f (slice_get (record_gone xs i) k) ≡ Some x → f (slice_get xs k) ≡ Some x
  was_there [] i k x e = e
  was_there (z ∷ xs) zero zero x e = absurd (cc)
  was_there (z ∷ xs) zero (suc k) x e = e
  was_there (z ∷ xs) (suc i) zero x e = e
  was_there (z ∷ xs) (suc i) (suc k) x e = was_there xs i k x e

  -- at its number is nothing
  pub is_gone : f None ≡ None → (xs : List Record) (i : ℕ) → f (slice_get (record_gone xs i) i) ≡ None
  is_gone out [] i = out
  is_gone out (z ∷ xs) zero = none
  is_gone out (z ∷ xs) (suc i) = is_gone out xs i

-- what is another by this reading is as it was
pub stays_there : {A : Type 0} (f : Option Record → Option A) (xs : List Record) (i k : ℕ) (x : A) → (k ≡ i → ⊥) → f (slice_get xs k) ≡ Some x → f (slice_get (record_gone xs i) k) ≡ Some x
stays_there f [] i k x other e = e
stays_there f (z ∷ xs) zero zero x other e = absurd (other refl)
stays_there f (z ∷ xs) zero (suc k) x other e = e
stays_there f (z ∷ xs) (suc i) zero x other e = e
stays_there f (z ∷ xs) (suc i) (suc k) x other e = stays_there f xs i k x (λ same. other (let p : k ≡ i = same in cc)) e
