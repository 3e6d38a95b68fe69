-- The first call of a number, by its place.
use Rattle.std.specs.Prelude.{◌≡◌, ℕ, suc, ◌+◌, nat_lt, ◌==◌, if◌then◌else◌, Bool, true, false, not, List, [], ◌∷◌, length, Option, Some, None, cond, find, position, slice_get, refl}
use Rattle.std.proofs.Common.{ap, arith, ◌∙◌}
use Rattle.host_store.specs.declared.beside.Beside.{Beside}
use Rattle.host_store.specs.declared.beside.BesideCall.{BesideCall}
use Rattle.host_store.specs.Beside.{beside_put, beside_with, beside_without}
use Rattle.std.specs.List.{prefix_len}

abbrev pub at_place : {X : Type 0} → List X → Option ℕ → Option X
at_place xs None = None
at_place xs (Some i) = slice_get xs i

-- the first that passes is the one at its place
later : {X : Type 0} (x : X) (xs : List X) (n : ℕ) (below : Bool) (o : Option X) → at_place xs (cond below (Some n) None) ≡ o → at_place (x ∷ xs) (cond below (Some (suc n)) None) ≡ o
later x xs n true o h = h
later x xs n false o h = h

below_next : (n m : ℕ) → nat_lt (suc n) (suc m) ≡ nat_lt n m
below_next n m = grind arith

by_first : {X : Type 0} (p : X → Bool) (x : X) (xs : List X) (n : ℕ) (first : Bool) → at_place xs (cond (nat_lt n (length xs)) (Some n) None) ≡ find p xs
    → at_place (x ∷ xs) (cond (nat_lt (cond (not first) (1 + n) 0) (suc (length xs))) (Some (cond (not first) (1 + n) 0)) None) ≡ cond first (Some x) (find p xs)
by_first p x xs n true h = let some : nat_lt 0 (suc (length xs)) ≡ true = grind arith in rw some refl
by_first p x xs n false h = let e : 1 + n ≡ suc n = omega arith in rw (e, below_next n (length xs)) (later x xs n (nat_lt n (length xs)) (find p xs) h)

pub found_at : {X : Type 0} (p : X → Bool) (xs : List X) → at_place xs (position p xs) ≡ find p xs
found_at p [] = refl
found_at p (x ∷ xs) = by_first p x xs (prefix_len (λ y. not (p y)) xs) (p x) (found_at p xs)

-- == a call in the place of another of its number
-- by recursion, as by the place
replaced : List Beside → ℕ → BesideCall → List Beside
replaced [] line call = []
replaced (b ∷ calls) line call = if b.line == line then record { line = line; call = call } ∷ calls else b ∷ replaced calls line call

put_later : (b : Beside) (calls : List Beside) (line n : ℕ) (call : BesideCall) (below : Bool) → beside_put (b ∷ calls) line call (cond below (Some (suc n)) None) ≡ b ∷ beside_put calls line call (cond below (Some n) None)
put_later b calls line n call true = refl
put_later b calls line n call false = refl

put_first : (b : Beside) (calls : List Beside) (line n : ℕ) (call : BesideCall) (first : Bool) → (b.line == line) ≡ first
    → beside_put calls line call (cond (nat_lt n (length calls)) (Some n) None) ≡ replaced calls line call
    → beside_put (b ∷ calls) line call (cond (nat_lt (cond (not first) (1 + n) 0) (suc (length calls))) (Some (cond (not first) (1 + n) 0)) None) ≡ replaced (b ∷ calls) line call
unfolding replaced
put_first b calls line n call true e h = let some : nat_lt 0 (suc (length calls)) ≡ true = grind arith in rw (some, e) refl
put_first b calls line n call false e h = let next : 1 + n ≡ suc n = omega arith in rw (next, below_next n (length calls), e) (put_later b calls line n call (nat_lt n (length calls)) ∙ ap (λ (rest : List Beside). b ∷ rest) h)

with_replaced : (calls : List Beside) (line : ℕ) (call : BesideCall) → beside_with calls line call ≡ replaced calls line call
unfolding replaced
with_replaced [] line call = refl
with_replaced (b ∷ calls) line call = put_first b calls line (prefix_len (λ (x : Beside). not (x.line == line)) calls) call (b.line == line) refl (with_replaced calls line call)

twice : (calls : List Beside) (line : ℕ) (a b : BesideCall) → replaced (replaced calls line a) line b ≡ replaced calls line b
unfolding replaced
twice [] line a b = refl
twice (x ∷ calls) line a b = by_line (x.line == line) refl (twice calls line a b)
  where
    by_line : (same : Bool) → (x.line == line) ≡ same → replaced (replaced calls line a) line b ≡ replaced calls line b → replaced (if same then record { line = line; call = a } ∷ calls else x ∷ replaced calls line a) line b ≡ (if same then record { line = line; call = b } ∷ calls else x ∷ replaced calls line b)
    by_line true e more = let same : (line == line) ≡ true = grind arith in rw same refl
    by_line false e more = rw e (ap (λ (rest : List Beside). x ∷ rest) more)

without_it : (calls : List Beside) (line : ℕ) (a : BesideCall) → beside_without (replaced calls line a) line ≡ beside_without calls line
unfolding replaced
without_it [] line a = refl
without_it (x ∷ calls) line a = by_line (x.line == line) refl (without_it calls line a)
  where
    by_line : (same : Bool) → (x.line == line) ≡ same → beside_without (replaced calls line a) line ≡ beside_without calls line → beside_without (if same then record { line = line; call = a } ∷ calls else x ∷ replaced calls line a) line ≡ (if not same then x ∷ beside_without calls line else beside_without calls line)
    by_line true e more = let same : (line == line) ≡ true = grind arith in rw same refl
    by_line false e more = rw e (ap (λ (rest : List Beside). x ∷ rest) more)

pub with_twice : (calls : List Beside) (line : ℕ) (a b : BesideCall) → beside_with (beside_with calls line a) line b ≡ beside_with calls line b
with_twice calls line a b = rw (with_replaced calls line a, with_replaced (replaced calls line a) line b, with_replaced calls line b) (twice calls line a b)

pub without_with : (calls : List Beside) (line : ℕ) (a : BesideCall) → beside_without (beside_with calls line a) line ≡ beside_without calls line
without_with calls line a = rw (with_replaced calls line a) (without_it calls line a)
