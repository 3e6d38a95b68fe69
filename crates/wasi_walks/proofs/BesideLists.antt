-- The calls that stand beside others, by their numbers: one more, one fewer, and one in the place of another.
use Rattle.std.specs.Prelude.{◌≡◌, ℕ, suc, ◌+◌, nat_lt, ◌==◌, if◌then◌else◌, Bool, true, false, not, List, [], ◌∷◌, ◌++◌, length, Option, Some, None, cond, refl}
use Rattle.std.specs.List.{prefix_len}
use Rattle.std.proofs.Common.{ap, arith, eqb-true, inl, inr, subst, sym, ◌∙◌}
use Rattle.host_store.specs.declared.beside.Beside.{Beside}
use Rattle.host_store.specs.declared.beside.BesideCall.{BesideCall}
use Rattle.host_store.specs.Beside.{beside_in, beside_put, beside_with, beside_without}
use Rattle.wasi_walks.specs.Allowed.{Has}

-- == one in the place of another, by recursion
unfoldable pub replaced : List Beside → ℕ → BesideCall → List Beside
replaced [] line call = []
replaced (b ∷ calls) line call = if b.line == line then record { line = line; call = call } ∷ calls else b ∷ replaced calls line call

below_next : (n m : ℕ) → nat_lt (suc n) (suc m) ≡ nat_lt n m
below_next n m = grind arith

put_later : (b : Beside) (calls : List Beside) (line n : ℕ) (call : BesideCall) (below : Bool) → beside_put (b ∷ calls) line call (cond below (Some (suc n)) None) ≡ b ∷ beside_put calls line call (cond below (Some n) None)
put_later b calls line n call true = refl
put_later b calls line n call false = refl

put_first : (b : Beside) (calls : List Beside) (line n : ℕ) (call : BesideCall) (first : Bool) → (b.line == line) ≡ first
    → beside_put calls line call (cond (nat_lt n (length calls)) (Some n) None) ≡ replaced calls line call
    → beside_put (b ∷ calls) line call (cond (nat_lt (cond (not first) (1 + n) 0) (suc (length calls))) (Some (cond (not first) (1 + n) 0)) None) ≡ replaced (b ∷ calls) line call
unfolding replaced
put_first b calls line n call true e h = let some : nat_lt 0 (suc (length calls)) ≡ true = grind arith in rw (some, e) refl
put_first b calls line n call false e h = let next : 1 + n ≡ suc n = omega arith in rw (next, below_next n (length calls), e) (put_later b calls line n call (nat_lt n (length calls)) ∙ ap (λ (rest : List Beside). b ∷ rest) h)

pub with_replaced : (calls : List Beside) (line : ℕ) (call : BesideCall) → beside_with calls line call ≡ replaced calls line call
unfolding replaced
with_replaced [] line call = refl
with_replaced (b ∷ calls) line call = put_first b calls line (prefix_len (λ (x : Beside). not (x.line == line)) calls) call (b.line == line) refl (with_replaced calls line call)

-- == what is found under a number
-- under its own number it is that, where one was
replaced_at : (calls : List Beside) (n : ℕ) (call : BesideCall) (b : Beside) → beside_in (replaced calls n call) n ≡ Some b → b.call ≡ call
unfolding replaced
replaced_at [] n call b e = absurd (cc)
replaced_at (x ∷ calls) n call b e = by_line (x.line == n) refl (λ q. replaced_at calls n call b q) e
  where
    by_line : (same : Bool) → (x.line == n) ≡ same → (beside_in (replaced calls n call) n ≡ Some b → b.call ≡ call) → beside_in (if same then record { line = n; call = call } ∷ calls else x ∷ replaced calls n call) n ≡ Some b → b.call ≡ call
    by_line true s k q = let same : (n == n) ≡ true = grind arith in let its : Some (let y : Beside = record { line = n; call = call } in y) ≡ Some b = (rw same at q) in sym (ap (λ (o : Option Beside). in_call o) its)
      where
        in_call : Option Beside → BesideCall
        in_call None = call
        in_call (Some y) = y.call
    by_line false s k q = k (rw s at q)

-- under another one it is what it was
replaced_other : (calls : List Beside) (n : ℕ) (call : BesideCall) (k : ℕ) → (k ≡ n → ⊥) → beside_in (replaced calls n call) k ≡ beside_in calls k
unfolding replaced
replaced_other [] n call k d = refl
replaced_other (x ∷ calls) n call k d = by_line (x.line == n) refl (replaced_other calls n call k d)
  where
    by_line : (same : Bool) → (x.line == n) ≡ same → beside_in (replaced calls n call) k ≡ beside_in calls k → beside_in (if same then record { line = n; call = call } ∷ calls else x ∷ replaced calls n call) k ≡ (if x.line == k then Some x else beside_in calls k)
    by_line true s h = let at : x.line ≡ n = eqb-true x.line n s in let other : (n == k) ≡ false = grind arith in rw (at, other) refl
    by_line false s h = rw h refl

pub with_at : (calls : List Beside) (n : ℕ) (call : BesideCall) (b : Beside) → beside_in (beside_with calls n call) n ≡ Some b → b.call ≡ call
with_at calls n call b e = replaced_at calls n call b (rw (with_replaced calls n call) at e)

pub with_other : (calls : List Beside) (n : ℕ) (call : BesideCall) (k : ℕ) → (k ≡ n → ⊥) → beside_in (beside_with calls n call) k ≡ beside_in calls k
with_other calls n call k d = rw (with_replaced calls n call) (replaced_other calls n call k d)

-- one that is over is found no more, and others as before
pub without_at : (calls : List Beside) (n : ℕ) → beside_in (beside_without calls n) n ≡ None
without_at [] n = refl
without_at (x ∷ calls) n = by_line (x.line == n) refl (without_at calls n)
  where
    by_line : (same : Bool) → (x.line == n) ≡ same → beside_in (beside_without calls n) n ≡ None → beside_in (if not same then x ∷ beside_without calls n else beside_without calls n) n ≡ None
    by_line true s h = h
    by_line false s h = rw s h

pub without_other : (calls : List Beside) (n k : ℕ) → (k ≡ n → ⊥) → beside_in (beside_without calls n) k ≡ beside_in calls k
without_other [] n k d = refl
without_other (x ∷ calls) n k d = by_line (x.line == n) refl (without_other calls n k d)
  where
    by_line : (same : Bool) → (x.line == n) ≡ same → beside_in (beside_without calls n) k ≡ beside_in calls k → beside_in (if not same then x ∷ beside_without calls n else beside_without calls n) k ≡ (if x.line == k then Some x else beside_in calls k)
    by_line true s h = let at : x.line ≡ n = eqb-true x.line n s in let other : (n == k) ≡ false = grind arith in rw (at, other) h
    by_line false s h = rw h refl

-- one more is found under its number, where none was; and others as before
pub push_at : (calls : List Beside) (b found : Beside) → beside_in calls b.line ≡ None → beside_in (calls ++ b ∷ []) b.line ≡ Some found → found ≡ b
push_at [] b found none e = let same : (b.line == b.line) ≡ true = grind arith in let its : Some b ≡ Some found = (rw same at e) in cc
push_at (x ∷ calls) b found none e = by_line (x.line == b.line) refl none e (λ p q. push_at calls b found p q)
  where
    by_line : (same : Bool) → (x.line == b.line) ≡ same → (if same then Some x else beside_in calls b.line) ≡ None → (if same then Some x else beside_in (calls ++ b ∷ []) b.line) ≡ Some found → (beside_in calls b.line ≡ None → beside_in (calls ++ b ∷ []) b.line ≡ Some found → found ≡ b) → found ≡ b
    by_line true s none e k = absurd (cc)
    by_line false s none e k = k none e

pub push_other : (calls : List Beside) (b : Beside) (k : ℕ) → (k ≡ b.line → ⊥) → beside_in (calls ++ b ∷ []) k ≡ beside_in calls k
push_other [] b k d = let other : (b.line == k) ≡ false = grind arith in rw other refl
push_other (x ∷ calls) b k d = by_line (x.line == k) (push_other calls b k d)
  where
    by_line : (same : Bool) → beside_in (calls ++ b ∷ []) k ≡ beside_in calls k → (if same then Some x else beside_in (calls ++ b ∷ []) k) ≡ (if same then Some x else beside_in calls k)
    by_line true h = refl
    by_line false h = h

-- what is found under a number is one of them, and has the number
pub found_has : (calls : List Beside) (n : ℕ) (b : Beside) → beside_in calls n ≡ Some b → Has calls b × (b.line ≡ n)
found_has [] n b e = absurd (cc)
found_has (x ∷ calls) n b e = by_line (x.line == n) refl e (λ q. found_has calls n b q)
  where
    by_line : (same : Bool) → (x.line == n) ≡ same → (if same then Some x else beside_in calls n) ≡ Some b → (beside_in calls n ≡ Some b → Has calls b × (b.line ≡ n)) → Has (x ∷ calls) b × (b.line ≡ n)
    by_line true s q k = let its : x ≡ b = cc in (inl its, subst (λ (y : Beside). y.line ≡ n) its (eqb-true x.line n s))
    by_line false s q k = (inr (k q).0, (k q).1)
