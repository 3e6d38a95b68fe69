-- What is live after a change of a table, and whose children are whose.
use Rattle.std.proofs.Common.{◌≡◌, ℕ, ◌==◌, Bool, true, false, cond, None, Some, List, [], ◌∷◌, ◌++◌, refl, ap, ◌∙◌, sym}
use Rattle.std.proofs.lemmas.Bool.{eqb-true}
use Rattle.wasi_table.specs.Table.{Live, is_child, value_at, children_of, with_value, without}

-- a list and its change, with one more child in front of both
pub one_more : (b p : Bool) (n : ℕ) (ids new : List ℕ) (change : List ℕ → List ℕ) → change (n ∷ ids) ≡ n ∷ change ids → new ≡ cond p (change ids) ids → cond b (n ∷ new) new ≡ cond p (change (cond b (n ∷ ids) ids)) (cond b (n ∷ ids) ids)
one_more true true n ids new change c e = ap (λ (l : List ℕ). n ∷ l) e ∙ sym c
one_more true false n ids new change c e = ap (λ (l : List ℕ). n ∷ l) e
one_more false true n ids new change c e = e
one_more false false n ids new change c e = e

module _ {K : Type 0} where
  -- what is live stays live as slots come to the end
  pub value_front : (xs ys : List (Live K)) (h : ℕ) (v : K) → value_at xs h ≡ Some v → value_at (xs ++ ys) h ≡ Some v
  value_front [] ys h v found = absurd (cc)
  value_front (s ∷ xs) ys h v found = by (value_front xs ys h v) (s.handle == h) refl
    where
      by : (value_at xs h ≡ Some v → value_at (xs ++ ys) h ≡ Some v) → (b : Bool) → (s.handle == h) ≡ b → value_at ((s ∷ xs) ++ ys) h ≡ Some v
      by later true e = let f = rw e at found in rw e f
      by later false e = let f = rw e at found in rw e (later f)

  -- a handle that ended isn't live
  pub value_without_it : (live : List (Live K)) (h : ℕ) → value_at (without live h) h ≡ None
  value_without_it [] h = refl
  value_without_it (s ∷ live) h = by (value_without_it live h) (s.handle == h) refl
    where
      by : value_at (without live h) h ≡ None → (b : Bool) → (s.handle == h) ≡ b → value_at (without (s ∷ live) h) h ≡ None
      by later true e = rw e later
      by later false e = rw (e, e) later

  -- what is live after the end of a handle was live before
  pub value_without : (live : List (Live K)) (h k : ℕ) (v : K) → value_at (without live h) k ≡ Some v → value_at live k ≡ Some v
  value_without [] h k v found = absurd (cc)
  value_without (s ∷ live) h k v found = by (value_without live h k v) (s.handle == h) (s.handle == k) refl refl
    where
      by : (value_at (without live h) k ≡ Some v → value_at live k ≡ Some v) → (b c : Bool) → (s.handle == h) ≡ b → (s.handle == k) ≡ c → value_at (s ∷ live) k ≡ Some v
      by later true true e f =
          let same : h ≡ k = sym (eqb-true s.handle h e) ∙ eqb-true s.handle k f in
          let g = rw e at found in
          let n = value_without_it live h in absurd (cc)
      by later true false e f = let g = rw e at found in rw f (later g)
      by later false true e f = let g = rw (e, f) at found in rw f g
      by later false false e f = let g = rw (e, f) at found in rw f (later g)

  -- another value changes no list of children
  pub children_with : (live : List (Live K)) (h k : ℕ) (w : K) → children_of (with_value live h w) k ≡ children_of live k
  children_with [] h k w = refl
  children_with (s ∷ live) h k w = by (children_with live h k w) (s.handle == h) refl
    where
      by : children_of (with_value live h w) k ≡ children_of live k → (b : Bool) → (s.handle == h) ≡ b → children_of (with_value (s ∷ live) h w) k ≡ children_of (s ∷ live) k
      by later true e = rw e refl
      by later false e = rw e (ap (λ (ids : List ℕ). cond (is_child s.parent k) (s.handle ∷ ids) ids) later)

  -- a slot at the end comes to the end of its parent's list
  pub children_push : (xs : List (Live K)) (s : Live K) (k : ℕ) → children_of (xs ++ s ∷ []) k ≡ cond (is_child s.parent k) (children_of xs k ++ s.handle ∷ []) (children_of xs k)
  children_push [] s k = refl
  children_push (x ∷ xs) s k = one_more (is_child x.parent k) (is_child s.parent k) x.handle (children_of xs k) _ (λ ids. ids ++ s.handle ∷ []) refl (children_push xs s k)
