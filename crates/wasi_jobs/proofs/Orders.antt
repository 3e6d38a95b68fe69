-- How numbers and keys compare.
use Rattle.std.proofs.Common.{◌≡◌, ◌≢◌, ℕ, ◌<◌, ◌≤◌, ◌==◌, true, false, ◌&&◌, refl, ◌∙◌, sym, subst, arith, inl, inr}
use Rattle.std.specs.Cmp.{nat_cmp_is, ranked}
use Rattle.std.specs.Ordering.{nat_cmp, ordering_then, is_eq, is_gt, MatchOrdering}
use Rattle.std.specs.BTreeMap.{is_at}
use Rattle.std.specs.declared.cmp.Ordering.{Ordering}
use Rattle.std.specs.declared.cmp.Ordering.TheVariants.{Less, Equal, Greater}
use Rattle.std.proofs.lemmas.Bool.{eq-eqb, ne_eqb, false≢true}
use Rattle.std.proofs.lemmas.Bool.Decides.{eqb_tells}
use Rattle.wasi_jobs.specs.declared.job_list.Key.{Key}
use Rattle.wasi_jobs.specs.Keys.{key_cmp}

pub above : (a b : ℕ) → b < a → nat_cmp a b ≡ Greater
above a b h = sym (nat_cmp_is a b Greater h)

-- a search by the order is one by `==`
pub at_is : (h x : ℕ) → is_at (nat_cmp h) x ≡ (x == h)
at_is h x = by (nat_cmp h x) (ranked h x _ refl)
  where
    apart : x ≢ h → false ≡ (x == h)
    apart n = elim (eqb_tells x h) [ inl t ↦ absurd (n t.1) | inr f ↦ sym f.0 ]

    by : (r : Ordering) → MatchOrdering r (h < x) (h ≡ x) (x < h) → is_eq r ≡ (x == h)
    by Less lt = apart (λ (e : x ≡ h). let k : h < h = subst (λ z. h < z) e lt in omega arith)
    by Equal e = sym (eq-eqb x h (sym e))
    by Greater gt = apart (λ (e : x ≡ h). let k : h < h = subst (λ z. z < h) e gt in omega arith)

pub at_itself : (h : ℕ) → is_at (nat_cmp h) h ≡ true
at_itself h = at_is h h ∙ eq-eqb h h refl

pub at_another : (h x : ℕ) → x ≢ h → is_at (nat_cmp h) x ≡ false
at_another h x other = at_is h x ∙ ne_eqb x h other

-- the key that is found is the one that is looked for
pub key_is : (a b : Key) → is_at (key_cmp a) b ≡ (b.place == a.place && b.number == a.number)
key_is a b = by (nat_cmp a.place b.place) (ranked a.place b.place _ refl)
  where
    by : (r : Ordering) → MatchOrdering r (a.place < b.place) (a.place ≡ b.place) (b.place < a.place)
        → is_eq (ordering_then r (nat_cmp a.number b.number)) ≡ (b.place == a.place && b.number == a.number)
    by Less lt = rw (ne_eqb b.place a.place (λ e. omega (arith, e, lt))) refl
    by Equal e = rw (eq-eqb b.place a.place (sym e)) (at_is a.number b.number)
    by Greater gt = rw (ne_eqb b.place a.place (λ e. omega (arith, e, gt))) refl

-- keys in order have their records in order
pub places_rise : (a b : Key) → is_gt (key_cmp a b) ≡ false → a.place ≤ b.place
places_rise a b = by (nat_cmp a.place b.place) (ranked a.place b.place _ refl)
  where
    by : (r : Ordering) → MatchOrdering r (a.place < b.place) (a.place ≡ b.place) (b.place < a.place)
        → is_gt (ordering_then r (nat_cmp a.number b.number)) ≡ false → a.place ≤ b.place
    by Less lt h = omega (arith, lt)
    by Equal e h = omega (arith, e)
    by Greater gt h = absurd (false≢true (sym h))

up_to : (x y : ℕ) → is_gt (nat_cmp x y) ≡ false → x ≤ y
up_to x y = by (nat_cmp x y) (ranked x y _ refl)
  where
    by : (r : Ordering) → MatchOrdering r (x < y) (x ≡ y) (y < x) → is_gt r ≡ false → x ≤ y
    by Less lt h = omega (arith, lt)
    by Equal e h = omega (arith, e)
    by Greater gt h = absurd (false≢true (sym h))

-- those of one record have their jobs in order
pub numbers_rise : (a b : Key) → a.place ≡ b.place → is_gt (key_cmp a b) ≡ false → a.number ≤ b.number
numbers_rise a b same = by (nat_cmp a.place b.place) (ranked a.place b.place _ refl)
  where
    by : (r : Ordering) → MatchOrdering r (a.place < b.place) (a.place ≡ b.place) (b.place < a.place)
        → is_gt (ordering_then r (nat_cmp a.number b.number)) ≡ false → a.number ≤ b.number
    by Less lt h = absurd (omega (arith, lt, same))
    by Equal e h = up_to _ _ h
    by Greater gt h = absurd (omega (arith, gt, same))

-- and the other way round
pub keys_rise : (a b : Key) → a.place ≡ b.place → a.number ≤ b.number → is_gt (key_cmp a b) ≡ false
keys_rise a b same le = by (nat_cmp a.place b.place) (ranked a.place b.place _ refl)
  where
    in_order : (r : Ordering) → MatchOrdering r (a.number < b.number) (a.number ≡ b.number) (b.number < a.number) → is_gt r ≡ false
    in_order Less lt = refl
    in_order Equal e = refl
    in_order Greater gt = absurd (omega (arith, gt, le))

    by : (r : Ordering) → MatchOrdering r (a.place < b.place) (a.place ≡ b.place) (b.place < a.place)
        → is_gt (ordering_then r (nat_cmp a.number b.number)) ≡ false
    by Less lt = refl
    by Equal e = in_order (nat_cmp a.number b.number) (ranked a.number b.number _ refl)
    by Greater gt = absurd (omega (arith, gt, same))
