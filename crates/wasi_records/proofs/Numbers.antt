-- How numbers compare.
use Rattle.std.proofs.Common.{◌≡◌, ◌≢◌, ℕ, ◌<◌, ◌==◌, true, false, refl, ◌∙◌, sym, subst, arith, inl, inr}
use Rattle.std.specs.Cmp.{ranked}
use Rattle.std.specs.Ordering.{nat_cmp, is_eq, MatchOrdering}
use Rattle.std.specs.BTreeMap.{is_at}
use Rattle.std.specs.declared.cmp.Ordering.{Ordering}
use Rattle.std.specs.declared.cmp.Ordering.TheVariants.{Less, Equal, Greater}
use Rattle.std.proofs.lemmas.Bool.{eq-eqb, ne_eqb}
use Rattle.std.proofs.lemmas.Bool.Decides.{eqb_tells}

-- a search by the order is one by `==`
pub at_is : (h x : ℕ) → is_at (nat_cmp h) x ≡ (x == h)
at_is h x = by (nat_cmp h x) (ranked h x _ refl)
  where
    apart : x ≢ h → false ≡ (x == h)
    apart n = elim (eqb_tells x h) [ inl t ↦ absurd (n t.1) | inr f ↦ sym f.0 ]

    by : (r : Ordering) → MatchOrdering r (h < x) (h ≡ x) (x < h) → is_eq r ≡ (x == h)
    by Less lt = apart (λ (e : x ≡ h). let k : h < h = subst (λ z. h < z) e lt in omega arith)
    by Equal e = sym (eq-eqb x h (sym e))
    by Greater gt = apart (λ (e : x ≡ h). let k : h < h = subst (λ z. z < h) e gt in omega arith)

pub at_itself : (h : ℕ) → is_at (nat_cmp h) h ≡ true
at_itself h = at_is h h ∙ eq-eqb h h refl

pub at_another : (h x : ℕ) → x ≢ h → is_at (nat_cmp h) x ≡ false
at_another h x other = at_is h x ∙ ne_eqb x h other
