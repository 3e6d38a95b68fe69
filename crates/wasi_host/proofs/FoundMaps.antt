-- What looks found, and the map of what the first look at each pollable found, as a look comes.
use Rattle.std.proofs.Common.{◌≡◌, ◌≢◌, ℕ, ◌==◌, Bool, true, false, cond, is_some, Option, None, Some, List, [], ◌∷◌, ◌++◌, refl, ap, ◌∙◌, sym, inl, inr}
use Rattle.std.proofs.lemmas.Bool.{cases_eq, eq-eqb, ne_eqb}
use Rattle.std.specs.Ordering.{nat_cmp}
use Rattle.std.specs.BTreeMap.{is_at}
use Rattle.wasi_host.specs.Polling.{Found, found_of}
use Rattle.wasi_host.specs.FoundMap.{first_at, KeepsFirst}
use Rattle.wasi_records.proofs.Numbers.{at_itself, at_another}

-- a look more finds nothing of another pollable
found_other : (looks : Found) (p q : ℕ) (ready : Bool) → q ≢ p → found_of (looks ++ (p, ready) ∷ []) q ≡ found_of looks q
found_other [] p q ready other = rw (ne_eqb p q (λ same. other (sym same))) refl
found_other (f ∷ looks) p q ready other = ap (λ (o : Option Bool). cond (f.0 == q) (Some f.1) o) (found_other looks p q ready other)

-- nor of one that was found already
found_again : (looks : Found) (p : ℕ) (ready : Bool) → is_some (found_of looks p) ≡ true → found_of (looks ++ (p, ready) ∷ []) p ≡ found_of looks p
found_again [] p ready there = absurd (cc)
found_again (f ∷ looks) p ready there = by (f.0 == p) (found_again looks p ready) there
  where
    by : (b : Bool) → (is_some (found_of looks p) ≡ true → found_of (looks ++ (p, ready) ∷ []) p ≡ found_of looks p)
        → is_some (cond b (Some f.1) (found_of looks p)) ≡ true → cond b (Some f.1) (found_of (looks ++ (p, ready) ∷ []) p) ≡ cond b (Some f.1) (found_of looks p)
    by true later there = refl
    by false later there = later there

-- one that wasn't is found as it says
found_first : (looks : Found) (p : ℕ) (ready : Bool) → found_of looks p ≡ None → found_of (looks ++ (p, ready) ∷ []) p ≡ Some ready
found_first [] p ready none = rw (eq-eqb p p refl) refl
found_first (f ∷ looks) p ready none = by (f.0 == p) (found_first looks p ready) none
  where
    by : (b : Bool) → (found_of looks p ≡ None → found_of (looks ++ (p, ready) ∷ []) p ≡ Some ready)
        → cond b (Some f.1) (found_of looks p) ≡ None → cond b (Some f.1) (found_of (looks ++ (p, ready) ∷ []) p) ≡ Some ready
    by true later none = absurd (cc)
    by false later none = later none

-- a look comes at a pollable that was looked at, and the map stays
pub keeps_again : (looks : Found) (entries : List (ℕ × Bool)) (p : ℕ) (ready : Bool) → KeepsFirst looks entries → is_some (first_at entries p) ≡ true → KeepsFirst (looks ++ (p, ready) ∷ []) entries
keeps_again looks entries p ready keeps there = record {
  found = λ q. elim (cases_eq q p) [
    | inl same ↦ rw same (keeps.found p ∙ sym (found_again looks p ready (ap is_some (sym (keeps.found p)) ∙ there)))
    | inr other ↦ keeps.found q ∙ sym (found_other looks p q ready other)
  ];
}

-- a look comes at another, and the map has it
is_none : (o : Option Bool) → is_some o ≡ false → o ≡ None
is_none None absent = refl
is_none (Some ready) absent = absurd (cc)

pub keeps_more : (looks : Found) (old new : List (ℕ × Bool)) (p : ℕ) (ready : Bool) → KeepsFirst looks old → is_some (first_at old p) ≡ false
    → ((q : ℕ) → first_at new q ≡ cond (is_at (nat_cmp p) q) (Some ready) (first_at old q)) → KeepsFirst (looks ++ (p, ready) ∷ []) new
keeps_more looks old new p ready keeps absent change = record {
  found = λ q. elim (cases_eq q p) [
    | inl same ↦ rw same (change p ∙ ap (λ (b : Bool). cond b (Some ready) (first_at old p)) (at_itself p) ∙ sym (found_first looks p ready (sym (keeps.found p) ∙ is_none _ absent)))
    | inr other ↦ change q ∙ ap (λ (b : Bool). cond b (Some ready) (first_at old q)) (at_another p q other) ∙ keeps.found q ∙ sym (found_other looks p q ready other)
  ];
}
