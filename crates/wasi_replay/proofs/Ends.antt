-- What is read at the end of a line, where nothing follows it.
use Rattle.std.proofs.Common.{◌≡◌, ℕ, List, [], ◌∷◌, ◌++◌, Option, Some, None, append-nil, append_assoc, ap, sym, ◌∙◌, refl, option_and_then}
use Rattle.world_text.specs.Fields.{Reader, read_then, give, give_some}
use Rattle.world_text.specs.Written.{ReadsExactly, AreVisible}
use Rattle.world_text.proofs.Exactly.{Only, only_give}

-- What is read is written so, and what is written so is read where nothing follows it.
pub record ReadsLast {A : Type 0} (read : Reader A) (written : A → List (List ℕ)) (Fits : A → Type 0) : Type 0 where
  pub only : (value : A) (fields rest : List (List ℕ)) → read fields ≡ Some (value, rest) → Fits value × (fields ≡ written value ++ rest)
  pub all : (value : A) → Fits value → read (written value) ≡ Some (value, [])

pub last_of : {A : Type 0} {read : Reader A} {written : A → List (List ℕ)} {Fits : A → Type 0} → ReadsExactly read written Fits → ReadsLast read written Fits
last_of exact = record { only = exact.only; all = λ value fits. rw append-nil at (exact.all value [] fits) }

-- This reads the value from these fields, where nothing follows them.
pub record Last {A : Type 0} (read : Reader A) (value : A) (written : List (List ℕ)) : Type 0 where
  pub given : read written ≡ Some (value, [])

pub lastly : {A : Type 0} {read : Reader A} {written : A → List (List ℕ)} {Fits : A → Type 0} → Only read (λ taken value. Fits value × (taken ≡ written value)) → ((value : A) → Fits value → Last read value (written value)) → ReadsLast read written Fits
lastly only all = record {
  only = λ value fields rest h. let is = only.holds value fields rest h in (is.2.0, is.1 ∙ ap (λ taken. taken ++ rest) is.2.1);
  all = λ value fits. (all value fits).given;
}

pub last_give : {A : Type 0} {value : A} → Last (give value) value []
unfolding give
last_give = record { given = refl }

pub last_some : {A : Type 0} (o : Option A) {value : A} → o ≡ Some value → Last (give_some o) value []
unfolding give_some
last_some o h = record { given = rw h refl }

-- the one, and then the last
pub last_then : {A B : Type 0} {read : Reader A} {written : A → List (List ℕ)} {Fits : A → Type 0} (next : A → Reader B) {value : A} {result : B} {more : List (List ℕ)} → ReadsExactly read written Fits → Fits value → Last (next value) result more → Last (read_then read next) result (written value ++ more)
unfolding read_then
last_then next {value} {more = more} one fits two = record { given = rw (one.all value more fits) two.given }

-- the last alone
pub last_alone : {A B : Type 0} {read : Reader A} {written : A → List (List ℕ)} {Fits : A → Type 0} (next : A → Reader B) {value : A} {result : B} → ReadsLast read written Fits → Fits value → Last (next value) result [] → Last (read_then read next) result (written value)
unfolding read_then
last_alone {written = written} next {value} one fits two = record { given = rw (one.all value fits) two.given }

then_found : {A B : Type 0} (found : Option (A × List (List ℕ))) (next : A → Reader B) (result : B) (rest : List (List ℕ)) → option_and_then (λ f. next f.0 f.1) found ≡ Some (result, rest) → (value : A) × (mid : List (List ℕ)) × (found ≡ Some (value, mid)) × (next value mid ≡ Some (result, rest))
then_found None next result rest h = cc
then_found (Some found) next result rest h = (found.0, found.1, refl, h)

only_both : {A B : Type 0} {read : Reader A} (next : A → Reader B) {Q : List (List ℕ) → A → Type 0} {R : List (List ℕ) → B → Type 0} → Only read Q → ((value : A) (taken : List (List ℕ)) → Q taken value → Only (next value) (λ more result. R (taken ++ more) result)) → Only (read_then read next) R
unfolding read_then
only_both {read = read} next first second = record {
  holds = λ result fields rest h.
      let found = then_found (read fields) next result rest h in
      let one = first.holds found.0 fields found.1 found.2 in
      let two = (second found.0 one.0 one.2).holds result found.1 rest found.3 in
      (one.0 ++ two.0, one.1 ∙ (ap (λ mid. one.0 ++ mid) two.1 ∙ sym (append_assoc one.0 two.0 rest)), two.2);
}

-- the one, which may stand at the end, and then the next
pub only_next : {A B : Type 0} {read : Reader A} {written : A → List (List ℕ)} {Fits : A → Type 0} (next : A → Reader B) {Q : List (List ℕ) → B → Type 0} → ReadsLast read written Fits → ((value : A) → Fits value → Only (next value) (λ taken result. Q (written value ++ taken) result)) → Only (read_then read next) Q
only_next {written = written} {Fits} next first second = only_both next {Q = λ taken value. Fits value × (taken ≡ written value)}
    (record { holds = λ value fields rest h. let is = first.only value fields rest h in (written value, is.1, (is.0, refl)) })
    (λ value taken is. rw is.1 (second value is.0))

-- what is made of what was read
pub only_made : {A B : Type 0} {read : Reader A} (make : A → B) {Q : List (List ℕ) → A → Type 0} {R : List (List ℕ) → B → Type 0} → Only read Q → ((value : A) (taken : List (List ℕ)) → Q taken value → R taken (make value)) → Only (read_then read (λ value. give (make value))) R
only_made make one q = only_both (λ value. give (make value)) one (λ value taken is. only_give (make value) (rw append-nil (q value taken is)))

-- fields of visible characters
pub both_visible : (fields more : List (List ℕ)) → AreVisible fields → AreVisible more → AreVisible (fields ++ more)
both_visible [] more h k = k
both_visible (field ∷ fields) more h k = (h.0, both_visible fields more h.1 k)
