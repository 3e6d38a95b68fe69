-- How readers are put together so that they read exactly what is written.
use Rattle.std.proofs.Common.{◌≡◌, ℕ, ◌≤◌, ◌<◌, ◌^◌, List, [], ◌∷◌, ◌++◌, Option, Some, None, append-nil, append_assoc, ap, sym, ◌∙◌, refl, subst, option_and_then}
use Rattle.world_text.specs.Fields.{Reader, read_then, give, give_some, field_at, number_at}
use Rattle.world_text.specs.Written.{ReadsExactly, number_fields}
use Rattle.world_text.proofs.Numbers.{number_in_is, number_in_decimal}

-- This reads the value from these fields, whatever follows them.
pub record All {A : Type 0} (read : Reader A) (value : A) (written : List (List ℕ)) : Type 0 where
  pub given : (rest : List (List ℕ)) → read (written ++ rest) ≡ Some (value, rest)

-- Of what this reads and the value this holds.
pub record Only {A : Type 0} (read : Reader A) (Q : List (List ℕ) → A → Type 0) : Type 0 where
  pub holds : (value : A) (fields rest : List (List ℕ)) → read fields ≡ Some (value, rest) → (taken : List (List ℕ)) × (fields ≡ taken ++ rest) × Q taken value

pub exactly : {A : Type 0} {read : Reader A} {written : A → List (List ℕ)} {Fits : A → Type 0} → Only read (λ taken value. Fits value × (taken ≡ written value)) → ((value : A) → Fits value → All read value (written value)) → ReadsExactly read written Fits
exactly only all = record {
  only = λ value fields rest h. let found = only.holds value fields rest h in (found.2.0, found.1 ∙ ap (λ taken. taken ++ rest) found.2.1);
  all = λ value rest fits. (all value fits).given rest;
}

-- one result of reading has one value and leaves one list
pub same_found : {A : Type 0} (value other : A) (fields rest : List (List ℕ)) → ◌≡◌ {A = Option (A × List (List ℕ))} (Some (value, fields)) (Some (other, rest)) → (value ≡ other) × (fields ≡ rest)
same_found {A} value other fields rest h =
    let same : ◌≡◌ {A = A × List (List ℕ)} (value, fields) (other, rest) = cc in
    (ap (λ (p : A × List (List ℕ)). p.0) same, ap (λ (p : A × List (List ℕ)). p.1) same)

-- a value, with nothing read
pub all_give : {A : Type 0} {value : A} → All (give value) value []
unfolding give
all_give = record { given = λ rest. refl }

pub only_give : {A : Type 0} (value : A) {Q : List (List ℕ) → A → Type 0} → Q [] value → Only (give value) Q
unfolding give
only_give value {Q} q = record {
  holds = λ other fields rest h. let same = same_found value other fields rest h in ([], same.1, subst (λ v. Q [] v) same.0 q);
}

-- a value where there is one, with nothing read
pub all_some : {A : Type 0} (o : Option A) {value : A} → o ≡ Some value → All (give_some o) value []
unfolding give_some
all_some o h = record { given = λ rest. rw h refl }

pub only_some : {A : Type 0} (o : Option A) {Q : List (List ℕ) → A → Type 0} → ((value : A) → o ≡ Some value → Q [] value) → Only (give_some o) Q
unfolding give_some
only_some None q = record { holds = λ other fields rest h. cc }
only_some (Some value) {Q} q = record {
  holds = λ other fields rest h. let same = same_found value other fields rest h in ([], same.1, subst (λ v. Q [] v) same.0 (q value refl));
}

-- the one, and then the next
then_found : {A B : Type 0} (found : Option (A × List (List ℕ))) (next : A → Reader B) (result : B) (rest : List (List ℕ)) → option_and_then (λ f. next f.0 f.1) found ≡ Some (result, rest) → (value : A) × (mid : List (List ℕ)) × (found ≡ Some (value, mid)) × (next value mid ≡ Some (result, rest))
then_found None next result rest h = cc
then_found (Some found) next result rest h = (found.0, found.1, refl, h)

pub all_both : {A B : Type 0} {read : Reader A} (next : A → Reader B) {value : A} {result : B} {first more : List (List ℕ)} → All read value first → All (next value) result more → All (read_then read next) result (first ++ more)
unfolding read_then
all_both next {value} {result} {first} {more} one two = record {
  given = λ rest. rw (append_assoc first more rest, one.given (more ++ rest)) (two.given rest);
}

pub all_then : {A B : Type 0} {read : Reader A} {written : A → List (List ℕ)} {Fits : A → Type 0} (next : A → Reader B) {value : A} {result : B} {more : List (List ℕ)} → ReadsExactly read written Fits → Fits value → All (next value) result more → All (read_then read next) result (written value ++ more)
all_then next {value} first fits second = all_both next (record { given = λ rest. first.all value rest fits }) second

pub only_then : {A B : Type 0} {read : Reader A} {written : A → List (List ℕ)} {Fits : A → Type 0} (next : A → Reader B) {Q : List (List ℕ) → B → Type 0} → ReadsExactly read written Fits → ((value : A) → Fits value → Only (next value) (λ taken result. Q (written value ++ taken) result)) → Only (read_then read next) Q
unfolding read_then
only_then {read = read} {written} next {Q} first second = record {
  holds = λ result fields rest h.
      let found = then_found (read fields) next result rest h in
      let one = first.only found.0 fields found.1 found.2 in
      let two = (second found.0 one.0).holds result found.1 rest found.3 in
      (written found.0 ++ two.0, one.1 ∙ (ap (λ mid. written found.0 ++ mid) two.1 ∙ sym (append_assoc (written found.0) two.0 rest)), two.2);
}

-- the last, and then a value
pub all_end : {A B : Type 0} {read : Reader A} (next : A → Reader B) {value : A} {result : B} {last : List (List ℕ)} → All read value last → All (next value) result [] → All (read_then read next) result last
all_end next one two = rw append-nil at (all_both next one two)

pub all_last : {A B : Type 0} {read : Reader A} {written : A → List (List ℕ)} {Fits : A → Type 0} (next : A → Reader B) {value : A} {result : B} → ReadsExactly read written Fits → Fits value → All (next value) result [] → All (read_then read next) result (written value)
all_last next {value} first fits second = all_end next (record { given = λ rest. first.all value rest fits }) second

pub only_last : {A B : Type 0} {read : Reader A} {written : A → List (List ℕ)} {Fits : A → Type 0} (make : A → B) {Q : List (List ℕ) → B → Type 0} → ReadsExactly read written Fits → ((value : A) → Fits value → Q (written value) (make value)) → Only (read_then read (λ value. give (make value))) Q
only_last {written = written} make {Q} first q =
    only_then (λ value. give (make value)) first (λ value fits. only_give (make value) (rw append-nil (q value fits)))

-- one field
one_field : (fields : List (List ℕ)) (field : List ℕ) (rest : List (List ℕ)) → field_at fields ≡ Some (field, rest) → fields ≡ field ∷ rest
unfolding field_at
one_field [] field rest h = cc
one_field (first ∷ fields) field rest h = let same = same_found first field fields rest h in cc

pub field_exactly : ReadsExactly field_at (λ field. field ∷ []) (λ field. Unit {0})
unfolding field_at
field_exactly = record { only = λ value fields rest h. (tt, one_field fields value rest h); all = λ value rest u. refl }

pub number_exactly : (most : ℕ) → most < 2 ^ 64 → ReadsExactly (number_at most) number_fields (λ n. n ≤ most)
unfolding number_at
number_exactly most room = exactly
    (only_then _ field_exactly (λ field u. only_some _ (λ n h. let is = number_in_is field most n h in (is.1, ap (λ f. f ∷ []) is.0))))
    (λ n fits. all_then _ field_exactly tt (all_some _ (number_in_decimal _ most n room refl fits)))
