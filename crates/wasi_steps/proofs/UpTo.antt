-- Values that are read up to the end of a line are read exactly.
use Rattle.std.proofs.Common.{◌≡◌, ℕ, zero, suc, ◌<◌, ◌≤◌, List, [], ◌∷◌, ◌++◌, length, flat_map, Option, Some, None, refl, sym, ap, ◌∙◌, append_assoc, arith, subst}
use Rattle.std.specs.Prelude.{option_and_then}
use Rattle.std.specs.List.{AllByRecursion}
use Rattle.world_text.specs.Fields.{Reader, give, read_then}
use Rattle.world_text.specs.Written.{ReadsExactly}
use Rattle.world_text.specs.Fields.{up_to}
use Rattle.world_text.proofs.Exactly.{Only, only_then, same_found}
use Rattle.world_text.proofs.UpTo.{before}
use Rattle.wasi_steps.proofs.LineEnds.{only_made}

before_all : {A : Type 0} (values more : List A) (found : Option (List A × List (List ℕ))) → before values (before more found) ≡ before (values ++ more) found
before_all values more None = refl
before_all values more (Some (last, rest)) = ap (λ vs. Some (vs, rest)) (sym (append_assoc values more last))

module _ {A : Type 0} (read : Reader A) (written : A → List (List ℕ)) (Fits : A → Type 0) (exact : ReadsExactly read written Fits) (some : (value : A) (rest : List (List ℕ)) → length rest < length (written value ++ rest)) where
  -- a value takes a field at least
  pub shrinks : (value : A) (fields rest : List (List ℕ)) → read fields ≡ Some (value, rest) → length rest < length fields
  shrinks value fields rest h = rw (exact.only value fields rest h).1 (some value rest)

  then_before : (value : A) (found : Option (List A × List (List ℕ))) → option_and_then (λ f. give (value ∷ f.0) f.1) found ≡ before (value ∷ []) found
  unfolding give
  then_before value None = refl
  then_before value (Some (more, rest)) = refl

  next_value : (n : ℕ) (field : List ℕ) (fields rest : List (List ℕ)) (value : A) → read (field ∷ fields) ≡ Some (value, rest) → up_to read (suc n) (field ∷ fields) ≡ before (value ∷ []) (up_to read n rest)
  unfolding read_then
  next_value n field fields rest value h = rw h (then_before value (up_to read n rest))

  no_value : (n : ℕ) (field : List ℕ) (fields : List (List ℕ)) → read (field ∷ fields) ≡ None → up_to read (suc n) (field ∷ fields) ≡ None
  unfolding read_then
  no_value n field fields h = rw h refl

  same_next : (m n : ℕ) (field : List ℕ) (fields : List (List ℕ)) (found : Option (A × List (List ℕ))) → read (field ∷ fields) ≡ found → length fields ≤ m → length fields ≤ n → ((rest : List (List ℕ)) → length rest ≤ m → length rest ≤ n → up_to read m rest ≡ up_to read n rest) → up_to read (suc m) (field ∷ fields) ≡ up_to read (suc n) (field ∷ fields)
  same_next m n field fields None h within_m within_n again = no_value m field fields h ∙ sym (no_value n field fields h)
  same_next m n field fields (Some (value, rest)) h within_m within_n again =
      let less : length rest < suc (length fields) = shrinks value (field ∷ fields) rest h in
      next_value m field fields rest value h
      ∙ (ap (before (value ∷ [])) (again rest (omega arith) (omega arith))
      ∙ sym (next_value n field fields rest value h))

  -- any number that is enough gives the same
  enough : (m n : ℕ) (fields : List (List ℕ)) → length fields ≤ m → length fields ≤ n → up_to read m fields ≡ up_to read n fields
  enough m n [] h k = refl
  enough zero n (field ∷ fields) h k = absurd (omega arith)
  enough (suc m) zero (field ∷ fields) h k = absurd (omega arith)
  enough (suc m) (suc n) (field ∷ fields) h k = same_next m n field fields (read (field ∷ fields)) refl (omega arith) (omega arith) (λ rest. enough m n rest)

  -- one value, and then the others
  next_is : (fields rest : List (List ℕ)) (value : A) → read fields ≡ Some (value, rest) → up_to read (length fields) fields ≡ before (value ∷ []) (up_to read (length rest) rest)
  next_is [] rest value h = let less : length rest < 0 = shrinks value [] rest h in absurd (omega arith)
  next_is (field ∷ fields) rest value h =
      let less : length rest < suc (length fields) = shrinks value (field ∷ fields) rest h in
      next_value (length fields) field fields rest value h ∙ ap (before (value ∷ [])) (enough (length fields) (length rest) rest (omega arith) (omega arith))

  none_is : (fields : List (List ℕ)) → (fields ≡ [] → ⊥) → read fields ≡ None → up_to read (length fields) fields ≡ None
  none_is [] some h = absurd (some refl)
  none_is (field ∷ fields) some h = no_value (length fields) field fields h

  -- what is left, where some values were read before
  pub up_to_next : (first fields rest : List (List ℕ)) (values : List A) (value : A) → up_to read (length first) first ≡ before values (up_to read (length fields) fields) → read fields ≡ Some (value, rest) → up_to read (length first) first ≡ before (values ++ value ∷ []) (up_to read (length rest) rest)
  up_to_next first fields rest values value h e =
      h ∙ (ap (before values) (next_is fields rest value e) ∙ before_all values (value ∷ []) (up_to read (length rest) rest))

  pub up_to_none : (first fields : List (List ℕ)) (values : List A) → up_to read (length first) first ≡ before values (up_to read (length fields) fields) → (fields ≡ [] → ⊥) → read fields ≡ None → up_to read (length first) first ≡ None
  up_to_none first fields values h some e = h ∙ ap (before values) (none_is fields some e)

  -- what is read is written so
  abbrev IsWritten : List (List ℕ) → List A → Type 0
  IsWritten taken values = AllByRecursion Fits values × (taken ≡ flat_map written values)

  first_only : (n : ℕ) → Only (up_to read n) IsWritten → Only (read_then read (λ value. read_then (up_to read n) (λ values. give (value ∷ values)))) IsWritten
  first_only n others = only_then _ exact (λ value fits. only_made (λ values. value ∷ values) others (λ values taken is. ((fits, is.0), ap (λ more. written value ++ more) is.1)))

  only_at : (n : ℕ) (values : List A) (fields rest : List (List ℕ)) → up_to read n fields ≡ Some (values, rest) → (taken : List (List ℕ)) × (fields ≡ taken ++ rest) × IsWritten taken values
  only_at n values [] rest h =
      let same = same_found [] values [] rest h in
      ([], same.1, subst (λ vs. IsWritten [] vs) same.0 (tt, refl))
  only_at zero values (field ∷ fields) rest h = cc
  only_at (suc n) values (field ∷ fields) rest h = (first_only n (record { holds = λ vs fs left e. only_at n vs fs left e })).holds values (field ∷ fields) rest h

  -- and what is written so is read
  pub up_to_all : (values : List A) → AllByRecursion Fits values → up_to read (length (flat_map written values)) (flat_map written values) ≡ Some (values, [])
  up_to_all [] fits = refl
  up_to_all (value ∷ values) fits =
      next_is (written value ++ flat_map written values) (flat_map written values) value (exact.all value (flat_map written values) fits.0)
      ∙ ap (before (value ∷ [])) (up_to_all values fits.1)

  pub up_to_is : (values : List A) (fields rest : List (List ℕ)) → up_to read (length fields) fields ≡ Some (values, rest) → AllByRecursion Fits values × (fields ≡ flat_map written values ++ rest)
  up_to_is values fields rest h =
      let is = only_at (length fields) values fields rest h in
      (is.2.0, is.1 ∙ ap (λ taken. taken ++ rest) is.2.1)
