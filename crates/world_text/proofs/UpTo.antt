-- Values that are read up to the end of a line.
use Rattle.std.proofs.Common.{◌≡◌, ℕ, zero, suc, ◌<◌, ◌≤◌, List, [], ◌∷◌, ◌++◌, length, Option, Some, None, refl, sym, ap, ◌∙◌, append_assoc, arith}
use Rattle.std.specs.Prelude.{option_and_then}
use Rattle.wasi_addr.specs.declared.address.IpAddress.{IpAddress}
use Rattle.wasi_addr.specs.declared.address.IpAddress.TheVariants.{Ipv4, Ipv6}
use Rattle.world_text.specs.Fields.{Reader, give, read_then, ip_at}
use Rattle.world_text.specs.Written.{ip_fields}
use Rattle.world_text.specs.Fields.{up_to, names_at}
use Rattle.world_text.proofs.ReadBack.{ip_exactly}

-- a value reads one field at least
some_fields : (value : IpAddress) (rest : List (List ℕ)) → length rest < length (ip_fields value ++ rest)
some_fields (Ipv4 a) rest = omega arith
some_fields (Ipv6 a) rest = omega arith

ip_shrinks : (value : IpAddress) (fields rest : List (List ℕ)) → ip_at fields ≡ Some (value, rest) → length rest < length fields
ip_shrinks value fields rest h = rw (ip_exactly.only value fields rest h).1 (some_fields value rest)

-- values before what is found
abbrev pub before : {A : Type 0} → List A → Option (List A × List (List ℕ)) → Option (List A × List (List ℕ))
before values None = None
before values (Some (more, rest)) = Some (values ++ more, rest)

before_all : {A : Type 0} (values more : List A) (found : Option (List A × List (List ℕ))) → before values (before more found) ≡ before (values ++ more) found
before_all values more None = refl
before_all values more (Some (last, rest)) = ap (λ vs. Some (vs, rest)) (sym (append_assoc values more last))

module _ {A : Type 0} (read : Reader A) (shrinks : (value : A) (fields rest : List (List ℕ)) → read fields ≡ Some (value, rest) → length rest < length fields) where
  then_before : (value : A) (found : Option (List A × List (List ℕ))) → option_and_then (λ f. give (value ∷ f.0) f.1) found ≡ before (value ∷ []) found
  unfolding give
  then_before value None = refl
  then_before value (Some (more, rest)) = refl

  next_value : (n : ℕ) (field : List ℕ) (fields rest : List (List ℕ)) (value : A) → read (field ∷ fields) ≡ Some (value, rest) → up_to read (suc n) (field ∷ fields) ≡ before (value ∷ []) (up_to read n rest)
  unfolding read_then
  next_value n field fields rest value h = rw h (then_before value (up_to read n rest))

  no_value : (n : ℕ) (field : List ℕ) (fields : List (List ℕ)) → read (field ∷ fields) ≡ None → up_to read (suc n) (field ∷ fields) ≡ None
  unfolding read_then
  no_value n field fields h = rw h refl

  same_next : (m n : ℕ) (field : List ℕ) (fields : List (List ℕ)) (found : Option (A × List (List ℕ))) → read (field ∷ fields) ≡ found → length fields ≤ m → length fields ≤ n → ((rest : List (List ℕ)) → length rest ≤ m → length rest ≤ n → up_to read m rest ≡ up_to read n rest) → up_to read (suc m) (field ∷ fields) ≡ up_to read (suc n) (field ∷ fields)
  same_next m n field fields None h within_m within_n again = no_value m field fields h ∙ sym (no_value n field fields h)
  same_next m n field fields (Some (value, rest)) h within_m within_n again =
      let less : length rest < suc (length fields) = shrinks value (field ∷ fields) rest h in
      next_value m field fields rest value h
      ∙ (ap (before (value ∷ [])) (again rest (omega arith) (omega arith))
      ∙ sym (next_value n field fields rest value h))

  -- any number that is enough gives the same
  enough : (m n : ℕ) (fields : List (List ℕ)) → length fields ≤ m → length fields ≤ n → up_to read m fields ≡ up_to read n fields
  enough m n [] h k = refl
  enough zero n (field ∷ fields) h k = absurd (omega arith)
  enough (suc m) zero (field ∷ fields) h k = absurd (omega arith)
  enough (suc m) (suc n) (field ∷ fields) h k = same_next m n field fields (read (field ∷ fields)) refl (omega arith) (omega arith) (λ rest. enough m n rest)

  -- one value, and then the others
  all_next : (fields rest : List (List ℕ)) (value : A) → read fields ≡ Some (value, rest) → up_to read (length fields) fields ≡ before (value ∷ []) (up_to read (length rest) rest)
  all_next [] rest value h = let less : length rest < 0 = shrinks value [] rest h in absurd (omega arith)
  all_next (field ∷ fields) rest value h =
      let less : length rest < suc (length fields) = shrinks value (field ∷ fields) rest h in
      next_value (length fields) field fields rest value h ∙ ap (before (value ∷ [])) (enough (length fields) (length rest) rest (omega arith) (omega arith))

  none_next : (fields : List (List ℕ)) → (fields ≡ [] → ⊥) → read fields ≡ None → up_to read (length fields) fields ≡ None
  none_next [] some h = absurd (some refl)
  none_next (field ∷ fields) some h = no_value (length fields) field fields h

-- addresses up to the end of the line, of which these were read
pub names_next : (first fields rest : List (List ℕ)) (names : List IpAddress) (name : IpAddress) → names_at first ≡ before names (names_at fields) → ip_at fields ≡ Some (name, rest) → names_at first ≡ before (names ++ name ∷ []) (names_at rest)
names_next first fields rest names name h e =
    h ∙ (ap (before names) (all_next ip_at ip_shrinks fields rest name e) ∙ before_all names (name ∷ []) (names_at rest))

pub names_none : (first fields : List (List ℕ)) (names : List IpAddress) → names_at first ≡ before names (names_at fields) → (fields ≡ [] → ⊥) → ip_at fields ≡ None → names_at first ≡ None
names_none first fields names h some e = h ∙ ap (before names) (none_next ip_at ip_shrinks fields some e)

pub names_fewer : (fields rest : List (List ℕ)) (name : IpAddress) → ip_at fields ≡ Some (name, rest) → length rest < length fields
names_fewer fields rest name e = ip_shrinks name fields rest e
