-- The table of handles: what is live, and what is a child of what.
use Rattle.std.specs.Prelude.{ℕ, ◌+◌, Bool, false, if◌then◌else◌, ◌==◌, ◌||◌, nat_le, List, [], ◌∷◌, ◌++◌, length, Option, Some, None, refl}
use Rattle.std.specs.Coded.{Coded, code_by, coded×, coded_ℕ, coded_list, coded_option}
use Rattle.wasi_table.specs.declared.table.TableError.{TableError}
use Rattle.wasi_table.specs.declared.table.TableError.TheVariants.{NoSuchHandle, HasChildren, Full, Memory}

-- a live handle with its value, and the handle that it was made a child of
pub record Live (K : Type 0) : Type 0 where
  pub handle : ℕ
  pub value : K
  pub parent : Option ℕ

-- the number of the next handle, and the live ones in the order of their making
pub record Shown (K : Type 0) : Type 0 where
  pub next : ℕ
  pub live : List (Live K)

-- as tuples of their fields
abbrev pub live_code : {K : Type 0} → Coded K → Coded (Live K)
live_code {K} code =
    code_by (ℕ × (K × Option ℕ)) (coded× coded_ℕ (coded× code (coded_option coded_ℕ))) (λ s. (s.handle, (s.value, s.parent))) (λ p. record { handle = p.0; value = p.1.0; parent = p.1.1 }) (λ _. refl)

abbrev pub shown_code : {K : Type 0} → Coded K → Coded (Shown K)
shown_code {K} code = code_by (ℕ × List (Live K)) (coded× coded_ℕ (coded_list (live_code code))) (λ t. (t.next, t.live)) (λ p. record { next = p.0; live = p.1 }) (λ _. refl)

-- the number of an error
abbrev pub number_of : TableError → ℕ
number_of NoSuchHandle = 1
number_of HasChildren = 2
number_of Full = 3
number_of Memory = 4

-- whether a slot with this parent is a child of the handle
abbrev pub is_child : Option ℕ → ℕ → Bool
is_child None handle = false
is_child (Some parent) handle = handle == parent

module _ {K : Type 0} where
  -- nothing is live, and the next handle is 1
  abbrev pub empty : Shown K
  empty = record { next = 1; live = [] }

  -- the value of a handle, if it is live
  abbrev pub value_at : List (Live K) → ℕ → Option K
  value_at [] handle = None
  value_at (s ∷ live) handle = if s.handle == handle then Some s.value else value_at live handle

  -- the live children of a handle, in the order of their making
  abbrev pub children_of : List (Live K) → ℕ → List ℕ
  children_of [] handle = []
  children_of (s ∷ live) handle = if is_child s.parent handle then s.handle ∷ children_of live handle else children_of live handle

  -- with this value of a handle
  abbrev pub with_value : List (Live K) → ℕ → K → List (Live K)
  with_value [] handle value = []
  with_value (s ∷ live) handle value =
      if s.handle == handle then (record s { value = value }) ∷ live else s ∷ with_value live handle value

  -- the slots of the other handles
  abbrev pub without : List (Live K) → ℕ → List (Live K)
  without [] handle = []
  without (s ∷ live) handle = if s.handle == handle then without live handle else s ∷ without live handle

  -- 65,536 are live, or 4,294,967,294 were made
  abbrev pub is_full : Shown K → Bool
  is_full t = nat_le 65536 (length t.live) || nat_le 4294967295 t.next

  -- with one more handle at the end
  abbrev pub pushed : Shown K → K → Option ℕ → Shown K
  pushed t value parent = record { next = t.next + 1; live = t.live ++ record { handle = t.next; value = value; parent = parent } ∷ [] }
