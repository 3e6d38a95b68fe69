-- What the code keeps of the records of a store: a slot in a slab for each that is there, and a map from its number to the slot's key.
use Rattle.std.specs.Prelude.{◌≡◌, ℕ, zero, suc, ◌+◌, ◌<◌, ◌^◌, Bool, ◌&&◌, ◌==◌, if◌then◌else◌, nat_lt, is_some, Option, Some, None, List, [], ◌∷◌, ◌++◌}
use Rattle.std.specs.Option.{unwrap_or}
use Rattle.std.specs.Ordering.{nat_cmp}
use Rattle.std.specs.BTreeMap.{is_at}
use Rattle.std.specs.Map.{lookup}
use Rattle.slab.specs.Slab.{Slab, get, slab_len}
use Rattle.wasi_records.specs.declared.records.Record.{Record}
use Rattle.wasi_records.specs.declared.record_list.NumberedRecord.{NumberedRecord}
use Rattle.wasi_records.specs.Numbered.{or_gone}

-- the key to which a number leads, or 0
abbrev pub key_at : List (ℕ × ℕ) → ℕ → ℕ
key_at keys number = unwrap_or (lookup (is_at (nat_cmp number)) keys) 0

-- the record in a slot, where it is of this number
abbrev pub of_number : ℕ → Option NumberedRecord → Option Record
of_number number None = None
of_number number (Some slot) = if slot.number == number then Some slot.value else None

-- the record of a number, where its slot has this key, or nothing
abbrev pub record_under : Slab NumberedRecord → ℕ → ℕ → Record
record_under slots key number = or_gone (of_number number (get slots key))

-- the record of a number, or nothing
abbrev pub record_in : Slab NumberedRecord → List (ℕ × ℕ) → ℕ → Record
record_in slots keys number = record_under slots (key_at keys number) number

-- the records of the numbers in the map, in order
abbrev pub records_of : Slab NumberedRecord → List (ℕ × ℕ) → List Record
records_of slots [] = []
records_of slots (e ∷ keys) = record_under slots e.1 e.0 ∷ records_of slots keys

-- the records of the numbers below this one
abbrev pub numbered : (ℕ → Record) → ℕ → List Record
numbered f zero = []
numbered f (suc n) = numbered f n ++ f n ∷ []

-- the next number leads somewhere already, one more slot fits, and there is a number after it
abbrev pub has_room : Slab NumberedRecord → List (ℕ × ℕ) → ℕ → Bool
has_room slots keys next =
    is_some (lookup (is_at (nat_cmp next)) keys) && nat_lt (slab_len slots) slots.capacity && nat_lt (next + 1) (2 ^ 64)

-- each slot is where its number leads
abbrev pub IsLed : Slab NumberedRecord → List (ℕ × ℕ) → Type 0
IsLed slots keys = (key : ℕ) (slot : NumberedRecord) → get slots key ≡ Some slot → lookup (is_at (nat_cmp slot.number)) keys ≡ Some key

-- each slot is where its number leads, and has a number that was given
pub record IsSound (slots : Slab NumberedRecord) (keys : List (ℕ × ℕ)) (next : ℕ) : Type 0 where
  pub led : (key : ℕ) (slot : NumberedRecord) → get slots key ≡ Some slot → lookup (is_at (nat_cmp slot.number)) keys ≡ Some key
  pub given : (key : ℕ) (slot : NumberedRecord) → get slots key ≡ Some slot → slot.number < next
