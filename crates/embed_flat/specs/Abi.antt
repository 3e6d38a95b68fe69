-- How a value lies in memory by the component model's canonical ABI: its rules, for the types that wasi:sockets and wasi:io use.
use Rattle.std.specs.Prelude.{ℕ, zero, suc, ◌+◌, ◌-◌, ◌*◌, ◌/◌, max, Bool, if◌then◌else◌, nat_lt, nat_le, IsTrue, List, [], ◌∷◌, ◌++◌, length, replicate, flat_map}
use Rattle.embed_flat.specs.Memory.{low_bytes, put}

-- == types
mutual
  -- a truth value, a number of 8, 16, 32 or 64 bits, a list, a record, an enum of so many cases, a variant with what each case carries.
  -- A tuple is a record, an option and a result are variants, a handle is a number of 32 bits
  pub data Wit : Type 0 where
    Truth : Wit
    U8 : Wit
    U16 : Wit
    U32 : Wit
    U64 : Wit
    AList : Wit → Wit
    ARecord : Wits → Wit
    AnEnum : ℕ → Wit
    AVariant : Wits → Wit

  pub data Wits : Type 0 where
    end : Wits
    ◌◂◌ : Wit → Wits → Wits

infixr 50 ◌◂◌
abbrev pub count : Wits → ℕ
count end = 0
count (t ◂ ts) = suc (count ts)

-- what a case with no payload carries: nothing, which takes no room
abbrev pub nothing : Wit
nothing = ARecord end

-- == sizes
-- the next multiple of an alignment
abbrev pub aligned : ℕ → ℕ → ℕ
aligned at alignment = (at + alignment - 1) / alignment * alignment

-- how many bytes the number of a case takes, of so many cases
abbrev pub discriminant_size : ℕ → ℕ
discriminant_size cases = if nat_le cases 256 then 1 else if nat_le cases 65536 then 2 else 4

abbrev mutual
  pub alignment : Wit → ℕ
  alignment Truth = 1
  alignment U8 = 1
  alignment U16 = 2
  alignment U32 = 4
  alignment U64 = 8
  alignment (AList t) = 4
  alignment (ARecord fields) = greatest_alignment fields
  alignment (AnEnum cases) = discriminant_size cases
  alignment (AVariant cases) = max (discriminant_size (count cases)) (greatest_alignment cases)

  pub greatest_alignment : Wits → ℕ
  greatest_alignment end = 1
  greatest_alignment (t ◂ ts) = max (alignment t) (greatest_alignment ts)

-- where the payload of a variant's case lies in it
abbrev pub payload_place : Wits → ℕ
payload_place cases = aligned (discriminant_size (count cases)) (greatest_alignment cases)

abbrev mutual
  pub size : Wit → ℕ
  size Truth = 1
  size U8 = 1
  size U16 = 2
  size U32 = 4
  size U64 = 8
  size (AList t) = 8
  size (ARecord fields) = aligned (fields_end fields 0) (greatest_alignment fields)
  size (AnEnum cases) = discriminant_size cases
  size (AVariant cases) = aligned (payload_place cases + greatest_size cases) (alignment (AVariant cases))

  -- where fields end whose first lies at this place or behind it
  pub fields_end : Wits → ℕ → ℕ
  fields_end end at = at
  fields_end (t ◂ ts) at = fields_end ts (aligned at (alignment t) + size t)

  pub greatest_size : Wits → ℕ
  greatest_size end = 0
  greatest_size (t ◂ ts) = max (size t) (greatest_size ts)

-- == values
-- A list is where it lies, and its elements; of an enum a case, of a variant a case and what it carries.
abbrev mutual
  pub Value : Wit → Type 0
  Value Truth = Bool
  Value U8 = ℕ
  Value U16 = ℕ
  Value U32 = ℕ
  Value U64 = ℕ
  Value (AList t) = ℕ × List (Value t)
  Value (ARecord fields) = Values fields
  Value (AnEnum cases) = (k : ℕ) × IsTrue (nat_lt k cases)
  Value (AVariant cases) = (k : ℕ) × Payload cases k

  pub Values : Wits → Type 0
  Values end = Unit {0}
  Values (t ◂ ts) = Value t × Values ts

  pub Payload : Wits → ℕ → Type 0
  Payload end k = ⊥
  Payload (t ◂ ts) zero = Value t
  Payload (t ◂ ts) (suc k) = Payload ts k

-- == in memory
abbrev pub padding : ℕ → List ℕ
padding n = replicate n 0

abbrev pub payload_size : Wits → ℕ → ℕ
payload_size end k = 0
payload_size (t ◂ ts) zero = size t
payload_size (t ◂ ts) (suc k) = payload_size ts k

-- the bytes of a value; padding and what a shorter case leaves are 0
abbrev mutual
  pub bytes_of : (t : Wit) → Value t → List ℕ
  bytes_of Truth b = (if b then 1 else 0) ∷ []
  bytes_of U8 n = low_bytes 1 n
  bytes_of U16 n = low_bytes 2 n
  bytes_of U32 n = low_bytes 4 n
  bytes_of U64 n = low_bytes 8 n
  bytes_of (AList t) list = low_bytes 4 list.0 ++ low_bytes 4 (length list.1)
  bytes_of (ARecord ts) values = fields_of ts values 0 ++ padding (size (ARecord ts) - fields_end ts 0)
  bytes_of (AnEnum cases) v = low_bytes (discriminant_size cases) v.0
  bytes_of (AVariant ts) v = low_bytes (discriminant_size (count ts)) v.0 ++ padding (payload_place ts - discriminant_size (count ts))
      ++ payload_of ts v.0 v.1 ++ padding (size (AVariant ts) - payload_place ts - payload_size ts v.0)

  pub fields_of : (ts : Wits) → Values ts → ℕ → List ℕ
  fields_of end values at = []
  fields_of (t ◂ ts) values at = padding (aligned at (alignment t) - at) ++ bytes_of t values.0 ++ fields_of ts values.1 (aligned at (alignment t) + size t)

  pub payload_of : (ts : Wits) → (k : ℕ) → Payload ts k → List ℕ
  payload_of end k v = []
  payload_of (t ◂ ts) zero v = bytes_of t v
  payload_of (t ◂ ts) (suc k) v = payload_of ts k v

-- a memory once elements changed it, one after another
abbrev pub after_each : {A : Type 0} → (A → List ℕ → List ℕ) → List A → List ℕ → List ℕ
after_each f [] memory = memory
after_each f (v ∷ vs) memory = after_each f vs (f v memory)

-- a memory once the lists of a value were put in their places
abbrev mutual
  pub with_lists : (t : Wit) → Value t → List ℕ → List ℕ
  with_lists Truth v memory = memory
  with_lists U8 v memory = memory
  with_lists U16 v memory = memory
  with_lists U32 v memory = memory
  with_lists U64 v memory = memory
  with_lists (AList t) list memory = after_each (with_lists t) list.1 (put memory list.0 (flat_map (bytes_of t) list.1))
  with_lists (ARecord ts) values memory = with_fields ts values memory
  with_lists (AnEnum cases) v memory = memory
  with_lists (AVariant ts) v memory = with_payload ts v.0 v.1 memory

  pub with_fields : (ts : Wits) → Values ts → List ℕ → List ℕ
  with_fields end values memory = memory
  with_fields (t ◂ ts) values memory = with_fields ts values.1 (with_lists t values.0 memory)

  pub with_payload : (ts : Wits) → (k : ℕ) → Payload ts k → List ℕ → List ℕ
  with_payload end k v memory = memory
  with_payload (t ◂ ts) zero v memory = with_lists t v memory
  with_payload (t ◂ ts) (suc k) v memory = with_payload ts k v memory

-- a memory once a value was stored at a place: its lists in theirs, and then its own bytes
abbrev pub stored : (t : Wit) → Value t → ℕ → List ℕ → List ℕ
stored t v at memory = put (with_lists t v memory) at (bytes_of t v)

-- == as arguments
-- how many numbers a value is passed as: of a variant its case, and as many as the longest of its payloads
abbrev mutual
  pub flat_count : Wit → ℕ
  flat_count Truth = 1
  flat_count U8 = 1
  flat_count U16 = 1
  flat_count U32 = 1
  flat_count U64 = 1
  flat_count (AList t) = 2
  flat_count (ARecord fields) = flat_fields fields
  flat_count (AnEnum cases) = 1
  flat_count (AVariant cases) = 1 + flat_greatest cases

  pub flat_fields : Wits → ℕ
  flat_fields end = 0
  flat_fields (t ◂ ts) = flat_count t + flat_fields ts

  pub flat_greatest : Wits → ℕ
  flat_greatest end = 0
  flat_greatest (t ◂ ts) = max (flat_count t) (flat_greatest ts)

abbrev pub payload_count : Wits → ℕ → ℕ
payload_count end k = 0
payload_count (t ◂ ts) zero = flat_count t
payload_count (t ◂ ts) (suc k) = payload_count ts k

-- the numbers that a value is passed as; those that a shorter payload leaves are 0
abbrev mutual
  pub flat : (t : Wit) → Value t → List ℕ
  flat Truth b = (if b then 1 else 0) ∷ []
  flat U8 n = n ∷ []
  flat U16 n = n ∷ []
  flat U32 n = n ∷ []
  flat U64 n = n ∷ []
  flat (AList t) list = list.0 ∷ length list.1 ∷ []
  flat (ARecord ts) values = flat_values ts values
  flat (AnEnum cases) v = v.0 ∷ []
  flat (AVariant ts) v = v.0 ∷ (flat_payload ts v.0 v.1 ++ padding (flat_greatest ts - payload_count ts v.0))

  pub flat_values : (ts : Wits) → Values ts → List ℕ
  flat_values end values = []
  flat_values (t ◂ ts) values = flat t values.0 ++ flat_values ts values.1

  pub flat_payload : (ts : Wits) → (k : ℕ) → Payload ts k → List ℕ
  flat_payload end k v = []
  flat_payload (t ◂ ts) zero v = flat t v
  flat_payload (t ◂ ts) (suc k) v = flat_payload ts k v
