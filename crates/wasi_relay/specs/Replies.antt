-- What a relay takes from a reply.
use Rattle.std.specs.Prelude.{ℕ, nat_lt, if◌then◌else◌, List, [], Option, Some, None, slice_get}
use Rattle.wasi_steps.specs.declared.reply.Field.{Field}
use Rattle.wasi_steps.specs.declared.reply.Field.TheVariants.{Number, Bytes}

-- the number of a field, and 0 of another field or of none
abbrev pub field_number : Field → ℕ
field_number (Number n) = n
field_number _ = 0

abbrev pub number_of : Option Field → ℕ
number_of (Some field) = field_number field
number_of None = 0

abbrev pub number_at : List Field → ℕ → ℕ
number_at fields place = number_of (slice_get fields place)

-- a handle has 32 bits; 0 is none
abbrev pub handle_of : ℕ → ℕ
handle_of n = if nat_lt n 4294967296 then n else 0

abbrev pub handle_at : List Field → ℕ → ℕ
handle_at fields place = handle_of (number_at fields place)

-- the bytes of a field, and none of another field or of none
abbrev pub field_bytes : Field → List ℕ
field_bytes (Bytes bytes) = bytes
field_bytes _ = []

abbrev pub bytes_of : Option Field → List ℕ
bytes_of (Some field) = field_bytes field
bytes_of None = []

abbrev pub bytes_at : List Field → ℕ → List ℕ
bytes_at fields place = bytes_of (slice_get fields place)
