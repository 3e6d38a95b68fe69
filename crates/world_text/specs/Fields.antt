-- The fields of a line, and what is at the front of them.
use Rattle.std.specs.Prelude.{◌≡◌, ℕ, zero, suc, Bool, ◌==◌, ◌&&◌, nat_le, if◌then◌else◌, List, [], ◌∷◌, bytes_eq, ◌⊎◌, slice_index, codes, decimal, find, not, length, ◌||◌, Option, Some, None, option_and_then, option_copied, MatchOption}
use Rattle.std.specs.Option.{option_map_or}
use Rattle.std.specs.Str.{is_utf8}
use Rattle.std.specs.Str.Parse.{digits_value}
use Rattle.std.specs.List.{slice_split, join_with_byte, list_all}
use Rattle.std.specs.Result.{result_ok}
use Rattle.hex.specs.Hex.{encode_lower, decode_of}
use Rattle.std.specs.Int.{IsInRange}
use Rattle.std.specs.Borrow.{Bor}
use Rattle.world_text.specs.declared.fields.TheConstants.{CODES}
use Rattle.wasi_addr.specs.declared.code.ErrorCode.{ErrorCode}
use Rattle.wasi_addr.specs.declared.code.ErrorCode.TheVariants as base
use Rattle.wasi_addr.specs.declared.address.SocketAddressFamily.{SocketAddressFamily}
use Rattle.wasi_addr.specs.declared.address.SocketAddressFamily.TheVariants as family
use Rattle.wasi_addr.specs.declared.address.IpAddress.{IpAddress}
use Rattle.wasi_addr.specs.declared.address.IpAddress.TheVariants as ip
use Rattle.wasi_addr.specs.declared.address.IpSocketAddress.{IpSocketAddress}
use Rattle.wasi_addr.specs.declared.address.IpSocketAddress.TheVariants as socket

-- the byte between two fields
abbrev pub is_space : ℕ → Bool
is_space b = b == 32

-- the fields of a line, which are between its spaces; an empty line has one empty field
abbrev pub fields_of : List ℕ → List (List ℕ)
fields_of line = slice_split is_space line

-- the line that has these fields
abbrev pub line_with : List (List ℕ) → List ℕ
line_with fields = join_with_byte 32 fields

-- the fields of what is left of a line, where something is left
abbrev pub fields_left : Option (Bor (List ℕ)) → List (List ℕ)
fields_left rest = option_map_or fields_of (option_copied rest) []

-- What reads from the front of the fields: a value and the fields that are left, or none.
abbrev pub Reader : Type 0 → Type 0
Reader A = List (List ℕ) → Option (A × List (List ℕ))

-- a value, with nothing read
unfoldable pub give : {A : Type 0} → A → Reader A
give value fields = Some (value, fields)

-- a value where there is one, with nothing read
unfoldable pub give_some : {A : Type 0} → Option A → Reader A
give_some None fields = None
give_some (Some value) fields = Some (value, fields)

-- the one, and then the next, which may look at what the one read
unfoldable pub read_then : {A B : Type 0} → Reader A → (A → Reader B) → Reader B
read_then read next fields = option_and_then (λ found. next found.0 found.1) (read fields)

infixl 10 ◌>>=◌
abbrev pub ◌>>=◌ : {A B : Type 0} → Reader A → (A → Reader B) → Reader B
read >>= next = read_then read next

-- A call took from the old fields what this reads, left the new ones, and answers the value.
abbrev pub Reads : {A : Type 0} → Reader A → List (List ℕ) → Option A → List (List ℕ) → Type 0
Reads read old result new = MatchOption result (read old ≡ None) (λ value. read old ≡ Some (value, new))

-- the value, if no field is left
abbrev pub whole : {A : Type 0} → Option (A × List (List ℕ)) → Option A
whole None = None
whole (Some (value, [])) = Some value
whole (Some (value, field ∷ rest)) = None

-- the first of these that has this name
abbrev pub named : {A : Type 0} → (A → List ℕ) → List A → List ℕ → Option A
named name_of all name = find (λ a. bytes_eq (name_of a) name) all

-- one field
unfoldable pub field_at : Reader (List ℕ)
field_at [] = None
field_at (field ∷ rest) = Some (field, rest)

-- no space is in the field, as in each field of a line
abbrev pub has_no_space : List ℕ → Bool
has_no_space field = list_all (λ b. not (is_space b)) field

-- all that is left of a line, with the spaces in it
abbrev pub joined : List (List ℕ) → Option (List ℕ × List (List ℕ))
joined fields = if list_all has_no_space fields then Some (line_with fields, []) else None

unfoldable pub rest_at : Reader (List ℕ)
rest_at [] = None
rest_at (field ∷ rest) = joined (field ∷ rest)

-- one field that is text
unfoldable pub word_at : Reader (List ℕ)
word_at = do
  field ← field_at
  give_some (if is_utf8 field then Some field else None)

-- `0`, or a text that begins with one of `1` to `9`
abbrev pub BeginsPlain : List ℕ → Type 0
BeginsPlain text = (text ≡ codes "0") ⊎ IsInRange 49 57 (slice_index text 0)

-- the number that a field is, where it is at most this: its decimal digits, with no sign and no leading zero
unfoldable pub number_in : List ℕ → ℕ → Option ℕ
number_in field most = let n = digits_value 10 field in if bytes_eq field (decimal n) && nat_le n most then Some n else None

unfoldable pub number_at : ℕ → Reader ℕ
number_at most = do
  field ← field_at
  give_some (number_in field most)

-- 4 or 6
abbrev pub family_of : ℕ → Option SocketAddressFamily
family_of n = if n == 4 then Some family.Ipv4 else (if n == 6 then Some family.Ipv6 else None)

unfoldable pub family_at : Reader SocketAddressFamily
family_at = do
  n ← number_at 6
  give_some (family_of n)

-- four bytes
unfoldable pub ipv4_at : Reader (ℕ × ℕ × ℕ × ℕ)
ipv4_at = do
  a ← number_at 255
  b ← number_at 255
  c ← number_at 255
  d ← number_at 255
  give (a, b, c, d)

-- eight numbers of 16 bits
unfoldable pub ipv6_at : Reader (ℕ × ℕ × ℕ × ℕ × ℕ × ℕ × ℕ × ℕ)
ipv6_at = do
  a ← number_at 65535
  b ← number_at 65535
  c ← number_at 65535
  d ← number_at 65535
  e ← number_at 65535
  f ← number_at 65535
  g ← number_at 65535
  h ← number_at 65535
  give (a, b, c, d, e, f, g, h)

-- the family, and then its bytes or segments
abbrev pub ip_of_family : SocketAddressFamily → Reader IpAddress
ip_of_family family.Ipv4 = do
  a ← ipv4_at
  give (ip.Ipv4 a)
ip_of_family family.Ipv6 = do
  a ← ipv6_at
  give (ip.Ipv6 a)

unfoldable pub ip_at : Reader IpAddress
ip_at = do
  f ← family_at
  ip_of_family f

-- an address, its port, and in IPv6 its flow and its scope
abbrev pub address_of_family : SocketAddressFamily → Reader IpSocketAddress
address_of_family family.Ipv4 = do
  a ← ipv4_at
  port ← number_at 65535
  give (socket.Ipv4 (record { port = port; address = a }))
address_of_family family.Ipv6 = do
  a ← ipv6_at
  port ← number_at 65535
  flow ← number_at 4294967295
  scope ← number_at 4294967295
  give (socket.Ipv6 (record { port = port; flow_info = flow; address = a; scope_id = scope }))

unfoldable pub address_at : Reader IpSocketAddress
address_at = do
  f ← family_at
  address_of_family f

-- the word of a code: its name, in lower case and with dashes
abbrev pub code_text : ErrorCode → List ℕ
code_text base.AccessDenied = codes "access-denied"
code_text base.NotSupported = codes "not-supported"
code_text base.InvalidArgument = codes "invalid-argument"
code_text base.OutOfMemory = codes "out-of-memory"
code_text base.Timeout = codes "timeout"
code_text base.InvalidState = codes "invalid-state"
code_text base.AddressNotBindable = codes "address-not-bindable"
code_text base.AddressInUse = codes "address-in-use"
code_text base.RemoteUnreachable = codes "remote-unreachable"
code_text base.ConnectionRefused = codes "connection-refused"
code_text base.ConnectionBroken = codes "connection-broken"
code_text base.ConnectionReset = codes "connection-reset"
code_text base.ConnectionAborted = codes "connection-aborted"
code_text base.DatagramTooLarge = codes "datagram-too-large"
code_text base.Other = codes "other"

-- the code whose word a field is
unfoldable pub code_in : List ℕ → Option ErrorCode
code_in field = named code_text CODES field

unfoldable pub code_at : Reader ErrorCode
code_at = do
  field ← field_at
  give_some (code_in field)

-- `0` to `9` and `a` to `f`
abbrev pub is_lower_digit : ℕ → Bool
is_lower_digit b = (nat_le 48 b && nat_le b 57) || (nat_le 97 b && nat_le b 102)

abbrev pub is_lower_hex : List ℕ → Bool
is_lower_hex field = not (length field == 0) && list_all is_lower_digit field

-- the text of bytes: `-` for none, else two digits for each
abbrev pub bytes_text : List ℕ → List ℕ
bytes_text [] = codes "-"
bytes_text (byte ∷ bytes) = encode_lower (byte ∷ bytes)

-- the bytes that a field says
unfoldable pub bytes_in : List ℕ → Option (List ℕ)
bytes_in field =
    if bytes_eq field (codes "-") then Some []
    else (if is_lower_hex field then result_ok (decode_of field) else None)

unfoldable pub bytes_at : Reader (List ℕ)
bytes_at = do
  field ← field_at
  give_some (bytes_in field)

-- A row of a table of words: a word, and what reads the fields that follow it.
pub record Row (A : Type 0) : Type 0 where
  pub word : List ℕ
  pub reads : Reader A

abbrev pub row : {A : Type 0} → List ℕ → Reader A → Row A
row word reads = record { word = word; reads = reads }

-- what reads the fields that follow a word: its first row's, and nothing does where it has none
abbrev pub after_word : {A : Type 0} → List (Row A) → List ℕ → Reader A
after_word [] word = give_some None
after_word (r ∷ rows) word = if bytes_eq r.word word then r.reads else after_word rows word

-- values up to the end of the line, at most so many
abbrev pub up_to : {A : Type 0} → Reader A → ℕ → Reader (List A)
up_to read n [] = Some ([], [])
up_to read zero (field ∷ fields) = None
up_to read (suc n) (field ∷ fields) = (read >>= λ value. up_to read n >>= λ values. give (value ∷ values)) (field ∷ fields)

-- addresses up to the end of the line; each has a field at least
abbrev pub names_at : Reader (List IpAddress)
names_at fields = up_to ip_at (length fields) fields
