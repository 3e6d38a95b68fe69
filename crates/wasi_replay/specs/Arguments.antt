-- The arguments of calls and of answers, as a log has them: what each kind of them is, and how it is written and read.
use Rattle.std.specs.Prelude.{ℕ, ◌≤◌, if◌then◌else◌, List, [], ◌∷◌, ◌++◌, bytes_eq, flat_map, codes, decimal, Option, Some, None}
use Rattle.std.specs.List.{AllByRecursion}
use Rattle.wasi_addr.specs.declared.address.IpAddress.{IpAddress}
use Rattle.wasi_addr.specs.declared.address.IpSocketAddress.{IpSocketAddress}
use Rattle.wasi_addr.specs.declared.address.ShutdownType.{ShutdownType}
use Rattle.wasi_addr.specs.declared.address.ShutdownType.TheVariants.{Receive, Send, Both}
use Rattle.wasi_addr.specs.declared.address.SocketAddressFamily.{SocketAddressFamily}
use Rattle.wasi_addr.specs.declared.address.SocketAddrUse.{SocketAddrUse}
use Rattle.wasi_addr.specs.declared.code.ErrorCode.{ErrorCode}
use Rattle.wasi_world.specs.declared.call.HandleKind.{HandleKind}
use Rattle.wasi_world.specs.declared.call.Opt.{Opt}
use Rattle.wasi_world.specs.declared.ids.OpId.{OpId}
use Rattle.world_text.specs.EntryText.{use_text, half_text, option_text, handle_kind_text}
use Rattle.world_text.specs.Fields.{Reader, Row, row, after_word, named, ◌>>=◌, give, give_some, field_at, word_at, number_in, number_at, family_at, address_at, code_at, bytes_at, names_at}
use Rattle.world_text.specs.Written.{number_fields, family_fields, ip_fields, address_fields, code_fields, bytes_fields, AreBytes, FitsIp, FitsAddress}
use Rattle.wasi_replay.specs.declared.fields.TheConstants.{USES, OPTIONS, HANDLE_KINDS}

-- == words
-- the use whose word this is
unfoldable pub use_in : List ℕ → Option SocketAddrUse
use_in field = named use_text USES field

unfoldable pub use_at : Reader SocketAddrUse
use_at = do
  field ← field_at
  give_some (use_in field)

-- the option whose word this is
unfoldable pub option_in : List ℕ → Option Opt
option_in field = named option_text OPTIONS field

unfoldable pub option_at : Reader Opt
option_at = do
  field ← field_at
  give_some (option_in field)

-- the kind of handle whose word this is
unfoldable pub handle_kind_in : List ℕ → Option HandleKind
handle_kind_in field = named handle_kind_text HANDLE_KINDS field

unfoldable pub handle_kind_at : Reader HandleKind
handle_kind_at = do
  field ← field_at
  give_some (handle_kind_in field)

-- one half that is shut down
abbrev pub half_words : List (Row ShutdownType)
half_words = row (codes "receive") (give Receive) ∷ row (codes "send") (give Send) ∷ []

unfoldable pub half_at : Reader ShutdownType
half_at = do
  word ← word_at
  after_word half_words word

abbrev pub IsHalf : ShutdownType → Type 0
IsHalf Both = ⊥
IsHalf _ = Unit {0}

-- == names of operations, of sockets and of handles
unfoldable pub sock_at : Reader OpId
sock_at = do
  step ← number_at 4294967295
  part ← number_at 18446744073709551615
  give (record { step = step; part = part })

abbrev pub sock_fields : OpId → List (List ℕ)
sock_fields sock = decimal sock.step ∷ decimal sock.part ∷ []

abbrev pub FitsSock : OpId → Type 0
FitsSock sock = (sock.step ≤ 4294967295) × (sock.part ≤ 18446744073709551615)

-- a handle whose number this is, or none
abbrev pub handle_or_none : List ℕ → Reader (Option ℕ)
handle_or_none word = if bytes_eq word (codes "-") then give None else (give_some (number_in word 4294967295) >>= λ handle. give (Some handle))

unfoldable pub maybe_handle_at : Reader (Option ℕ)
maybe_handle_at = do
  word ← word_at
  handle_or_none word

abbrev pub maybe_handle_fields : Option ℕ → List (List ℕ)
maybe_handle_fields None = codes "-" ∷ []
maybe_handle_fields (Some handle) = decimal handle ∷ []

abbrev pub FitsMaybeHandle : Option ℕ → Type 0
FitsMaybeHandle None = Unit {0}
FitsMaybeHandle (Some handle) = handle ≤ 4294967295

-- a socket whose line's number this is, or none
abbrev pub sock_from : ℕ → Reader (Option OpId)
sock_from step = number_at 18446744073709551615 >>= λ part. give (Some (record { step = step; part = part }))

abbrev pub sock_or_none : List ℕ → Reader (Option OpId)
sock_or_none word = if bytes_eq word (codes "-") then give None else (give_some (number_in word 4294967295) >>= sock_from)

unfoldable pub maybe_sock_at : Reader (Option OpId)
maybe_sock_at = do
  word ← word_at
  sock_or_none word

abbrev pub maybe_sock_fields : Option OpId → List (List ℕ)
maybe_sock_fields None = codes "-" ∷ []
maybe_sock_fields (Some sock) = sock_fields sock

abbrev pub FitsMaybeSock : Option OpId → Type 0
FitsMaybeSock None = Unit {0}
FitsMaybeSock (Some sock) = FitsSock sock

-- == arguments
-- what an argument is: a socket, a number of 32 bits or of 64, a family, an address, a use of one, one half of a connection, an
-- option, bytes, a kind of handle, a handle or none, a socket or none, a code, or addresses up to the end of the line
pub data Kind : Type 0 where
  ASock : Kind
  ANumber : Kind
  AValue : Kind
  AFamily : Kind
  AnAddress : Kind
  AUse : Kind
  AHalf : Kind
  AnOption : Kind
  SomeBytes : Kind
  AHandleKind : Kind
  AParent : Kind
  AMaybeSock : Kind
  ACode : Kind
  SomeIps : Kind

abbrev pub Value : Kind → Type 0
Value ASock = OpId
Value ANumber = ℕ
Value AValue = ℕ
Value AFamily = SocketAddressFamily
Value AnAddress = IpSocketAddress
Value AUse = SocketAddrUse
Value AHalf = ShutdownType
Value AnOption = Opt
Value SomeBytes = List ℕ
Value AHandleKind = HandleKind
Value AParent = Option ℕ
Value AMaybeSock = Option OpId
Value ACode = ErrorCode
Value SomeIps = List IpAddress

-- how it is read
abbrev pub value_at : (kind : Kind) → Reader (Value kind)
value_at ASock = sock_at
value_at ANumber = number_at 4294967295
value_at AValue = number_at 18446744073709551615
value_at AFamily = family_at
value_at AnAddress = address_at
value_at AUse = use_at
value_at AHalf = half_at
value_at AnOption = option_at
value_at SomeBytes = bytes_at
value_at AHandleKind = handle_kind_at
value_at AParent = maybe_handle_at
value_at AMaybeSock = maybe_sock_at
value_at ACode = code_at
value_at SomeIps = names_at

-- how it is written
abbrev pub value_fields : (kind : Kind) → Value kind → List (List ℕ)
value_fields ASock sock = sock_fields sock
value_fields ANumber n = number_fields n
value_fields AValue n = number_fields n
value_fields AFamily family = family_fields family
value_fields AnAddress a = address_fields a
value_fields AUse asked = use_text asked ∷ []
value_fields AHalf how = half_text how ∷ []
value_fields AnOption option = option_text option ∷ []
value_fields SomeBytes bytes = bytes_fields bytes
value_fields AHandleKind kind = handle_kind_text kind ∷ []
value_fields AParent handle = maybe_handle_fields handle
value_fields AMaybeSock sock = maybe_sock_fields sock
value_fields ACode code = code_fields code
value_fields SomeIps addresses = flat_map ip_fields addresses

-- its numbers are within their widths, and a half is one
abbrev pub FitsValue : (kind : Kind) → Value kind → Type 0
FitsValue ASock sock = FitsSock sock
FitsValue ANumber n = n ≤ 4294967295
FitsValue AValue n = n ≤ 18446744073709551615
FitsValue AnAddress a = FitsAddress a
FitsValue AHalf how = IsHalf how
FitsValue SomeBytes bytes = AreBytes bytes
FitsValue AParent handle = FitsMaybeHandle handle
FitsValue AMaybeSock sock = FitsMaybeSock sock
FitsValue SomeIps addresses = AllByRecursion FitsIp addresses
FitsValue _ value = Unit {0}

-- the values of some arguments
abbrev pub Values : List Kind → Type 0
Values [] = Unit {0}
Values (kind ∷ kinds) = Value kind × Values kinds

abbrev pub values_fields : (kinds : List Kind) → Values kinds → List (List ℕ)
values_fields [] values = []
values_fields (kind ∷ kinds) values = value_fields kind values.0 ++ values_fields kinds values.1

abbrev pub FitsValues : (kinds : List Kind) → Values kinds → Type 0
FitsValues [] values = Unit {0}
FitsValues (kind ∷ kinds) values = FitsValue kind values.0 × FitsValues kinds values.1

-- what takes such values, one after another, and makes something of them
abbrev pub Takes : Type 0 → List Kind → Type 0
Takes A [] = A
Takes A (kind ∷ kinds) = Value kind → Takes A kinds

abbrev pub made : {A : Type 0} (kinds : List Kind) → Takes A kinds → Values kinds → A
made [] a values = a
made (kind ∷ kinds) makes values = made kinds (makes values.0) values.1

abbrev pub values_at : {A : Type 0} (kinds : List Kind) → Takes A kinds → Reader A
values_at [] a = give a
values_at (kind ∷ kinds) makes = value_at kind >>= λ value. values_at kinds (makes value)

-- How something is written: its word, and its arguments.
pub record Written : Type 0 where
  pub word : List ℕ
  pub kinds : List Kind
  pub values : Values kinds

abbrev pub fields_of_written : Written → List (List ℕ)
fields_of_written w = w.word ∷ values_fields w.kinds w.values

-- What something is: how it is written, and what makes it of its arguments.
pub record Signature (A : Type 0) : Type 0 where
  pub written : Written
  pub makes : Takes A written.kinds

abbrev pub signed : {A : Type 0} → List ℕ → (kinds : List Kind) → Takes A kinds → Values kinds → Signature A
signed word kinds makes values = record { written = record { word = word; kinds = kinds; values = values }; makes = makes }

-- the row that reads whatever is written with this word
abbrev pub row_of : {A : Type 0} → Signature A → Row A
row_of is = row is.written.word (values_at is.written.kinds is.makes)
