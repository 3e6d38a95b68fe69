-- The texts of replies, and which replies a step may give.
use Rattle.std.specs.List.{AllByRecursion}
use Rattle.std.specs.Prelude.{◌≡◌, ℕ, ◌<◌, ◌≤◌, ◌^◌, Bool, true, false, length, List, [], ◌∷◌, ◌++◌, map, codes, decimal, ◌⊎◌}
use Rattle.wasi_world.specs.declared.outcome.TrapKind.{TrapKind}
use Rattle.wasi_world.specs.declared.outcome.TrapKind.TheVariants as trap
use Rattle.world_text.specs.Fields.{line_with, bytes_text}
use Rattle.wasi_addr.specs.declared.address.IpAddress.{IpAddress}
use Rattle.wasi_addr.specs.declared.address.IpSocketAddress.{IpSocketAddress}
use Rattle.wasi_world.specs.declared.datagram.IncomingDatagram.{IncomingDatagram}
use Rattle.world_text.specs.Written.{AreBytes, FitsIp, FitsAddress}
use Rattle.wasi_steps.specs.declared.reply.CodeWord.{CodeWord}
use Rattle.wasi_steps.specs.declared.reply.CodeWord.TheVariants as word
use Rattle.wasi_steps.specs.declared.reply.Field.{Field}
use Rattle.wasi_steps.specs.declared.reply.Field.TheVariants as field
use Rattle.wasi_steps.specs.declared.reply.Reply.{Reply}
use Rattle.wasi_steps.specs.declared.reply.Reply.TheVariants as reply
use Rattle.wasi_steps.specs.Reply.{ip_values, ips_values, address_values, received_values, datagram_values, numbers_fields}
use Rattle.wasi_steps.specs.declared.step.Step.{Step}
use Rattle.wasi_steps.specs.declared.step.Step.TheVariants as step
pub use Rattle.wasi_steps.specs.Steps.{FieldKind, ANumber, SomeBytes, Truth, Nothing, FieldKinds, Each, AnAddress, AnIpOrNone, ADatagramList, SomeNumbers, SomeIps, OneDatagram, OfAPolledCall, polled_kinds, polled_fields, kinds_of}

-- the words of codes
abbrev pub code_text : CodeWord → List ℕ
code_text word.Unknown = codes "unknown"
code_text word.AccessDenied = codes "access-denied"
code_text word.NotSupported = codes "not-supported"
code_text word.InvalidArgument = codes "invalid-argument"
code_text word.OutOfMemory = codes "out-of-memory"
code_text word.Timeout = codes "timeout"
code_text word.ConcurrencyConflict = codes "concurrency-conflict"
code_text word.NotInProgress = codes "not-in-progress"
code_text word.WouldBlock = codes "would-block"
code_text word.InvalidState = codes "invalid-state"
code_text word.NewSocketLimit = codes "new-socket-limit"
code_text word.AddressNotBindable = codes "address-not-bindable"
code_text word.AddressInUse = codes "address-in-use"
code_text word.RemoteUnreachable = codes "remote-unreachable"
code_text word.ConnectionRefused = codes "connection-refused"
code_text word.ConnectionBroken = codes "connection-broken"
code_text word.ConnectionReset = codes "connection-reset"
code_text word.ConnectionAborted = codes "connection-aborted"
code_text word.DatagramTooLarge = codes "datagram-too-large"
code_text word.NameUnresolvable = codes "name-unresolvable"
code_text word.TemporaryResolverFailure = codes "temporary-resolver-failure"
code_text word.PermanentResolverFailure = codes "permanent-resolver-failure"
code_text word.Other = codes "other"

-- the words of traps
abbrev pub trap_text : TrapKind → List ℕ
trap_text trap.NoSuchHandle = codes "no-such-handle"
trap_text trap.HasChildren = codes "has-children"
trap_text trap.Full = codes "full"
trap_text trap.EmptyList = codes "empty-list"
trap_text trap.NotPermitted = codes "not-permitted"
trap_text trap.Capacity = codes "capacity"
trap_text trap.TooLong = codes "too-long"
trap_text trap.StreamsAlive = codes "streams-alive"
trap_text trap.Budget = codes "budget"
trap_text trap.FlushPending = codes "flush-pending"

abbrev pub field_text : Field → List ℕ
field_text (field.Number n) = decimal n
field_text (field.Bytes bytes) = bytes_text bytes
field_text field.True = codes "true"
field_text field.False = codes "false"
field_text field.Absent = codes "none"

-- the words and fields of a reply
abbrev pub fields_of_reply : Reply → List (List ℕ)
fields_of_reply (reply.Ok fields) = codes "ok" ∷ map field_text fields
fields_of_reply (reply.Err code) = codes "err" ∷ code_text code ∷ []
fields_of_reply reply.Closed = codes "closed" ∷ []
fields_of_reply (reply.Failed code handle) = codes "failed" ∷ code_text code ∷ decimal handle ∷ []
fields_of_reply (reply.Trap kind) = codes "trap" ∷ trap_text kind ∷ []
fields_of_reply (reply.Pending n) = codes "pending" ∷ decimal n ∷ []
fields_of_reply reply.Busy = codes "busy" ∷ []
fields_of_reply reply.NoSuchCall = codes "no-such-call" ∷ []
fields_of_reply reply.Cancelled = codes "cancelled" ∷ []
fields_of_reply reply.Dropped = codes "dropped" ∷ []
fields_of_reply reply.Unfilled = codes "unfilled" ∷ []

-- one line
unfoldable pub text_of : Reply → List ℕ
text_of r = line_with (fields_of_reply r) ++ codes "\n"

abbrev pub IsOfKind : FieldKind → Field → Type 0
IsOfKind ANumber (field.Number n) = n < 2 ^ 64
IsOfKind SomeBytes (field.Bytes bytes) = AreBytes bytes
IsOfKind Truth field.True = Unit {0}
IsOfKind Truth field.False = Unit {0}
IsOfKind Nothing field.Absent = Unit {0}
IsOfKind _ _ = ⊥

abbrev pub EachOfKind : List FieldKind → List Field → Type 0
EachOfKind [] [] = Unit {0}
EachOfKind (kind ∷ kinds) (f ∷ fields) = IsOfKind kind f × EachOfKind kinds fields
EachOfKind [] (f ∷ fields) = ⊥
EachOfKind (kind ∷ kinds) [] = ⊥

-- These are the numbers that an address is written as.
pub record AreAnAddress (fields : List Field) : Type 0 where
  pub address : IpSocketAddress
  pub fits : FitsAddress address
  pub numbers : fields ≡ address_values address

-- These are the numbers that an address with no port is written as.
pub record AreAnIp (fields : List Field) : Type 0 where
  pub address : IpAddress
  pub fits : FitsIp address
  pub numbers : fields ≡ ip_values address

abbrev pub FitsReceived : IncomingDatagram → Type 0
FitsReceived d = FitsAddress d.remote_address × AreBytes d.bytes

-- These are the number of some datagrams, and then who sent each and its bytes.
pub record AreDatagrams (fields : List Field) : Type 0 where
  pub datagrams : List IncomingDatagram
  pub count : length datagrams < 2 ^ 64
  pub fits : AllByRecursion FitsReceived datagrams
  pub values : fields ≡ datagram_values datagrams

-- These are who sent a datagram, and its bytes.
pub record AreADatagram (fields : List Field) : Type 0 where
  pub datagram : IncomingDatagram
  pub fits : FitsReceived datagram
  pub values : fields ≡ received_values datagram

-- These are numbers, one at least.
pub record AreNumbers (fields : List Field) : Type 0 where
  pub first : ℕ
  pub others : List ℕ
  pub fits : AllByRecursion (λ n. n < 2 ^ 64) (first ∷ others)
  pub values : fields ≡ numbers_fields (first ∷ others)

-- These are the numbers that some addresses with no port are written as.
pub record AreIps (fields : List Field) : Type 0 where
  pub addresses : List IpAddress
  pub fits : AllByRecursion FitsIp addresses
  pub numbers : fields ≡ ips_values addresses

-- one field of each kind in one of the lists
abbrev pub AsOneSays : List (List FieldKind) → List Field → Type 0
AsOneSays [] fields = ⊥
AsOneSays (kinds ∷ lists) fields = EachOfKind kinds fields ⊎ AsOneSays lists fields

abbrev pub AreOfKinds : FieldKinds → List Field → Type 0
AreOfKinds (Each kinds) fields = EachOfKind kinds fields
AreOfKinds AnAddress fields = AreAnAddress fields
AreOfKinds AnIpOrNone fields = (fields ≡ field.Absent ∷ []) ⊎ AreAnIp fields
AreOfKinds ADatagramList fields = AreDatagrams fields
AreOfKinds SomeNumbers fields = AreNumbers fields
AreOfKinds SomeIps fields = AreIps fields
AreOfKinds OneDatagram fields = AreADatagram fields
AreOfKinds OfAPolledCall fields = AsOneSays polled_kinds fields ⊎ (AreNumbers fields ⊎ (AreIps fields ⊎ AreADatagram fields))

-- a reply with fields of these kinds where it has any, and with numbers that are within their widths
abbrev pub GivesAs : FieldKinds → Reply → Type 0
GivesAs kinds (reply.Ok fields) = AreOfKinds kinds fields
GivesAs kinds (reply.Failed code handle) = handle ≤ 4294967295
GivesAs kinds (reply.Pending n) = n ≤ 4294967295
GivesAs kinds _ = Unit {0}

-- a reply that the step may give
abbrev pub Gives : Step → Reply → Type 0
Gives s r = GivesAs (kinds_of s) r

-- a poll, which may give what any call that can be pending gives
abbrev pub is_poll : Step → Bool
is_poll (step.Poll call) = true
is_poll _ = false
