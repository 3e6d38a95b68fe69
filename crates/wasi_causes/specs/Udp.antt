-- How the steps of UDP sockets are answered: where each answer comes from, and what is left afterwards.
use Rattle.wasi_causes.specs.Blocking.{GivesOf}
use Rattle.wasi_causes.specs.GivenUp.{giving_back}
use Rattle.std.specs.Prelude.{◌≡◌, ℕ, ◌<◌, ◌≤◌, true, false, length, List, [], ◌∷◌, ◌++◌, Option, Some, None, IsSome, IsSomeAnd}
use Rattle.wasi_addr.specs.declared.address.IpSocketAddress.{IpSocketAddress}
use Rattle.wasi_addr.specs.declared.address.SocketAddressFamily.{SocketAddressFamily}
use Rattle.wasi_addr.specs.declared.address.SocketAddrUse.TheVariants as usages
use Rattle.wasi_addr.specs.declared.code.ErrorCode.{ErrorCode}
use Rattle.wasi_addr.specs.declared.code.ErrorCode.TheVariants.{AccessDenied, InvalidArgument, InvalidState, NotSupported}
use Rattle.wasi_addr.specs.Address.{ip_of, is_of_family}
use Rattle.wasi_world.specs.declared.ids.OpId.{OpId}
use Rattle.wasi_world.specs.declared.call.Call.TheVariants as call
use Rattle.wasi_world.specs.declared.call.Entry.{Entry}
use Rattle.wasi_world.specs.declared.call.Opt.{Opt}
use Rattle.wasi_world.specs.declared.call.Told.{Told}
use Rattle.wasi_world.specs.declared.call.Told.TheVariants as told
use Rattle.wasi_world.specs.declared.outcome.WasiSocketsCtx.{WasiSocketsCtx}
use Rattle.socket_common.specs.Options.{largest_value, value_set, value_told}
use Rattle.wasi_udp.specs.Bind.{bind_operation}
use Rattle.wasi_udp.specs.Shape.{Socket}
use Rattle.wasi_udp.specs.Socket.{asker_of}
use Rattle.wasi_udp.specs.declared.bind.UdpBindStage.TheVariants as stage
use Rattle.wasi_udp.specs.Create.{new_create, made_by}
use Rattle.host_store.specs.declared.kind.Interface.{Interface}
use Rattle.host_store.specs.declared.kind.Interface.TheVariants.{P2}
use Rattle.host_store.specs.declared.kind.Watched.TheVariants as watched
use Rattle.host_store.specs.declared.machine.Machine.{Machine}
use Rattle.host_store.specs.declared.store.StandingCall.{StandingCall}
use Rattle.host_store.specs.declared.store.StandingCall.TheVariants as standing
use Rattle.udp_records.specs.declared.udp.OpenUdp.{OpenUdp}
use Rattle.udp_records.specs.declared.udp.UdpRecord.{UdpRecord}
use Rattle.udp_records.specs.declared.udp.UdpRecord.TheVariants as udp
use Rattle.udp_records.specs.declared.udp.UdpInProgress.TheVariants as doing
use Rattle.udp_records.specs.Datagrams.{has_streams}
use Rattle.host_store.specs.Kinds.{kind_at, name_of, udp_kind, watch_of, with_handle}
use Rattle.host_store.specs.Machine.{tcp3_at, udp_socket_at}
use Rattle.host_store.specs.declared.kind.Kind.TheVariants as kind
use Rattle.wasi_records.specs.Records.{udp2_pushed, open_at, open_put}
use Rattle.host_store.specs.Standing.{standing_as}
use Rattle.udp_records.specs.Udp.{is_udp_idle, is_udp_bound, opened_udp, with_udp_inner, with_udp_progress}
use Rattle.host_store.specs.Store.{with_open_udp}
use Rattle.wasi_machine.specs.Machine.{first_ids}
use Rattle.wasi_steps.specs.declared.reply.CodeWord.{CodeWord}
use Rattle.wasi_steps.specs.declared.reply.CodeWord.TheVariants as word
use Rattle.wasi_steps.specs.declared.reply.Field.{Field}
use Rattle.wasi_steps.specs.declared.setting.UdpSetting.{UdpSetting}
use Rattle.wasi_steps.specs.Reply.{address_values, no_fields, number_fields}
use Rattle.wasi_steps.specs.Settings.{udp_chosen}
use Rattle.wasi_walks.specs.Answered.{says_bound, word_of_code}
use Rattle.wasi_walks.specs.Licence.{entry}
use Rattle.wasi_causes.specs.Datagrams.{MadeBoth}
use Rattle.wasi_causes.specs.Refusals.{SaidBy}

-- == the sockets that handles name
-- The handle names a UDP socket that is made and not closed, at this place, of which this holds.
pub record OfUdp (m : Machine) (handle : ℕ) (P : ℕ → OpenUdp → Type 0) : Type 0 where
  pub place : ℕ
  pub found : OpenUdp
  pub names : udp_socket_at m handle ≡ Some place
  pub at : open_at m.store.records place ≡ Some found
  pub holds : P place found

-- what was asked and answered, the word, and the machine afterwards, by the socket that the handle names
abbrev pub RefusedOfUdp : Machine → ℕ → (ℕ → OpenUdp → List Entry → CodeWord → Machine → Type 0) → List Entry → CodeWord → Machine → Type 0
RefusedOfUdp m handle Cause entries reply after = OfUdp m handle (λ place o. Cause place o entries reply after)

-- the machine, where this is the socket at that place
abbrev pub putting_udp : Machine → ℕ → OpenUdp → Machine
putting_udp m place o = record m { store = with_open_udp m.store place o }

-- it is a socket with an operation in progress
abbrev pub HasUdpInProgress : Option OpenUdp → Type 0
HasUdpInProgress found = IsSomeAnd found (λ o. is_udp_idle o.in_progress ≡ false)

-- it is a socket of which no bind was started that isn't finished
abbrev pub HasNoUdpBind : Option OpenUdp → Type 0
HasNoUdpBind found = IsSomeAnd found (λ o. is_udp_bound o.in_progress ≡ false)

-- it is a socket that keeps no remote address
abbrev pub KeepsNoRemote : Option OpenUdp → Type 0
KeepsNoRemote found = IsSomeAnd found (λ o. o.inner.remote ≡ None)

-- the pollable watches a UDP socket
abbrev pub WatchesUdp : Machine → ℕ → Type 0
WatchesUdp m pollable = (place : ℕ) × (watch_of (kind_at m.table pollable) ≡ Some (watched.Udp place))

-- == a create
abbrev pub udp_create_entry : OpId → WasiSocketsCtx → SocketAddressFamily → Told → Entry
udp_create_entry own ctx family told = entry own (call.UdpCreate ctx.name family) told

abbrev pub writable_entry : OpId → Told → Entry
writable_entry own told = entry own (call.UdpWritable own) told

-- the machine, with the record of a network socket that was made
abbrev pub with_udp_record : Machine → UdpRecord → Machine
with_udp_record m u = record m { store = record m.store { records = udp2_pushed m.store.records u } }

-- the record of a socket that was made so, which is in the middle of nothing
abbrev pub new_udp : OpId → WasiSocketsCtx → SocketAddressFamily → UdpRecord
new_udp own ctx family = opened_udp (made_by (new_create own ctx.name family))

-- A create is refused: the context may not use UDP, and nothing is asked; or the create returned a code, and nothing is made; or
-- its network socket, which was made, returned one when it was waited for, and was closed, and nothing is left of the record that
-- it had.
pub data UdpCreateFails (m : Machine) (own : OpId) (ctx : WasiSocketsCtx) (family : SocketAddressFamily) : List Entry → ErrorCode → Machine → Type 0 where
  UdpNotAllowed : ctx.udp ≡ false → UdpCreateFails m own ctx family [] AccessDenied m
  UdpCreateTold : (c : ErrorCode) → ctx.udp ≡ true → UdpCreateFails m own ctx family (udp_create_entry own ctx family (told.Code c) ∷ []) c m
  UdpWritableTold : (c : ErrorCode) → ctx.udp ≡ true
      → UdpCreateFails m own ctx family (udp_create_entry own ctx family told.Done ∷ writable_entry own (told.Code c) ∷ entry own (call.Close own) told.Done ∷ []) c (giving_back (with_udp_record m (udp.Closed own)) (length m.store.records))

abbrev pub UdpCreateRefusal : Machine → OpId → WasiSocketsCtx → SocketAddressFamily → List Entry → CodeWord → Machine → Type 0
UdpCreateRefusal m own ctx family es w after = SaidBy word_of_code (λ c. UdpCreateFails m own ctx family es c after) w

-- The socket was made, and its network socket may be used; it has a record, and the next handle in its interface, which is marked by
-- the name of the create.
pub record CreatesUdpFor (face : Interface) (m : Machine) (own : OpId) (ctx : WasiSocketsCtx) (family : SocketAddressFamily) (entries : List Entry) (fields : List Field) (after : Machine) : Type 0 where
  pub number : fields ≡ number_fields m.table.next
  pub asked : entries ≡ udp_create_entry own ctx family told.Done ∷ writable_entry own told.Done ∷ entry own (call.Made m.table.next (name_of (udp_kind face (length m.store.records))) None (Some own)) told.Done ∷ []
  pub left : after ≡ record (with_udp_record m (new_udp own ctx family)) { table = with_handle m.table (udp_kind face (length m.store.records)) None }

abbrev pub CreatesUdp : Machine → OpId → WasiSocketsCtx → SocketAddressFamily → List Entry → List Field → Machine → Type 0
CreatesUdp m own ctx family entries fields after = CreatesUdpFor P2 m own ctx family entries fields after

-- The socket was made, and its network socket is waited for: the create is kept in its record, and is pending under its line's
-- number.
pub record CreateStandsFor (face : Interface) (m : Machine) (line : ℕ) (own : OpId) (ctx : WasiSocketsCtx) (family : SocketAddressFamily) (entries : List Entry) (after : Machine) : Type 0 where
  pub asked : entries ≡ udp_create_entry own ctx family told.Done ∷ writable_entry own told.Pending ∷ []
  pub table : after.table ≡ m.table
  pub records : after.store.records ≡ udp2_pushed m.store.records (udp.Creating (new_create own ctx.name family))
  pub stands : after.store.standing ≡ Some (standing_as (first_ids line) (standing.UdpCreate (length m.store.records) face))

abbrev pub CreateStands : Machine → ℕ → OpId → WasiSocketsCtx → SocketAddressFamily → List Entry → Machine → Type 0
CreateStands m line own ctx family entries after = CreateStandsFor P2 m line own ctx family entries after

-- == whether a socket is bound
abbrev pub udp_local_entry : OpId → Socket → Told → Entry
udp_local_entry own socket told = entry own (call.Local socket.side) told

-- A socket is bound: it is known to be, or its network socket's local address says so.
pub data IsUdpBound (own : OpId) (socket : Socket) : List Entry → Type 0 where
  UdpKnown : socket.bound ≡ true → IsUdpBound own socket []
  UdpToldBound : (told : Told) → says_bound socket.family told ≡ true → IsUdpBound own socket (udp_local_entry own socket told ∷ [])

-- A socket isn't bound: it isn't known to be, and what its network socket reported of its local address doesn't say so.
pub record IsUdpUnbound (socket : Socket) (told : Told) : Type 0 where
  pub unknown : socket.bound ≡ false
  pub free : says_bound socket.family told ≡ false

-- the machine, where the socket is known to be bound
abbrev pub udp_knowing_bound : Machine → ℕ → OpenUdp → Machine
udp_knowing_bound m place o = putting_udp m place (with_udp_inner o (record o.inner { bound = true }))

-- the machine is as it was, but that the handle's socket is known to be bound
abbrev pub KnowsUdpBound : Machine → ℕ → Machine → Type 0
KnowsUdpBound m handle after = OfUdp m handle (λ place o. after ≡ udp_knowing_bound m place o)

-- == a bind
abbrev pub udp_check_entry : OpId → Socket → IpSocketAddress → Told → Entry
udp_check_entry own socket a told = entry own (call.Check socket.maker a usages.UdpBind) told

abbrev pub udp_bind_entry : OpId → Socket → IpSocketAddress → Told → Entry
udp_bind_entry own socket a told = entry own (call.UdpBind socket.side a) told

-- The start of a bind is refused: an operation is in progress; or none is, and a stream of it is live, or it is bound, or the
-- address is of another family, or the check was answered no, or the bind was answered with a code.
pub data UdpBindRefusal (m : Machine) (own : OpId) (place : ℕ) (o : OpenUdp) (a : IpSocketAddress) : List Entry → CodeWord → Machine → Type 0 where
  UdpBusy : is_udp_idle o.in_progress ≡ false → UdpBindRefusal m own place o a [] word.ConcurrencyConflict m
  UdpStreamsLive : is_udp_idle o.in_progress ≡ true → has_streams o ≡ true → UdpBindRefusal m own place o a [] word.InvalidState m
  UdpAlreadyBound : (asked : List Entry) → is_udp_idle o.in_progress ≡ true → IsUdpBound own o.inner asked → UdpBindRefusal m own place o a asked word.InvalidState (udp_knowing_bound m place o)
  UdpOtherFamily : (local : Told) → is_udp_idle o.in_progress ≡ true → IsUdpUnbound o.inner local → is_of_family (ip_of a) o.inner.family ≡ false
      → UdpBindRefusal m own place o a (udp_local_entry own o.inner local ∷ []) word.InvalidArgument m
  UdpDenied : (local : Told) → is_udp_idle o.in_progress ≡ true → IsUdpUnbound o.inner local → is_of_family (ip_of a) o.inner.family ≡ true
      → UdpBindRefusal m own place o a (udp_local_entry own o.inner local ∷ udp_check_entry own o.inner a told.No ∷ []) word.AccessDenied m
  UdpBindTold : (local : Told) (c : ErrorCode) → is_udp_idle o.in_progress ≡ true → IsUdpUnbound o.inner local → is_of_family (ip_of a) o.inner.family ≡ true
      → UdpBindRefusal m own place o a (udp_local_entry own o.inner local ∷ udp_check_entry own o.inner a told.Yes ∷ udp_bind_entry own o.inner a (told.Code c) ∷ []) (word_of_code c) m

-- A bind that was begun goes on: nothing was in progress and no stream live, the socket isn't bound, and the address is of its family.
pub record StartsUdpBind (o : OpenUdp) (a : IpSocketAddress) (local : Told) : Type 0 where
  pub idle : is_udp_idle o.in_progress ≡ true
  pub alone : has_streams o ≡ false
  pub unbound : IsUdpUnbound o.inner local
  pub family : is_of_family (ip_of a) o.inner.family ≡ true

-- The check was answered yes and the bind done: it is in progress until it is finished.
pub record BindsUdp (m : Machine) (own : OpId) (place : ℕ) (o : OpenUdp) (a : IpSocketAddress) (entries : List Entry) (after : Machine) : Type 0 where
  pub local : Told
  pub begins : StartsUdpBind o a local
  pub asked : entries ≡ udp_local_entry own o.inner local ∷ udp_check_entry own o.inner a told.Yes ∷ udp_bind_entry own o.inner a told.Done ∷ []
  pub left : after ≡ putting_udp m place (with_udp_progress o doing.Bound)

-- The check was answered pending: the bind is in progress, at its check, and is pending under its line's number.
pub record UdpBindStands (m : Machine) (line : ℕ) (own : OpId) (place : ℕ) (o : OpenUdp) (a : IpSocketAddress) (entries : List Entry) (after : Machine) : Type 0 where
  pub local : Told
  pub begins : StartsUdpBind o a local
  pub asked : entries ≡ udp_local_entry own o.inner local ∷ udp_check_entry own o.inner a told.Pending ∷ []
  pub table : after.table ≡ m.table
  pub records : after.store.records ≡ open_put m.store.records place (with_udp_progress o (doing.Binding (bind_operation (asker_of own o.inner) a stage.Check)))
  pub stands : after.store.standing ≡ Some (standing_as (first_ids line) (standing.UdpBind place P2))

-- The finish of a bind: it was started, and nothing is in progress then.
pub record FinishesUdpBind (m : Machine) (place : ℕ) (o : OpenUdp) (after : Machine) : Type 0 where
  pub started : o.in_progress ≡ doing.Bound
  pub left : after ≡ putting_udp m place (with_udp_progress o doing.Nothing)

-- == addresses
-- The local address is refused: the socket isn't bound, or is, and its network socket returned a code.
pub data UdpLocalFails (m : Machine) (own : OpId) (place : ℕ) (o : OpenUdp) : List Entry → ErrorCode → Machine → Type 0 where
  UdpNotBound : (local : Told) → IsUdpUnbound o.inner local → UdpLocalFails m own place o (udp_local_entry own o.inner local ∷ []) InvalidState m
  UdpLocalTold : (asked : List Entry) (c : ErrorCode) → IsUdpBound own o.inner asked
      → UdpLocalFails m own place o (asked ++ udp_local_entry own o.inner (told.Code c) ∷ []) c (udp_knowing_bound m place o)

abbrev pub UdpLocalRefusal : Machine → OpId → ℕ → OpenUdp → List Entry → CodeWord → Machine → Type 0
UdpLocalRefusal m own place o es w after = SaidBy word_of_code (λ c. UdpLocalFails m own place o es c after) w

-- The socket is bound, and the address is the one that its network socket reported last.
pub record TellsUdpLocal (m : Machine) (own : OpId) (place : ℕ) (o : OpenUdp) (entries : List Entry) (fields : List Field) (after : Machine) : Type 0 where
  pub before : List Entry
  pub address : IpSocketAddress
  pub bound : IsUdpBound own o.inner before
  pub asked : entries ≡ before ++ udp_local_entry own o.inner (told.Addr address) ∷ []
  pub gives : fields ≡ address_values address
  pub left : after ≡ udp_knowing_bound m place o

-- The address is the one that is kept.
pub record TellsUdpRemote (o : OpenUdp) (fields : List Field) : Type 0 where
  pub address : IpSocketAddress
  pub kept : o.inner.remote ≡ Some address
  pub gives : fields ≡ address_values address

-- == options
-- A get is refused: the network socket returned a code, or a value that is too large for the option.
pub data UdpGetFails (own : OpId) (option : Opt) (o : OpenUdp) : List Entry → ErrorCode → Type 0 where
  UdpGetTold : (c : ErrorCode) → UdpGetFails own option o (entry own (call.GetOption o.inner.side option) (told.Code c) ∷ []) c
  UdpTooLarge : (value : ℕ) → largest_value option < value_told option value → UdpGetFails own option o (entry own (call.GetOption o.inner.side option) (told.Value value) ∷ []) NotSupported

abbrev pub UdpGetRefusal : OpId → Opt → OpenUdp → List Entry → CodeWord → Type 0
UdpGetRefusal own option o es w = SaidBy word_of_code (UdpGetFails own option o es) w

-- The one thing asked was the option of the network socket, and the fields are the number that it was answered, as the option
-- reads it, which isn't too large.
pub record GetsUdpOption (own : OpId) (option : Opt) (o : OpenUdp) (fields : List Field) (entries : List Entry) : Type 0 where
  pub value : ℕ
  pub asked : entries ≡ entry own (call.GetOption o.inner.side option) (told.Value value) ∷ []
  pub within : value_told option value ≤ largest_value option
  pub gives : fields ≡ number_fields (value_told option value)

abbrev pub udp_set_entry : OpId → UdpSetting → OpenUdp → Told → Entry
udp_set_entry own setting o told = entry own (call.SetOption o.inner.side (udp_chosen setting).0 (value_set (udp_chosen setting).0 (udp_chosen setting).1)) told

-- A set is refused: 0 is no value of any option, and nothing is asked; or the network socket returned a code.
pub data UdpSetFails (own : OpId) (setting : UdpSetting) (o : OpenUdp) : List Entry → ErrorCode → Type 0 where
  UdpZero : (udp_chosen setting).1 ≡ 0 → UdpSetFails own setting o [] InvalidArgument
  UdpSetTold : (c : ErrorCode) → 0 < (udp_chosen setting).1 → UdpSetFails own setting o (udp_set_entry own setting o (told.Code c) ∷ []) c

abbrev pub UdpSetRefusal : OpId → UdpSetting → OpenUdp → List Entry → CodeWord → Type 0
UdpSetRefusal own setting o es w = SaidBy word_of_code (UdpSetFails own setting o es) w

-- The value isn't 0, and the one thing asked was to set the option of the network socket to it, brought into its range, and
-- that was answered done.
pub record SetsUdpOption (own : OpId) (setting : UdpSetting) (o : OpenUdp) (entries : List Entry) : Type 0 where
  pub some : 0 < (udp_chosen setting).1
  pub asked : entries ≡ udp_set_entry own setting o told.Done ∷ []

-- == the end
-- a drop closes the network socket of a socket that is made and not closed
abbrev pub udp_given_up : OpId → UdpRecord → List Entry
udp_given_up own (udp.Open o) = entry own (call.Close o.inner.side) told.Done ∷ []
udp_given_up own _ = []

-- and nothing is left of its record; a create, which has no handle, stays
abbrev pub udp_left : Machine → ℕ → UdpRecord → Machine
udp_left m place (udp.Creating create) = m
udp_left m place (udp.Open o) = giving_back m place
udp_left m place (udp.Closed side) = giving_back m place

-- == a poll of the pending call
-- a create that is done gives the next handle, which is of its record, and the socket is there; a listen of 0.3 gives the next one, of
-- its listener; datagram streams give the next two,
-- under the handle that they were asked of; a call of a stream gives what it is for; the others give nothing; and none of these makes one
abbrev pub GivesBy : Machine → List Field → Machine → StandingCall → Type 0
GivesBy m fields after (standing.UdpCreate place face) = (fields ≡ number_fields m.table.next) × (after.table ≡ with_handle m.table (udp_kind face place) None) × IsSome (open_at after.store.records place)
GivesBy m fields after (standing.UdpConnect place handle) = MadeBoth m handle fields after
GivesBy m fields after (standing.Listen place (Some handle)) = (fields ≡ number_fields m.table.next) × IsSomeAnd (tcp3_at m handle) (λ its. after.table ≡ with_handle m.table (kind.Listen3 its) (Some handle))
GivesBy m fields after (standing.Blocking call) = GivesOf call fields × (after.table ≡ m.table)
GivesBy m fields after _ = (fields ≡ no_fields) × (after.table ≡ m.table)

-- it makes one handle: a create, or a listen of 0.3
abbrev pub MakesOneHandle : StandingCall → Type 0
MakesOneHandle (standing.UdpCreate place face) = Unit {0}
MakesOneHandle (standing.Listen place (Some handle)) = Unit {0}
MakesOneHandle _ = ⊥
