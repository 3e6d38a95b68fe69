-- How a step was answered, where its answer comes from, and what is left after a refusal.
use Rattle.std.specs.Prelude.{◌≡◌, ⊤, ℕ, ◌<◌, Bool, true, false, not, ◌&&◌, min, List, [], ◌∷◌, ◌++◌, Option, Some, None, Ok, IsSomeAnd, IfSome}
use Rattle.wasi_addr.specs.declared.address.IpSocketAddress.{IpSocketAddress}
use Rattle.wasi_addr.specs.declared.address.SocketAddressFamily.{SocketAddressFamily}
use Rattle.wasi_addr.specs.declared.address.ShutdownType.TheVariants.{Receive, Send}
use Rattle.wasi_addr.specs.declared.address.SocketAddrUse.{SocketAddrUse}
use Rattle.wasi_addr.specs.declared.address.SocketAddrUse.TheVariants.{TcpBind}
use Rattle.wasi_addr.specs.declared.code.ErrorCode.{ErrorCode}
use Rattle.wasi_addr.specs.declared.code.ErrorCode.TheVariants.{AccessDenied}
use Rattle.wasi_addr.specs.Address.{ip_of, is_of_family, is_unicast, is_wildcard}
use Rattle.wasi_addr.specs.Code.{p2_of_code, p3_of_code}
use Rattle.wasi_world.specs.declared.ids.OpId.{OpId}
use Rattle.wasi_world.specs.declared.call.Call.{Call}
use Rattle.wasi_world.specs.declared.call.Call.TheVariants as call
use Rattle.wasi_world.specs.declared.call.Entry.{Entry}
use Rattle.wasi_world.specs.declared.call.HandleKind.TheVariants.{ErrorValue}
use Rattle.wasi_world.specs.declared.call.Told.{Told}
use Rattle.wasi_world.specs.declared.call.Told.TheVariants as told
use Rattle.wasi_world.specs.declared.outcome.WasiSocketsCtx.{WasiSocketsCtx}
use Rattle.wasi_world.specs.Asks.{Give, Left}
use Rattle.wasi_world.specs.Operation.{Item, Check, Connect, Who, Operation}
use Rattle.wasi_tcp.specs.declared.socket.Connection.{Connection}
use Rattle.wasi_tcp.specs.declared.socket.TcpState.{TcpState}
use Rattle.wasi_tcp.specs.declared.socket.TcpState.TheVariants as state
use Rattle.wasi_tcp.specs.declared.halves.TcpReceiveStream.{TcpReceiveStream}
use Rattle.wasi_tcp.specs.declared.halves.TcpSendStream.{TcpSendStream}
use Rattle.wasi_tcp.specs.declared.reader.ReadState.{ReadState}
use Rattle.wasi_tcp.specs.declared.reader.ReadState.TheVariants as reading
use Rattle.wasi_tcp.specs.declared.writer.WriteError.{WriteError}
use Rattle.wasi_tcp.specs.declared.writer.WriteError.TheVariants as error
use Rattle.wasi_tcp.specs.declared.writer.WriteState.{WriteState}
use Rattle.wasi_tcp.specs.declared.writer.WriteState.TheVariants as writing
use Rattle.wasi_tcp.specs.Shape.{Socket}
use Rattle.wasi_tcp.specs.Connect.{IsConnect}
use Rattle.wasi_tcp.specs.Connecting.{with_state, is_connectable}
use Rattle.wasi_tcp.specs.Addresses.{usable_side}
use Rattle.wasi_tcp.specs.Writer.{error_of_code, collected}
use Rattle.wasi_records.specs.Records.{tcp2_at, open_at, lookup_at}
use Rattle.host_store.specs.declared.machine.Machine.{Machine}
use Rattle.wasi_steps.specs.declared.reply.CodeWord.{CodeWord}
use Rattle.wasi_steps.specs.declared.reply.CodeWord.TheVariants as word
use Rattle.wasi_steps.specs.declared.reply.Reply.{Reply}
use Rattle.tcp_records.specs.declared.socket.Streams.{Streams}
use Rattle.tcp_records.specs.declared.socket.TcpRecord.{TcpRecord}
use Rattle.udp_records.specs.declared.udp.OpenUdp.{OpenUdp}
use Rattle.wasi_steps.specs.declared.step.Step.{Step}
use Rattle.wasi_steps.specs.declared.guest_call.GuestCall.TheVariants as guest
use Rattle.wasi_steps.specs.declared.guest_call.TcpCall.TheVariants as tcp_call
use Rattle.wasi_steps.specs.declared.guest_call.UdpCall.TheVariants as udp_call
use Rattle.wasi_steps.specs.declared.step.Step.TheVariants as step
use Rattle.host_store.specs.declared.kind.Kind.TheVariants as kind
use Rattle.wasi_steps.specs.Reply.{word_of_p2, word_of_p3}
use Rattle.host_store.specs.Kinds.{with_handle}
use Rattle.record_common.specs.Binding.{left_of}
use Rattle.tcp_records.specs.InProgress.{is_nothing, is_bind, is_connect}
use Rattle.tcp_records.specs.Sockets.{with_inner, idle}
use Rattle.tcp_records.specs.Halves.{with_reader, with_writer}
use Rattle.host_store.specs.Store.{with_socket}
use Rattle.udp_records.specs.declared.datagrams.Incoming.{Incoming}
use Rattle.udp_records.specs.declared.datagrams.Outgoing.{Outgoing}
use Rattle.lookup_records.specs.declared.name_lookup.Lookup.{Lookup}
use Rattle.host_store.specs.Machine.{socket_at, udp_socket_at, input_at, output_at, incoming_at, outgoing_at}
use Rattle.wasi_machine.specs.Machine.{machine_asks}
use Rattle.wasi_walks.specs.Licence.{Has, entry}

-- the step was done: what it asked was answered by these entries, and these are its reply and the machine afterwards
abbrev pub Answered : List WasiSocketsCtx → Machine → ℕ → Step → List Entry → Reply → Machine → Type 0
Answered contexts m line s entries reply after = Left (machine_asks contexts m line s) entries (Give (reply, after))

-- == the records that handles name
abbrev pub record_in : Machine → Option ℕ → Option TcpRecord
record_in m None = None
record_in m (Some place) = tcp2_at m.store.records place

-- the record of a live handle of a socket
abbrev pub record_at : Machine → ℕ → Option TcpRecord
record_at m h = record_in m (socket_at m h)

-- the UDP socket of a live handle of one
abbrev pub open_in : Machine → Option ℕ → Option OpenUdp
open_in m None = None
open_in m (Some place) = open_at m.store.records place

abbrev pub open_udp_at : Machine → ℕ → Option OpenUdp
open_udp_at m h = open_in m (udp_socket_at m h)

-- The handle names a record, at this place, of which this holds.
pub record OfRecord (m : Machine) (handle : ℕ) (P : ℕ → TcpRecord → Type 0) : Type 0 where
  pub place : ℕ
  pub found : TcpRecord
  pub names : socket_at m handle ≡ Some place
  pub at : tcp2_at m.store.records place ≡ Some found
  pub holds : P place found

-- the machine, where this is the record at that place
abbrev pub putting : Machine → ℕ → TcpRecord → Machine
putting m place r = record m { store = with_socket m.store place r }

-- it is the record of a socket with an operation in progress, whichever
abbrev pub HasOperationInProgress : Option TcpRecord → Type 0
HasOperationInProgress found = IsSomeAnd found (λ r. is_nothing r.in_progress ≡ false)

-- it is the record of a socket with no bind in progress
abbrev pub HasNoBindInProgress : Option TcpRecord → Type 0
HasNoBindInProgress found = IsSomeAnd found (λ r. is_bind r.in_progress ≡ false)

-- it is the record of a socket with no connect in progress
abbrev pub HasNoConnectInProgress : Option TcpRecord → Type 0
HasNoConnectInProgress found = IsSomeAnd found (λ r. is_connect r.in_progress ≡ false)

-- the streams of a record, where it has them
abbrev pub streams_in : Option TcpRecord → Option Streams
streams_in None = None
streams_in (Some r) = r.streams

-- the streams of a live handle of an input, and of an output
abbrev pub input_streams : Machine → ℕ → Option Streams
input_streams m h = streams_in (record_in m (input_at m h))

abbrev pub output_streams : Machine → ℕ → Option Streams
output_streams m h = streams_in (record_in m (output_at m h))

-- The number names a record that has streams, and of all three this holds.
pub record OfStreams (m : Machine) (number : Option ℕ) (P : ℕ → TcpRecord → Streams → Type 0) : Type 0 where
  pub place : ℕ
  pub found : TcpRecord
  pub streams : Streams
  pub names : number ≡ Some place
  pub at : tcp2_at m.store.records place ≡ Some found
  pub has : found.streams ≡ Some streams
  pub holds : P place found streams

-- the incoming datagram stream of a live handle, and the outgoing one
abbrev pub incoming_of_open : Option OpenUdp → Option Incoming
incoming_of_open None = None
incoming_of_open (Some o) = o.incoming

abbrev pub outgoing_of_open : Option OpenUdp → Option Outgoing
outgoing_of_open None = None
outgoing_of_open (Some o) = o.outgoing

abbrev pub incoming_in : Machine → ℕ → Option Incoming
incoming_in m h = incoming_of_open (open_in m (incoming_at m h))

abbrev pub outgoing_in : Machine → ℕ → Option Outgoing
outgoing_in m h = outgoing_of_open (open_in m (outgoing_at m h))

-- the lookup of a live handle of one
abbrev pub lookup_in : Machine → Option ℕ → Option Lookup
lookup_in m None = None
lookup_in m (Some place) = lookup_at m.store.records place

-- == pending calls
-- The last of the entries is this operation's, and it was answered pending.
pub record EndsPending (own : OpId) (entries : List Entry) : Type 0 where
  pub front : List Entry
  pub last : Entry
  pub cut : entries ≡ front ++ last ∷ []
  pub op : last.op ≡ own
  pub told : last.answer ≡ told.Pending

-- == refusals
-- a code's word is that of its 0.2 code
abbrev pub word_of_code : ErrorCode → CodeWord
word_of_code c = word_of_p2 (p2_of_code c)

-- and its 0.3 word
abbrev pub p3_word : ErrorCode → CodeWord
p3_word c = word_of_p3 (p3_of_code c)

-- what was asked and answered, the word, and the machine afterwards, by the record that the handle names
abbrev pub RefusedOf : Machine → ℕ → (ℕ → TcpRecord → List Entry → CodeWord → Machine → Type 0) → List Entry → CodeWord → Machine → Type 0
RefusedOf m handle Cause entries reply after = OfRecord m handle (λ place r. Cause place r entries reply after)

-- A create is refused: the context may not use TCP, or the world returned a code.
pub data CreateRefusal (own : OpId) (ctx : WasiSocketsCtx) (family : SocketAddressFamily) : List Entry → CodeWord → Type 0 where
  NotAllowed : ctx.tcp ≡ false → CreateRefusal own ctx family [] word.AccessDenied
  ToldCode : (c : ErrorCode) → ctx.tcp ≡ true → CreateRefusal own ctx family (entry own (call.TcpCreate ctx.name family) (told.Code c) ∷ []) (word_of_code c)

-- == whether a socket is bound
-- any address but the wildcard says that a socket is bound
abbrev pub says_bound : SocketAddressFamily → Told → Bool
says_bound family (told.Addr a) = not (is_wildcard family a)
says_bound family _ = false

-- a state other than Default
abbrev pub IsPastDefault : TcpState → Type 0
IsPastDefault (state.Default side) = ⊥
IsPastDefault _ = ⊤

-- A socket is bound: it is known to be, or its state isn't Default, or its network socket's local address says so.
pub data IsBound (own : OpId) (socket : Socket) : List Entry → Type 0 where
  Known : socket.bound ≡ true → IsBound own socket []
  PastDefault : IsPastDefault socket.state → IsBound own socket []
  ToldBound : (side : OpId) (told : Told) → socket.state ≡ state.Default side → says_bound socket.family told ≡ true → IsBound own socket (entry own (call.Local side) told ∷ [])

-- A socket isn't bound: it isn't known to be, and what its network socket reported of its local address doesn't say so.
pub record IsFoundUnbound (socket : Socket) (side : OpId) (told : Told) : Type 0 where
  pub unknown : socket.bound ≡ false
  pub open_side : socket.state ≡ state.Default side
  pub free : says_bound socket.family told ≡ false

-- the machine, where the socket is known to be bound
abbrev pub knowing_bound : Machine → ℕ → TcpRecord → Machine
knowing_bound m place r = putting m place (with_inner r (record r.inner { bound = true }))

-- the machine is as it was, but that the handle's socket is known to be bound
abbrev pub KnowsBound : Machine → ℕ → Machine → Type 0
KnowsBound m handle after = OfRecord m handle (λ place r. after ≡ knowing_bound m place r)

-- == the starts of operations
-- A start is refused: an operation is in progress, or none is and what was begun is refused.
pub data StartRefusal (m : Machine) (r : TcpRecord) (Begun : List Entry → CodeWord → Machine → Type 0) (entries : List Entry) (reply : CodeWord) (after : Machine) : Type 0 where
  InProgress : is_nothing r.in_progress ≡ false → entries ≡ [] → reply ≡ word.ConcurrencyConflict → after ≡ m → StartRefusal m r Begun entries reply after
  Begins : is_nothing r.in_progress ≡ true → Begun entries reply after → StartRefusal m r Begun entries reply after

-- a socket may be bound to a unicast address of its family
abbrev pub may_bind_to : SocketAddressFamily → IpSocketAddress → Bool
may_bind_to family a = is_unicast (ip_of a) && is_of_family (ip_of a) family

-- A bind that was begun is refused: what was asked and answered, the word, and the machine afterwards.
pub data BindRefusal (m : Machine) (own : OpId) (place : ℕ) (r : TcpRecord) (a : IpSocketAddress) : List Entry → CodeWord → Machine → Type 0 where
  AlreadyBound : (asked : List Entry) → IsBound own r.inner asked → BindRefusal m own place r a asked word.InvalidState (knowing_bound m place r)
  WrongAddress : (side : OpId) (local : Told) → IsFoundUnbound r.inner side local → may_bind_to r.inner.family a ≡ false
      → BindRefusal m own place r a (entry own (call.Local side) local ∷ []) word.InvalidArgument m
  Denied : (side : OpId) (local : Told) → IsFoundUnbound r.inner side local → may_bind_to r.inner.family a ≡ true
      → BindRefusal m own place r a (entry own (call.Local side) local ∷ entry own (call.Check r.inner.maker a TcpBind) told.No ∷ []) word.AccessDenied m
  Failed : (side : OpId) (local : Told) (c : ErrorCode) → IsFoundUnbound r.inner side local → may_bind_to r.inner.family a ≡ true
      → BindRefusal m own place r a (entry own (call.Local side) local ∷ entry own (call.Check r.inner.maker a TcpBind) told.Yes ∷ entry own (call.Bind side a) (told.Code c) ∷ []) (word_of_code c) m

-- the start of a bind to this address was refused
abbrev pub RefusedBind : Machine → OpId → ℕ → IpSocketAddress → List Entry → CodeWord → Machine → Type 0
RefusedBind m own handle a = RefusedOf m handle (λ place r. StartRefusal m r (BindRefusal m own place r a))

-- A connect that was begun is refused: it isn't in the state Default, or may not connect to the address, bound or not.
pub data ConnectRefusal (m : Machine) (own : OpId) (place : ℕ) (r : TcpRecord) (a : IpSocketAddress) : List Entry → CodeWord → Machine → Type 0 where
  NotDefault : IsPastDefault r.inner.state → ConnectRefusal m own place r a [] word.InvalidState m
  BoundElsewhere : (side : OpId) (asked : List Entry) → r.inner.state ≡ state.Default side → IsBound own r.inner asked → is_connectable r.inner a ≡ false
      → ConnectRefusal m own place r a asked word.InvalidArgument (knowing_bound m place r)
  Elsewhere : (side : OpId) (local : Told) → IsFoundUnbound r.inner side local → is_connectable r.inner a ≡ false
      → ConnectRefusal m own place r a (entry own (call.Local side) local ∷ []) word.InvalidArgument m

-- the start of a connect to this address was refused
abbrev pub RefusedConnect : Machine → OpId → ℕ → IpSocketAddress → List Entry → CodeWord → Machine → Type 0
RefusedConnect m own handle a = RefusedOf m handle (λ place r. StartRefusal m r (ConnectRefusal m own place r a))

-- == the finish of a connect
-- The entries end with this one, and then the network socket is closed.
pub record EndsClosing (who : Who) (last : Call) (answer : Told) (entries : List Entry) : Type 0 where
  pub front : List Entry
  pub cut : entries ≡ front ++ entry who.id last answer ∷ entry who.id (call.Close who.side) told.Done ∷ []

-- A connect was closed with a code: a check was answered no, or the connect was answered with the code.
pub data ClosedBy (op : Operation) (entries : List Entry) : ErrorCode → Type 0 where
  ToldNo : (a : IpSocketAddress) (usage : SocketAddrUse) → Has op.left (Check a usage) → EndsClosing op.who (call.Check op.who.context a usage) told.No entries → ClosedBy op entries AccessDenied
  ToldWhy : (a : IpSocketAddress) (c : ErrorCode) → Has op.left (Connect a) → EndsClosing op.who (call.Connect op.who.side a) (told.Code c) entries → ClosedBy op entries c

-- the machine, where the socket is closed with the code and nothing is in progress
abbrev pub closed_with : Machine → ℕ → TcpRecord → ErrorCode → Machine
closed_with m place r c = putting m place (idle r (with_state r.inner (state.Closed c)))

-- The finish of a connect is refused: none is in progress; or it waits, and is in progress; or it was closed with a code, now
-- or before.
pub data FinishRefusal (m : Machine) (place : ℕ) (r : TcpRecord) (entries : List Entry) : CodeWord → Machine → Type 0 where
  NoConnect : is_connect r.in_progress ≡ false → entries ≡ [] → FinishRefusal m place r entries word.NotInProgress m
  StillConnects : (op : Operation) (left : List Item) → is_connect r.in_progress ≡ true → r.inner.state ≡ state.Connecting op → EndsPending op.who.id entries
      → FinishRefusal m place r entries word.WouldBlock (putting m place (with_inner r (with_state r.inner (state.Connecting (left_of op left)))))
  Closes : (op : Operation) (c : ErrorCode) → is_connect r.in_progress ≡ true → r.inner.state ≡ state.Connecting op → ClosedBy op entries c
      → FinishRefusal m place r entries (word_of_code c) (closed_with m place r c)
  WasClosed : (c : ErrorCode) → is_connect r.in_progress ≡ true → r.inner.state ≡ state.Closed c → entries ≡ []
      → FinishRefusal m place r entries (word_of_code c) (closed_with m place r c)

-- this holds of each item
abbrev pub AllOf : (Item → Type 0) → List Item → Type 0
AllOf P [] = ⊤
AllOf P (item ∷ items) = P item × AllOf P items

-- a connect asks so: it closes its network socket only in the poll that is refused
abbrev pub IsAskOfConnect : Item → Type 0
IsAskOfConnect (Check a usage) = ⊤
IsAskOfConnect (Connect a) = ⊤
IsAskOfConnect _ = ⊥

-- the operation of a state that is connecting is a connect, and only its asks are left
abbrev pub ConnectsOn : TcpState → Type 0
ConnectsOn (state.Connecting op) = IsConnect op × AllOf IsAskOfConnect op.left
ConnectsOn _ = ⊤

-- where the handle's socket is connecting, its operation is a connect
abbrev pub ConnectsAt : Machine → ℕ → Type 0
ConnectsAt m handle = IfSome (record_at m handle) (λ r. ConnectsOn r.inner.state)

-- == addresses
-- The local address is refused: the socket isn't bound, or connects, or is closed with a code, or its network socket returned a
-- code.
pub data LocalRefusal (m : Machine) (own : OpId) (place : ℕ) (r : TcpRecord) : List Entry → CodeWord → Machine → Type 0 where
  NotBound : (side : OpId) (local : Told) → IsFoundUnbound r.inner side local → LocalRefusal m own place r (entry own (call.Local side) local ∷ []) word.InvalidState m
  Connects : (op : Operation) → r.inner.state ≡ state.Connecting op → LocalRefusal m own place r [] word.InvalidState (knowing_bound m place r)
  LocalClosed : (c : ErrorCode) → r.inner.state ≡ state.Closed c → LocalRefusal m own place r [] (word_of_code c) (knowing_bound m place r)
  LocalTold : (asked : List Entry) (side : OpId) (c : ErrorCode) → IsBound own r.inner asked → usable_side r.inner.state ≡ Ok side
      → LocalRefusal m own place r (asked ++ entry own (call.Local side) (told.Code c) ∷ []) (word_of_code c) (knowing_bound m place r)

-- The remote address is refused, and the machine stays: the socket isn't connected yet, or is closed with a code, or its
-- network socket returned a code.
pub data RemoteRefusal (m : Machine) (own : OpId) (place : ℕ) (r : TcpRecord) : List Entry → CodeWord → Machine → Type 0 where
  RemoteDefault : (side : OpId) → r.inner.state ≡ state.Default side → RemoteRefusal m own place r [] word.InvalidState m
  RemoteListening : (side : OpId) → r.inner.state ≡ state.Listening side → RemoteRefusal m own place r [] word.InvalidState m
  RemoteConnecting : (op : Operation) → r.inner.state ≡ state.Connecting op → RemoteRefusal m own place r [] word.InvalidState m
  RemoteClosed : (c : ErrorCode) → r.inner.state ≡ state.Closed c → RemoteRefusal m own place r [] (word_of_code c) m
  RemoteTold : (connection : Connection) (c : ErrorCode) → r.inner.state ≡ state.Connected connection → connection.peer ≡ None
      → RemoteRefusal m own place r (entry own (call.Peer connection.side) (told.Code c) ∷ []) (word_of_code c) m

-- the step asks a socket for what it says without asking the network
abbrev pub IsQuiet : Step → Type 0
IsQuiet (step.Call ctx (guest.Tcp (tcp_call.IsListening socket))) = ⊤
IsQuiet (step.Call ctx (guest.Tcp (tcp_call.AddressFamily socket))) = ⊤
IsQuiet (step.Call ctx (guest.Udp (udp_call.AddressFamily socket))) = ⊤
IsQuiet _ = ⊥

-- == reads
-- what a read of an open half asks
abbrev pub read_entry : OpId → ℕ → TcpReceiveStream → Told → Entry
read_entry own len half told = entry own (call.Read half.side (min len 65536)) told

-- an open half is released
abbrev pub shut_entry : OpId → TcpReceiveStream → Entry
shut_entry own half = entry own (call.Shutdown half.side Receive) told.Done

-- The bytes are those that the one read of an open half was answered.
pub record ReadsTold (own : OpId) (len : ℕ) (reader : ReadState) (bytes : List ℕ) (entries : List Entry) : Type 0 where
  pub half : TcpReceiveStream
  pub is_open : reader ≡ reading.Open half
  pub asked : entries ≡ read_entry own len half (told.Bytes bytes) ∷ []

-- No bytes are read: none were to be, or the read was answered pending.
pub data ReadsNone (own : OpId) (len : ℕ) (reader : ReadState) : List Entry → Type 0 where
  LengthZero : (half : TcpReceiveStream) → reader ≡ reading.Open half → len ≡ 0 → ReadsNone own len reader []
  ToldToWait : (half : TcpReceiveStream) → reader ≡ reading.Open half → ReadsNone own len reader (read_entry own len half told.Pending ∷ [])

-- A read is at the end: the reader is closed, or the read was answered with no bytes, and released the half.
pub data ReadsEnd (own : OpId) (len : ℕ) (reader : ReadState) : List Entry → Type 0 where
  AlreadyClosed : reader ≡ reading.Closed → ReadsEnd own len reader []
  ToldNone : (half : TcpReceiveStream) → reader ≡ reading.Open half → ReadsEnd own len reader (read_entry own len half (told.Bytes []) ∷ shut_entry own half ∷ [])

-- The one read of an open half was answered with the code, and released the half.
pub record ReadFails (own : OpId) (len : ℕ) (reader : ReadState) (c : ErrorCode) (entries : List Entry) : Type 0 where
  pub half : TcpReceiveStream
  pub is_open : reader ≡ reading.Open half
  pub asked : entries ≡ read_entry own len half (told.Code c) ∷ shut_entry own half ∷ []

-- the machine, where the reader is closed
abbrev pub closing_reader : Machine → ℕ → TcpRecord → Streams → Machine
closing_reader m place r s = putting m place (with_reader r s reading.Closed)

-- A call on a stream failed with a code, because of these entries; after them comes the mark of the error's handle, whose
-- parent is the stream.
pub record FailsWith (m : Machine) (own : OpId) (stream : ℕ) (Cause : ErrorCode → List Entry → Type 0) (entries : List Entry) (word : CodeWord) (handle : ℕ) : Type 0 where
  pub code : ErrorCode
  pub before : List Entry
  pub side : Option OpId
  pub told : Told
  pub cause : Cause code before
  pub marked : entries ≡ before ++ entry own (call.Made m.table.next ErrorValue (Some stream) side) told ∷ []
  pub word_is : word ≡ word_of_code code
  pub handle_is : handle ≡ m.table.next

-- the machine, with a new handle of an error
abbrev pub with_error : Machine → Machine
with_error m = record m { table = with_handle m.table kind.ErrorValue None }

-- == writes
-- a write is in progress
abbrev pub IsUnfinished : WriteState → Type 0
IsUnfinished (writing.Ready half permit) = ⊥
IsUnfinished (writing.Writing job) = ⊤
IsUnfinished (writing.Closing job) = ⊤
IsUnfinished (writing.Closed e) = ⊥

-- How much may be written, once a write that ended is collected: none while it is in progress, or where the writer was answered
-- pending; and as many as this where the answer was that it is ready.
pub data Permits (own : OpId) (writer : WriteState) (most : ℕ) : ℕ → List Entry → Type 0 where
  GoesOn : IsUnfinished (collected writer) → Permits own writer most 0 []
  NotReady : (half : TcpSendStream) (permit : ℕ) → collected writer ≡ writing.Ready half permit → Permits own writer most 0 (entry own (call.WriteReady half.side) told.Pending ∷ [])
  IsReady : (half : TcpSendStream) (permit : ℕ) → collected writer ≡ writing.Ready half permit → Permits own writer most most (entry own (call.WriteReady half.side) told.Done ∷ [])

-- so many bytes aren't permitted: they are past the permit, or a write wasn't collected yet
abbrev pub IsUnpermitted : WriteState → ℕ → Type 0
IsUnpermitted (writing.Ready half permit) n = permit < n
IsUnpermitted (writing.Writing job) n = ⊤
IsUnpermitted (writing.Closing job) n = ⊤
IsUnpermitted (writing.Closed e) n = ⊥

-- the writer is closed, and not because of a code
abbrev pub IsGivenUp : WriteState → Type 0
IsGivenUp writer = writer ≡ writing.Closed error.Closed

-- the writer is closed with the code, and nothing was asked
abbrev pub WasClosedWith : WriteState → ErrorCode → List Entry → Type 0
WasClosedWith writer c entries = (writer ≡ writing.Closed (error.LastOperationFailed c)) × (entries ≡ [])

-- the machine, where the writer is closed with the error
abbrev pub closing_writer : Machine → ℕ → TcpRecord → Streams → WriteError → Machine
closing_writer m place r s e = putting m place (with_writer r s (writing.Closed e))

-- a look fails with the error that the writer is closed with, once a write that ended is collected; it asks nothing
abbrev pub CheckFails : WriteError → WriteState → List Entry → Type 0
CheckFails e writer entries = (collected writer ≡ writing.Closed e) × (entries ≡ [])

-- A write fails with the error that the writer is closed with, or because it was answered with a code itself: its last asks are
-- then that write and the shutdown of its half.
pub data WriteFails (own : OpId) (e : WriteError) : WriteState → List Entry → Type 0 where
  ErrorKept : WriteFails own e (writing.Closed e) []
  CodeTold : (half : TcpSendStream) (permit offered : ℕ) (c : ErrorCode) (front : List Entry) → error_of_code c ≡ e
      → WriteFails own e (writing.Ready half permit) (front ++ entry own (call.Write half.side offered) (told.Code c) ∷ entry own (call.Shutdown half.side Send) told.Done ∷ [])
