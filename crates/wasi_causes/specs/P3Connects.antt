-- Why connects of 0.3 sockets are refused, what they ask and leave, and what a poll of one that is pending answers: it stands
-- beside other calls.
use Rattle.std.specs.Prelude.{◌≡◌, ℕ, Bool, true, false, List, [], ◌∷◌, ◌++◌, Some, None, IsSome, IsSomeAnd}
use Rattle.wasi_addr.specs.declared.address.IpAddress.{IpAddress}
use Rattle.wasi_addr.specs.declared.address.IpSocketAddress.{IpSocketAddress}
use Rattle.wasi_addr.specs.declared.address.SocketAddrUse.{SocketAddrUse}
use Rattle.wasi_addr.specs.declared.address.SocketAddrUse.TheVariants.{TcpBind, TcpConnect}
use Rattle.wasi_addr.specs.declared.code.ErrorCode.{ErrorCode}
use Rattle.wasi_addr.specs.declared.code.ErrorCode.TheVariants.{InvalidArgument, InvalidState}
use Rattle.wasi_addr.specs.Address.{wildcard}
use Rattle.wasi_world.specs.declared.call.Call.TheVariants as call
use Rattle.wasi_world.specs.declared.call.Entry.{Entry}
use Rattle.wasi_world.specs.declared.call.Told.{Told}
use Rattle.wasi_world.specs.declared.call.Told.TheVariants as told
use Rattle.wasi_world.specs.declared.datagram.IncomingDatagram.{IncomingDatagram}
use Rattle.wasi_world.specs.declared.ids.OpId.{OpId}
use Rattle.wasi_world.specs.declared.outcome.TrapKind.TheVariants.{NoSuchHandle}
use Rattle.wasi_world.specs.Operation.{Check, Item, Operation, Who}
use Rattle.wasi_world.specs.Operation as item
use Rattle.wasi_tcp.specs.Connect.{connect_first, connect_operation}
use Rattle.wasi_tcp.specs.Connecting.{is_connectable, new_connection, with_state}
use Rattle.wasi_tcp.specs.declared.socket.Connection.{Connection}
use Rattle.wasi_tcp.specs.declared.socket.TcpState.{TcpState}
use Rattle.wasi_tcp.specs.declared.socket.TcpState.TheVariants as state
use Rattle.wasi_tcp.specs.Shape.{Socket}
use Rattle.tcp_records.specs.declared.socket.TcpRecord.{TcpRecord}
use Rattle.record_common.specs.Binding.{left_of}
use Rattle.tcp_records.specs.InProgress.{is_nothing}
use Rattle.record_common.specs.Names.{own_of}
use Rattle.wasi_records.specs.Records.{open_at, tcp2_at}
use Rattle.udp_records.specs.declared.udp.OpenUdp.{OpenUdp}
use Rattle.tcp_records.specs.Sockets.{with_inner}
use Rattle.host_store.specs.declared.beside.BesideCall.{BesideCall}
use Rattle.host_store.specs.declared.beside.BesideCall.TheVariants.{Connect, Receive, Resolve, Send}
use Rattle.host_store.specs.declared.machine.Machine.{Machine}
use Rattle.host_store.specs.Beside.{beside_as, beside_of, beside_with, beside_without}
use Rattle.host_store.specs.Standing.{stands_as}
use Rattle.wasi_steps.specs.declared.reply.CodeWord.{CodeWord}
use Rattle.wasi_steps.specs.declared.reply.CodeWord.TheVariants as word
use Rattle.wasi_steps.specs.declared.reply.Field.{Field}
use Rattle.wasi_steps.specs.declared.reply.Reply.{Reply}
use Rattle.wasi_steps.specs.declared.reply.Reply.TheVariants as reply
use Rattle.wasi_steps.specs.Reply.{ips_values, no_fields, received_values}
use Rattle.wasi_walks.specs.Answered.{ClosedBy, ConnectsOn, EndsPending, IsBound, IsFoundUnbound, IsPastDefault}
use Rattle.wasi_walks.specs.Answered.{knowing_bound, putting}
use Rattle.wasi_walks.specs.Licence.{entry}
use Rattle.wasi_walks.specs.Waiting.{call_over}
use Rattle.wasi_causes.specs.P3Datagrams.{DatagramIsLost, DatagramOver, IsRestOfReceive, IsRestOfSend, ReceivePolled, SendPolled}
use Rattle.wasi_causes.specs.P3Lookups.{LookupPolled}
use Rattle.wasi_causes.specs.Refusals.{OfTcp3, SaidBy, p3_word}

-- the machine, with this socket in the record
abbrev pub with_socket_as : Machine → ℕ → TcpRecord → Socket → Machine
with_socket_as m place r socket = putting m place (with_inner r socket)

-- the machine, with a connect that stands beside other calls, the last of them
abbrev pub with_connect : Machine → ℕ → ℕ → Machine
with_connect m line place =
    record m { store = record m.store { beside = m.store.beside ++ beside_as line (Connect place) ∷ [] } }

-- == a connect that begins
-- It is asked whether the socket is bound, and the socket is this one then: it is bound, and is known to be; or it isn't.
pub data AsksBound (own : OpId) (socket : Socket) : List Entry → Bool → Socket → Type 0 where
  ItIsBound : (asked : List Entry) → IsBound own socket asked
      → AsksBound own socket asked true (record socket { bound = true })
  ItIsFree : (side : OpId) (local : Told) → IsFoundUnbound socket side local
      → AsksBound own socket (entry own (call.Local side) local ∷ []) false socket

-- A connect begins: nothing is in progress, the socket is in its first state, and may connect to this address.
pub record Begins (own : OpId) (r : TcpRecord) (a : IpSocketAddress) : Type 0 where
  pub side : OpId
  pub open_side : r.inner.state ≡ state.Default side
  pub idle : is_nothing r.in_progress ≡ true
  pub asked : List Entry
  pub bound : Bool
  pub socket : Socket
  pub finds : AsksBound own r.inner asked bound socket
  pub connectable : is_connectable r.inner a ≡ true

-- the operation that it begins, under the name of its line
abbrev pub begun_connect : OpId → OpId → TcpRecord → IpSocketAddress → Bool → Operation
begun_connect own side r a bound =
    connect_operation (record { op = own; side = side; maker = r.inner.maker }) (wildcard r.inner.family) a
    (connect_first bound)

abbrev pub check_entry : OpId → TcpRecord → IpSocketAddress → SocketAddrUse → Told → Entry
check_entry own r a usage told = entry own (call.Check r.inner.maker a usage) told

-- all was allowed and done: a socket that isn't bound has the wildcard checked for a bind first
abbrev pub bound_entries : OpId → OpId → TcpRecord → IpSocketAddress → List Entry
bound_entries own side r a =
    check_entry own r a TcpConnect told.Yes ∷ entry own (call.Connect side a) told.Done ∷ []

abbrev pub connected_entries : OpId → OpId → TcpRecord → IpSocketAddress → Bool → List Entry
connected_entries own side r a true = bound_entries own side r a
connected_entries own side r a false =
    check_entry own r (wildcard r.inner.family) TcpBind told.Yes ∷ bound_entries own side r a

-- A connect is refused: an operation is in progress, or the socket isn't in its first state; or it may not connect to this
-- address; or a check was answered no, or the connect with a code, and its network socket was closed last.
pub data ConnectFails (m : Machine) (own : OpId) (place : ℕ) (r : TcpRecord) (a : IpSocketAddress) : List Entry
    → ErrorCode → Machine → Type 0 where
  OperationGoesOn : is_nothing r.in_progress ≡ false → ConnectFails m own place r a [] InvalidState m
  NotInFirstState : IsPastDefault r.inner.state → ConnectFails m own place r a [] InvalidState m
  NoAddress : (side : OpId) (asked : List Entry) → r.inner.state ≡ state.Default side → IsBound own r.inner asked
      → is_connectable r.inner a ≡ false
      → ConnectFails m own place r a asked InvalidArgument (knowing_bound m place r)
  NoAddressUnbound : (side : OpId) (local : Told) → IsFoundUnbound r.inner side local
      → is_connectable r.inner a ≡ false
      → ConnectFails m own place r a (entry own (call.Local side) local ∷ []) InvalidArgument m
  ConnectCloses : (b : Begins own r a) (polled : List Entry) (c : ErrorCode)
      → ClosedBy (begun_connect own b.side r a b.bound) polled c
      → ConnectFails m own place r a (b.asked ++ polled) c
      (with_socket_as m place r (with_state b.socket (state.Closed c)))

abbrev pub P3ConnectRefusal : Machine → OpId → ℕ → IpSocketAddress → List Entry → CodeWord → Machine → Type 0
P3ConnectRefusal m own handle a es w after =
    OfTcp3 m handle (λ place r. SaidBy p3_word (λ c. ConnectFails m own place r a es c after) w)

-- The checks were answered yes, and the connect done: the socket is connected.
pub record Connects (m : Machine) (own : OpId) (place : ℕ) (r : TcpRecord) (a : IpSocketAddress) (entries : List Entry)
    (after : Machine) : Type 0 where
  pub begins : Begins own r a
  pub asked : entries ≡ begins.asked ++ connected_entries own begins.side r a begins.bound
  pub left : after ≡ with_socket_as m place r
      (with_state begins.socket (state.Connected (new_connection begins.side)))

-- Its last ask was answered pending: the socket is connecting, by what is left, and the call stands beside others.
pub record ConnectStands (m : Machine) (line place : ℕ) (r : TcpRecord) (a : IpSocketAddress) (entries : List Entry)
    (after : Machine) : Type 0 where
  pub begins : Begins (own_of line) r a
  pub polled : List Entry
  pub asked : entries ≡ begins.asked ++ polled
  pub waits : EndsPending (own_of line) polled
  pub to_do : List Item
  pub left : after ≡ with_connect (with_socket_as m place r (with_state begins.socket
      (state.Connecting (left_of (begun_connect (own_of line) begins.side r a begins.bound) to_do)))) line place

-- == a poll of one that stands beside others
-- the state in which no connect was begun
abbrev pub HasNoConnect : TcpState → Type 0
HasNoConnect (state.Default side) = Unit {0}
HasNoConnect (state.Listening side) = Unit {0}
HasNoConnect _ = ⊥

-- all that was left was allowed and done
abbrev pub passed_entries : Who → List Item → List Entry
passed_entries who [] = []
passed_entries who (Check a usage ∷ items) =
    entry who.id (call.Check who.context a usage) told.Yes ∷ passed_entries who items
passed_entries who (item.Connect a ∷ items) =
    entry who.id (call.Connect who.side a) told.Done ∷ passed_entries who items
passed_entries who (_ ∷ items) = passed_entries who items

-- Of a socket that is there: it connects on; or is connected; or its connect was answered no, or with a code, and it is closed
-- with that. Of one that isn't connecting, which no run has, the answer is by its state.
pub data SocketPolled (m : Machine) (n place : ℕ) (r : TcpRecord) : List Entry → Reply → Machine → Type 0 where
  ConnectsStill : (op : Operation) (to_do : List Item) (es : List Entry) → r.inner.state ≡ state.Connecting op
      → EndsPending op.who.id es
      → SocketPolled m n place r es (reply.Pending n)
      (with_socket_as m place r (with_state r.inner (state.Connecting (left_of op to_do))))
  IsConnected : (op : Operation) → r.inner.state ≡ state.Connecting op
      → SocketPolled m n place r (passed_entries op.who op.left) (reply.Ok no_fields) (call_over
      (with_socket_as m place r (with_state r.inner (state.Connected (new_connection op.who.side)))) n)
  IsClosed : (op : Operation) (es : List Entry) (c : ErrorCode) → r.inner.state ≡ state.Connecting op
      → ClosedBy op es c
      → SocketPolled m n place r es (reply.Err (p3_word c))
      (call_over (with_socket_as m place r (with_state r.inner (state.Closed c))) n)
  WasConnected : (connection : Connection) → r.inner.state ≡ state.Connected connection
      → SocketPolled m n place r [] (reply.Ok no_fields) (call_over m n)
  WasClosedBefore : (c : ErrorCode) → r.inner.state ≡ state.Closed c
      → SocketPolled m n place r [] (reply.Err (p3_word c)) (call_over m n)
  NeverBegan : HasNoConnect r.inner.state
      → SocketPolled m n place r [] (reply.Err (p3_word InvalidState)) (call_over m n)

-- the socket isn't there any more: nothing is asked
abbrev pub SocketIsGone : Machine → ℕ → List Entry → Reply → Machine → Type 0
SocketIsGone m n es r after = (r ≡ reply.Trap NoSuchHandle) × (es ≡ []) × (after ≡ call_over m n)

abbrev pub GoesOnBeside : Machine → ℕ → List Entry → Reply → Machine → BesideCall → Type 0
GoesOnBeside m n es r after (Connect place) =
    (tcp2_at m.store.records place ≡ None → SocketIsGone m n es r after)
    × ((q : TcpRecord) → tcp2_at m.store.records place ≡ Some q → ConnectsOn q.inner.state
    → SocketPolled m n place q es r after)
GoesOnBeside m n es r after (Resolve host) = LookupPolled m n host es r after
GoesOnBeside m n es r after (Send place op) =
    (open_at m.store.records place ≡ None → DatagramIsLost m es r after)
    × ((o : OpenUdp) → open_at m.store.records place ≡ Some o → IsRestOfSend op → SendPolled m n place o op es r after)
GoesOnBeside m n es r after (Receive place op) =
    (open_at m.store.records place ≡ None → DatagramIsLost m es r after)
    × ((o : OpenUdp) → open_at m.store.records place ≡ Some o → IsRestOfReceive op → ReceivePolled m n place o op es r after)

-- it is over by this answer, which gives nothing, or the addresses of a lookup, or a datagram
pub data IsOver : Reply → Type 0 where
  OverDone : IsOver (reply.Ok no_fields)
  OverFound : (addresses : List IpAddress) → IsOver (reply.Ok (ips_values addresses))
  OverReceived : (d : IncomingDatagram) → IsOver (reply.Ok (received_values d))
  OverUnresolved : IsOver (reply.Err word.NameUnresolvable)
  OverRefused : (c : ErrorCode) → IsOver (reply.Err (p3_word c))
  OverGone : IsOver (reply.Trap NoSuchHandle)

-- what it gives where it is done: a connect and a send nothing, a lookup addresses, a receive a datagram
abbrev pub BesideGives : List Field → BesideCall → Type 0
BesideGives fields (Connect place) = fields ≡ no_fields
BesideGives fields (Resolve host) = (addresses : List IpAddress) × (fields ≡ ips_values addresses)
BesideGives fields (Send place op) = fields ≡ no_fields
BesideGives fields (Receive place op) = (d : IncomingDatagram) × (fields ≡ received_values d)

-- the call stands where it stood: a connect and a lookup as they were, a datagram by what is left of it
abbrev pub StandsStill : Machine → ℕ → Machine → BesideCall → Type 0
StandsStill m n after (Connect place) = after.store.beside ≡ m.store.beside
StandsStill m n after (Resolve host) = after.store.beside ≡ m.store.beside
StandsStill m n after (Send place op) = (now : Operation) × (after.store.beside ≡ beside_with m.store.beside n (Send place now))
StandsStill m n after (Receive place op) = (now : Operation) × (after.store.beside ≡ beside_with m.store.beside n (Receive place now))

-- it is a datagram whose record isn't there, which no run has
abbrev pub HasNoRecord : Machine → BesideCall → Type 0
HasNoRecord m (Connect place) = ⊥
HasNoRecord m (Resolve host) = ⊥
HasNoRecord m (Send place op) = open_at m.store.records place ≡ None
HasNoRecord m (Receive place op) = open_at m.store.records place ≡ None

-- How a poll of such a call ends: it stands where it stood while it is pending; or it is over; or it is lost.
pub data BesideEnds (m : Machine) (n : ℕ) (its : BesideCall) : Reply → Machine → Type 0 where
  StaysPending : (after : Machine) → StandsStill m n after its → BesideEnds m n its (reply.Pending n) after
  EndsOver : (r : Reply) (after : Machine) → IsOver r → after.store.beside ≡ beside_without m.store.beside n
      → BesideEnds m n its r after
  IsLost : HasNoRecord m its → BesideEnds m n its (reply.Trap NoSuchHandle) m

-- What a poll of such a call leaves: the handles and the exclusive call as they were; and how it ends, and why.
pub record BesidePolled (m : Machine) (n : ℕ) (es : List Entry) (r : Reply) (after : Machine) : Type 0 where
  pub handles : after.table ≡ m.table
  pub exclusive : after.store.standing ≡ m.store.standing
  pub ends : IsSomeAnd (beside_of m.store n) (λ b. BesideEnds m n b.call r after)
  pub why : IsSomeAnd (beside_of m.store n) (λ b. GoesOnBeside m n es r after b.call)

-- the call of this number stands beside others, and the exclusive call, if there is one, has another number
abbrev pub IsBeside : Machine → ℕ → Type 0
IsBeside m n = (stands_as m.store.standing n ≡ false) × IsSome (beside_of m.store n)

-- one that is given up is over; nothing is asked for a connect, whose socket keeps connecting, and for a lookup; and the socket of a
-- datagram goes with the last that holds it
abbrev pub LeavesBeside : Machine → ℕ → List Entry → Machine → BesideCall → Type 0
LeavesBeside m n es after (Connect place) = (es ≡ []) × (after ≡ call_over m n)
LeavesBeside m n es after (Resolve host) = (es ≡ []) × (after ≡ call_over m n)
LeavesBeside m n es after (Send place op) = (o : OpenUdp) → open_at m.store.records place ≡ Some o → DatagramOver m n place o es after
LeavesBeside m n es after (Receive place op) = (o : OpenUdp) → open_at m.store.records place ≡ Some o → DatagramOver m n place o es after

abbrev pub BesideCancelled : Machine → ℕ → List Entry → Machine → Type 0
BesideCancelled m n es after = IsBeside m n × IsSomeAnd (beside_of m.store n) (λ b. LeavesBeside m n es after b.call)
