-- What the log says of the machine's state: the invariant that makes its next call a licensed one.
use Rattle.wasi_walks.proofs.Words.{Accept, Accepting, Accepts, Arrived, BeganBy, Bind, Call, Check, CheckArrival, CloseLast, Connect, Connection}
use Rattle.wasi_walks.proofs.Words.{Entry, ErrorCode, HandedNone, Has, InProgress, IpSocketAddress, IsBindTo, IsBoundSide, IsConnectTo, IsMaker}
use Rattle.wasi_walks.proofs.Words.{IsMarkedWith, Item, Job, Kind, Last, List, Listener, Listening, Listens, Machine, MarksNoSocket, MayGoOut}
use Rattle.wasi_walks.proofs.Words.{NamesSide, None, Nothing, NothingLast, OpId, Operation, Option, ReadState, ShutdownLast, ShutdownSend, Socket}
use Rattle.wasi_walks.proofs.Words.{SocketAddressFamily, Some, Standing, Step, Streams, TcpRecord, TcpBind, TcpConnect, TcpState, Told, WasiSocketsCtx, Write}
use Rattle.wasi_walks.proofs.Words.{WriteState, Yes, [], call_place, entry, kind_at, marks_in, own_of, side_of, true, wildcard, ℕ, ⊤, ◌++◌}
use Rattle.wasi_walks.proofs.Words.{◌+◌, ◌∷◌, ◌≡◌}
use Rattle.wasi_walks.proofs.walks.Moves.{Interface, ListensFor, MakesUdpFor, record_of, udp_record_of, sending_in, receiving_in, IsOfHandle, CallKind, IsCall, kind_of}
use Rattle.wasi_walks.proofs.licence.Lookups.{LookupIsFine, LookupsAreFine, NamesNone}
use Rattle.host_streams.specs.Blocking.{blocking_handles}
use Rattle.host_store.specs.Kinds.{name_of}
use Rattle.wasi_tcp.specs.declared.writer.WriteError.{WriteError}
use Rattle.wasi_world.specs.Operation.{End, Refused}
use Rattle.wasi_walks.specs.Licence.{handles_of, IsReceive, IsMarkedAs, WriteFailed, IsRemote, IsSendOf, IsStreamOf, IsUdpBindTo, IsUdpConnectTo, MakesTcp, MakesUdp, MaySendOut, Receives, WasDisconnected}
use Rattle.std.specs.Prelude.{Bool, IsSome, slice_get, ◌⊎◌}
use Rattle.std.specs.List.{AllByRecursion}
use Rattle.host_store.specs.declared.beside.Beside.{Beside}
use Rattle.host_store.specs.declared.beside.BesideCall.{BesideCall}
use Rattle.host_store.specs.declared.beside.BesideCall.TheVariants as beside
use Rattle.wasi_walks.proofs.walks.Here.{end_place}
use Rattle.wasi_world.specs.declared.datagram.OutgoingDatagram.{OutgoingDatagram}
use Rattle.host_store.specs.declared.store.StandingCall.{StandingCall}
use Rattle.wasi_udp.specs.Receive.{IsLeftOfReceive}
use Rattle.wasi_addr.specs.declared.address.SocketAddrUse.TheVariants as use_of
use Rattle.wasi_world.specs.Operation.{UdpBind, UdpConnect, UdpWritable, Send}
use Rattle.wasi_records.specs.Records.{tcp2_at, udp2_at}
use Rattle.udp_records.specs.Udp.{udp_side}
use Rattle.wasi_records.specs.declared.records.Record.{Record}
use Rattle.udp_records.specs.declared.udp.OpenUdp.{OpenUdp}
use Rattle.udp_records.specs.declared.udp.UdpRecord.{UdpRecord}
use Rattle.udp_records.specs.declared.udp.UdpInProgress.{UdpInProgress}
use Rattle.wasi_udp.specs.Create.{Create}

-- The handle stands for the record at this place, and its mark says the network socket that the record was made with.
pub record NamesRecord (es : List Entry) (records : List Record) (handle place : ℕ) : Type 0 where
  pub found : TcpRecord
  pub at : tcp2_at records place ≡ Some found
  pub marked : IsMarkedWith es handle found.side

abbrev pub NamesIf : List Entry → List Record → ℕ → Option ℕ → Type 0
NamesIf es records handle (Some place) = NamesRecord es records handle place
NamesIf es records handle None = ⊤

-- The same of a UDP socket, whose mark always says its network socket.
pub record NamesUdp (es : List Entry) (records : List Record) (handle place : ℕ) : Type 0 where
  pub found : UdpRecord
  pub at : udp2_at records place ≡ Some found
  pub marked : IsMarkedWith es handle (Some (udp_side found))

abbrev pub NamesUdpIf : List Entry → List Record → ℕ → Option ℕ → Type 0
NamesUdpIf es records handle (Some place) = NamesUdp es records handle place
NamesUdpIf es records handle None = ⊤

-- The handle is of an end of the connection that had its place here: its mark says the network socket that the record was made
-- with, where that is there still.
pub record NamesEnd (es : List Entry) (records : List Record) (handle place : ℕ) : Type 0 where
  pub there : IsSome (slice_get records place)
  pub marked : (r : TcpRecord) → tcp2_at records place ≡ Some r → IsMarkedWith es handle r.side

abbrev pub NamesEndIf : List Entry → List Record → ℕ → Option ℕ → Type 0
NamesEndIf es records handle (Some place) = NamesEnd es records handle place
NamesEndIf es records handle None = ⊤

-- what the mark of a handle of this kind says of its network socket
abbrev pub NamesItsOwn : List Entry → List Record → ℕ → Kind → Type 0
NamesItsOwn es records handle kind =
    NamesIf es records handle (record_of (Some kind)) × NamesUdpIf es records handle (udp_record_of (Some kind)) × NamesNone es handle kind × NamesEndIf es records handle (end_place kind)

-- and its mark says which kind it is
abbrev pub HandleIsFine : List Entry → List Record → ℕ → Kind → Type 0
HandleIsFine es records handle kind =
    NamesIf es records handle (record_of (Some kind)) × NamesUdpIf es records handle (udp_record_of (Some kind)) × NamesNone es handle kind × IsMarkedAs es handle (name_of kind) × NamesEndIf es records handle (end_place kind)

-- The socket knows the creator of its network socket, and the network socket's family.
pub record KnowsMaker (es : List Entry) (socket : Socket) : Type 0 where
  pub maker : (side : OpId) → side_of socket ≡ Some side → IsMaker es socket.maker socket.family side

-- The socket is connected, on this network socket.
pub record IsConnectedOn (socket : Socket) (side : OpId) : Type 0 where
  pub connection : Connection
  pub state : socket.state ≡ TcpState.Connected connection
  pub same : connection.side ≡ side

-- the half, while it is open, is of this network socket
abbrev pub ReadsOn : OpId → ReadState → Type 0
ReadsOn side (ReadState.Open half) = half.side ≡ side
ReadsOn side ReadState.Closed = ⊤

-- what is left of a bind to the address, and the yes that it was answered
pub data BindLeft (es : List Entry) (op : OpId) (maker : ℕ) (addr : IpSocketAddress) : List Item → Type 0 where
  Whole : BindLeft es op maker addr (Check addr TcpBind ∷ Bind addr ∷ [])
  Checked : Has es (entry op (Call.Check maker addr TcpBind) Yes) → BindLeft es op maker addr (Bind addr ∷ [])
  Over : BindLeft es op maker addr []

-- what is left of a connect to the address, and what it was answered so far
pub data ConnectLeft (es : List Entry) (op side : OpId) (maker : ℕ) (addr : IpSocketAddress) : List Item → Type 0 where
  Unbound : (family : SocketAddressFamily) → IsMaker es maker family side → ConnectLeft es op side maker addr (Check (wildcard family) TcpBind ∷ Check addr TcpConnect ∷ Connect addr ∷ [])
  Unchecked : MayGoOut es op side → ConnectLeft es op side maker addr (Check addr TcpConnect ∷ Connect addr ∷ [])
  Allowed : MayGoOut es op side → Has es (entry op (Call.Check maker addr TcpConnect) Yes) → ConnectLeft es op side maker addr (Connect addr ∷ [])
  ToClose : (c : ErrorCode) → ConnectLeft es op side maker addr (Last c Nothing ∷ [])
  Ended : ConnectLeft es op side maker addr []

-- what is left of a bind of a UDP socket to the address, and the yes that it was answered
pub data UdpBindLeft (es : List Entry) (op : OpId) (maker : ℕ) (addr : IpSocketAddress) : List Item → Type 0 where
  UdpUnchecked : UdpBindLeft es op maker addr (Check addr use_of.UdpBind ∷ UdpBind addr ∷ [])
  UdpChecked : Has es (entry op (Call.Check maker addr use_of.UdpBind) Yes) → UdpBindLeft es op maker addr (UdpBind addr ∷ [])
  UdpOver : UdpBindLeft es op maker addr []

-- what is left of a connect of a UDP socket to the address, and the yeses that it was answered
pub data UdpConnectLeft (es : List Entry) (op side : OpId) (maker : ℕ) (family : SocketAddressFamily) (addr : IpSocketAddress) : List Item → Type 0 where
  ConnectUnbound : UdpConnectLeft es op side maker family addr (Check (wildcard family) use_of.UdpBind ∷ Check addr use_of.UdpSend ∷ Check addr use_of.UdpReceive ∷ UdpConnect family addr ∷ [])
  ConnectWhole : MaySendOut es op side → UdpConnectLeft es op side maker family addr (Check addr use_of.UdpSend ∷ Check addr use_of.UdpReceive ∷ UdpConnect family addr ∷ [])
  ConnectSends : MaySendOut es op side → Has es (entry op (Call.Check maker addr use_of.UdpSend) Yes) → UdpConnectLeft es op side maker family addr (Check addr use_of.UdpReceive ∷ UdpConnect family addr ∷ [])
  ConnectChecked : MaySendOut es op side → Has es (entry op (Call.Check maker addr use_of.UdpSend) Yes) → Has es (entry op (Call.Check maker addr use_of.UdpReceive) Yes) → UdpConnectLeft es op side maker family addr (UdpConnect family addr ∷ [])

-- where a datagram goes: to its address, or to the remote address, where it has none
abbrev pub IsFor : OutgoingDatagram → Bool → IpSocketAddress → Type 0
IsFor d kept addr = (d.remote_address ≡ Some addr) ⊎ ((d.remote_address ≡ None) × (kept ≡ true))

-- what is left of a datagram, and what it was answered so far
pub data SendLeft (es : List Entry) (op side : OpId) (maker : ℕ) (family : SocketAddressFamily) (d : OutgoingDatagram) : List Item → Type 0 where
  SendRefused : (c : ErrorCode) → SendLeft es op side maker family d (Last c Nothing ∷ [])
  SendUnbound : (kept : Bool) (addr : IpSocketAddress) → IsFor d kept addr → SendLeft es op side maker family d (Check (wildcard family) use_of.UdpBind ∷ Check addr use_of.UdpSend ∷ Send kept addr d.bytes ∷ [])
  SendUnchecked : (kept : Bool) (addr : IpSocketAddress) → IsFor d kept addr → MaySendOut es op side → SendLeft es op side maker family d (Check addr use_of.UdpSend ∷ Send kept addr d.bytes ∷ [])
  SendChecked : (kept : Bool) (addr : IpSocketAddress) → IsFor d kept addr → MaySendOut es op side → Has es (entry op (Call.Check maker addr use_of.UdpSend) Yes) → SendLeft es op side maker family d (Send kept addr d.bytes ∷ [])
  SendOver : SendLeft es op side maker family d []

-- the remote address that is kept is the network socket's
abbrev pub RemoteIs : List Entry → OpId → Option IpSocketAddress → Type 0
RemoteIs es side remote = (addr : IpSocketAddress) → remote ≡ Some addr → IsRemote es side addr

-- no other was told since
abbrev pub KeepsRemote : List Entry → List Entry → OpId → Type 0
KeepsRemote es fs side = (addr : IpSocketAddress) → IsRemote es side addr → IsRemote fs side addr

-- what may be left of a write: nothing of it asks for an address
pub data WriteLeft : List Item → Type 0 where
  ToWrite : (rest : List ℕ) → WriteLeft (Write rest ∷ [])
  ToWriteAndShut : (rest : List ℕ) → WriteLeft (Write rest ∷ ShutdownSend ∷ [])
  ToShut : WriteLeft (ShutdownSend ∷ [])
  Written : WriteLeft []

-- one that ended with a code was told one
abbrev pub EndTold : List Entry → OpId → End → Type 0
EndTold es side (Refused c given) = WriteFailed es side
EndTold es side _ = ⊤

-- and so was the writer that keeps one
abbrev pub ErrorTold : List Entry → OpId → WriteError → Type 0
ErrorTold es side (WriteError.LastOperationFailed c) = WriteFailed es side
ErrorTold es side WriteError.Closed = ⊤

-- == an accept
-- The operation's last `accept` on the listener reported this peer.
pub record LastAccept (es : List Entry) (op side : OpId) (peer : IpSocketAddress) : Type 0 where
  pub front : List Entry
  pub back : List Entry
  pub cut : es ≡ front ++ entry op (Call.Accept side) (Arrived peer) ∷ back
  pub last : (told : Told) → Has back (entry op (Call.Accept side) told) → ⊥

-- The log has what the operation handed over on the listener's network socket.
pub record IsHanded (es : List Entry) (op side : OpId) (peer : IpSocketAddress) : Type 0 where
  pub told : Told
  pub hand : Has es (entry op (Call.Hand side peer) told)

-- what is left of an accept that waits, and what it was answered
pub data AcceptLeft (es : List Entry) (op side : OpId) : List Item → Type 0 where
  Unarrived : AcceptLeft es op side (Accept ∷ [])
  ToCheck : (peer : IpSocketAddress) → LastAccept es op side peer → AcceptLeft es op side (CheckArrival peer ∷ [])

-- An accept that waits has handed nothing over, its name is in no mark of a socket, and so much is left of it.
pub record AcceptStands (es : List Entry) (op side : OpId) (left : List Item) : Type 0 where
  pub handed : HandedNone es op
  pub marked : MarksNoSocket es op
  pub so_far : AcceptLeft es op side left

-- what a listener's accept may rely on while nothing is asked by its name: a connection that isn't taken is in no mark
abbrev pub AcceptingStands : List Entry → OpId → Accepting → Type 0
AcceptingStands es side (Accepting.Asking op) = AcceptStands es op.who.id side op.left
AcceptingStands es side (Accepting.Arrived new peer) = MarksNoSocket es new
AcceptingStands es side _ = ⊤

abbrev pub ListeningStands : List Entry → Listening → Type 0
ListeningStands es (Accepts l) = AcceptingStands es l.side l.accept
ListeningStands es _ = ⊤

-- the name of the accept that is asking, or of the connection that isn't taken
abbrev pub name_in : Accepting → Option OpId
name_in (Accepting.Asking op) = Some op.who.id
name_in (Accepting.Arrived new peer) = Some new
name_in _ = None

abbrev pub accept_name : Listening → Option OpId
accept_name (Accepts l) = name_in l.accept
accept_name _ = None

-- no two records have an accept of one name
abbrev pub OneHolds : List Record → Type 0
OneHolds records = (i j : ℕ) (r s : TcpRecord) (x : OpId) → tcp2_at records i ≡ Some r → tcp2_at records j ≡ Some s → accept_name r.listening ≡ Some x → accept_name s.listening ≡ Some x → i ≡ j

-- it holds of the operation, where there is one
abbrev pub IfOp : (Operation → Type 0) → Option Operation → Type 0
IfOp P (Some op) = P op
IfOp P None = ⊤

module _ (steps : List Step) where
  -- the operation's step names a handle of this network socket
  abbrev pub Names : List Entry → OpId → OpId → Type 0
  Names es op side = BeganBy steps op (NamesSide es side)

  -- The operation is on a network socket that its step names, and knows the network socket's creator.
  pub record WorksOn (es : List Entry) (op side : OpId) (maker : ℕ) : Type 0 where
    pub family : SocketAddressFamily
    pub made : IsMaker es maker family side
    pub named : Names es op side

  -- A bind that may be polled: where it came from, and what it has asked so far.
  pub record BindIsFine (es : List Entry) (op : Operation) : Type 0 where
    pub addr : IpSocketAddress
    pub to : BeganBy steps op.who.id (IsBindTo addr)
    pub tcp : BeganBy steps op.who.side MakesTcp
    pub works : WorksOn es op.who.id op.who.side op.who.context
    pub last : op.who.last ≡ NothingLast
    pub left : BindLeft es op.who.id op.who.context addr op.left

  -- A connect that may be polled: where it came from, and what it has asked so far.
  pub record ConnectIsFine (es : List Entry) (op : Operation) : Type 0 where
    pub addr : IpSocketAddress
    pub to : BeganBy steps op.who.id (IsConnectTo addr)
    pub tcp : BeganBy steps op.who.side MakesTcp
    pub works : WorksOn es op.who.id op.who.side op.who.context
    pub last : op.who.last ≡ CloseLast
    pub left : ConnectLeft es op.who.id op.who.side op.who.context addr op.left

  -- A write that may be polled: it is on this network socket, of which its own step names a handle.
  pub record JobIsFine (es : List Entry) (side : OpId) (job : Job) : Type 0 where
    pub named : Names es job.write.who.id side
    pub on : job.write.who.side ≡ side
    pub last : job.write.who.last ≡ ShutdownLast
    pub left : WriteLeft job.write.left
    pub ended : EndTold es side job.end

  -- the half, while there is one, is of this network socket, and a write in progress may be polled
  abbrev pub WritesOn : List Entry → OpId → WriteState → Type 0
  WritesOn es side (WriteState.Ready half permit) = half.side ≡ side
  WritesOn es side (WriteState.Writing job) = JobIsFine es side job
  WritesOn es side (WriteState.Closing job) = JobIsFine es side job
  WritesOn es side (WriteState.Closed e) = ErrorTold es side e

  -- The streams are of the socket's connection.
  pub record StreamsAreFine (es : List Entry) (socket : Socket) (streams : Streams) : Type 0 where
    pub side : OpId
    pub connected : IsConnectedOn socket side
    pub reads : ReadsOn side streams.reader
    pub writes : WritesOn es side streams.writer

  -- An accept that may be polled: it is on the listener's network socket, which its step names, and for the listener's
  -- creator.
  pub record AcceptIsFine (es : List Entry) (side : OpId) (maker : ℕ) (op : Operation) : Type 0 where
    pub named : Names es op.who.id side
    pub on : op.who.side ≡ side
    pub asks : op.who.context ≡ maker
    pub last : op.who.last ≡ NothingLast

  -- the listener's accept may be polled, and a connection that isn't taken was handed over
  abbrev pub AcceptingIsFine : List Entry → OpId → ℕ → Accepting → Type 0
  AcceptingIsFine es side maker (Accepting.Asking op) = AcceptIsFine es side maker op
  AcceptingIsFine es side maker (Accepting.Arrived new peer) = IsHanded es new side peer
  AcceptingIsFine es side maker _ = ⊤

  -- A listener is on the network socket that its record was made with, and knows its creator.
  pub record ListenerIsFine (es : List Entry) (made : Option OpId) (l : Listener) : Type 0 where
    pub side : made ≡ Some l.side
    pub maker : IsMaker es l.maker l.family l.side
    pub accept : AcceptingIsFine es l.side l.maker l.accept

  abbrev pub ListeningIsFine : List Entry → Option OpId → Listening → Type 0
  ListeningIsFine es made (Accepts l) = ListenerIsFine es made l
  ListeningIsFine es made _ = ⊤

  -- A socket knows its creator, and one that does nothing yet was made by a create of its own; it is bound, and it listens, only
  -- where the log says so; and its connect may be polled.
  pub record SocketIsFine (es : List Entry) (socket : Socket) : Type 0 where
    pub knows : KnowsMaker es socket
    pub tcp : (side : OpId) → socket.state ≡ TcpState.Default side → BeganBy steps side MakesTcp
    pub bound : (side : OpId) → socket.state ≡ TcpState.Default side → socket.bound ≡ true → IsBoundSide es side
    pub listens : (side : OpId) → socket.state ≡ TcpState.Listening side → Listens es side
    pub connect : (op : Operation) → socket.state ≡ TcpState.Connecting op → ConnectIsFine es op

  -- the bind in progress may be polled
  abbrev pub ProgressIsFine : List Entry → InProgress → Type 0
  ProgressIsFine es (InProgress.Binding op) = BindIsFine es op
  ProgressIsFine es _ = ⊤

  -- A socket that still has a network socket has the one that its record was made with.
  pub record RecordIsFine (es : List Entry) (r : TcpRecord) : Type 0 where
    pub socket : SocketIsFine es r.inner
    pub named : (side : OpId) → side_of r.inner ≡ Some side → r.side ≡ Some side
    pub streams : (streams : Streams) → r.streams ≡ Some streams → StreamsAreFine es r.inner streams
    pub listening : ListeningIsFine es r.side r.listening
    pub progress : ProgressIsFine es r.in_progress

  -- == UDP sockets
  -- The network socket was made by a `udp-create` of its own name, for this context and of this family, and the create was
  -- answered done.
  pub record UdpMade (es : List Entry) (side : OpId) (maker : ℕ) (family : SocketAddressFamily) : Type 0 where
    pub by : BeganBy steps side MakesUdp
    pub created : Has es (entry side (Call.UdpCreate maker family) Told.Done)

  -- A create that waits for its network socket: it has the network socket's name, asks whether it is there, and closes it where
  -- that is refused.
  pub record CreateIsFine (es : List Entry) (create : Create) : Type 0 where
    pub made : UdpMade es create.operation.who.side create.operation.who.context create.family
    pub own : create.operation.who.id ≡ create.operation.who.side
    pub last : create.operation.who.last ≡ CloseLast
    pub left : create.operation.left ≡ UdpWritable ∷ []

  -- A bind of a UDP socket that may be polled: where it came from, and what it has asked so far.
  pub record UdpBindIsFine (es : List Entry) (op : Operation) : Type 0 where
    pub addr : IpSocketAddress
    pub to : BeganBy steps op.who.id (IsUdpBindTo addr)
    pub udp : BeganBy steps op.who.side MakesUdp
    pub works : WorksOn es op.who.id op.who.side op.who.context
    pub last : op.who.last ≡ NothingLast
    pub left : UdpBindLeft es op.who.id op.who.context addr op.left

  abbrev pub UdpProgressIsFine : List Entry → UdpInProgress → Type 0
  UdpProgressIsFine es (UdpInProgress.Binding op) = UdpBindIsFine es op
  UdpProgressIsFine es _ = ⊤

  -- A connect of a UDP socket that may be polled: where it came from, and what it has asked so far.
  pub record UdpConnectIsFine (es : List Entry) (op : Operation) : Type 0 where
    pub addr : IpSocketAddress
    pub to : BeganBy steps op.who.id (IsUdpConnectTo addr)
    pub udp : BeganBy steps op.who.side MakesUdp
    pub family : SocketAddressFamily
    pub made : IsMaker es op.who.context family op.who.side
    pub named : Names es op.who.id op.who.side
    pub last : op.who.last ≡ NothingLast
    pub left : UdpConnectLeft es op.who.id op.who.side op.who.context family addr op.left

  -- A datagram that may be polled: which one of its step it is, and what it has asked so far.
  pub record SendIsFine (es : List Entry) (op : Operation) : Type 0 where
    pub datagram : OutgoingDatagram
    pub item : BeganBy steps op.who.id (IsSendOf op.who.id.part datagram)
    pub udp : BeganBy steps op.who.side MakesUdp
    pub family : SocketAddressFamily
    pub made : IsMaker es op.who.context family op.who.side
    pub named : Names es op.who.id op.who.side
    pub last : op.who.last ≡ NothingLast
    pub left : SendLeft es op.who.id op.who.side op.who.context family datagram op.left

  -- A receive that may be polled: a line began it that receives.
  pub record ReceiveIsFine (es : List Entry) (op : Operation) : Type 0 where
    pub began : BeganBy steps op.who.id Receives
    pub family : SocketAddressFamily
    pub made : IsMaker es op.who.context family op.who.side
    pub named : Names es op.who.id op.who.side
    pub last : op.who.last ≡ NothingLast
    pub left : IsLeftOfReceive op.left

  -- A UDP socket that is there knows its creator; it is known to be bound only where the log says so; and its bind may be polled, and
  -- its connect, its datagram and its receive.
  pub record OpenIsFine (es : List Entry) (o : OpenUdp) : Type 0 where
    pub made : UdpMade es o.inner.side o.inner.maker o.inner.family
    pub bound : o.inner.bound ≡ true → IsBoundSide es o.inner.side ⊎ WasDisconnected es o.inner.side
    pub progress : UdpProgressIsFine es o.in_progress
    pub connecting : IfOp (UdpConnectIsFine es) o.connecting
    pub sending : IfOp (SendIsFine es) (sending_in o.outgoing)
    pub receiving : IfOp (ReceiveIsFine es) (receiving_in o.incoming)

  -- One whose network socket is closed: that was made.
  pub record ClosedIsFine (es : List Entry) (side : OpId) : Type 0 where
    pub maker : ℕ
    pub family : SocketAddressFamily
    pub made : UdpMade es side maker family

  abbrev pub UdpIsFine : List Entry → UdpRecord → Type 0
  UdpIsFine es (UdpRecord.Creating create) = CreateIsFine es create
  UdpIsFine es (UdpRecord.Open o) = OpenIsFine es o
  UdpIsFine es (UdpRecord.Closed side) = ClosedIsFine es side

  -- == the pending call, and the state
  -- where a call on the record at this place is pending, its line names a handle of the network socket that the record was made with
  pub data LineNames (es : List Entry) (records : List Record) (line place : ℕ) : Type 0 where
    OfTcp : (found : TcpRecord) → tcp2_at records place ≡ Some found → ((side : OpId) → found.side ≡ Some side → Names es (own_of line) side) → LineNames es records line place
    OfUdp : (found : UdpRecord) → udp2_at records place ≡ Some found → Names es (own_of line) (udp_side found) → LineNames es records line place

  -- where streams are to be made by this line under this handle, its step says so
  abbrev pub MakesStreams : ℕ → ℕ → Type 0
  MakesStreams line handle = BeganBy steps (own_of line) (IsStreamOf handle)

  -- where a socket listens for this line, its step says under which handle its listener gets one, or that it gets none
  abbrev pub MakesListener : ℕ → Option ℕ → Type 0
  MakesListener line marks = BeganBy steps (own_of line) (ListensFor marks)

  -- where a call of this kind is done for this line on these handles, its step is such a call, and names them
  abbrev pub MakesCalls : CallKind → ℕ → List ℕ → Type 0
  MakesCalls kind line handles = BeganBy steps (own_of line) (λ s. IsCall kind s × (handles_of s ≡ handles))

  abbrev pub StreamsStand : ℕ → StandingCall → Type 0
  StreamsStand line (StandingCall.UdpConnect place handle) = MakesStreams line handle
  StreamsStand line (StandingCall.Listen place marks) = MakesListener line marks
  StreamsStand line (StandingCall.Blocking call) = MakesCalls (kind_of call) line (blocking_handles call)
  StreamsStand line _ = ⊤

  -- The record's network socket was made by a create of the interface.
  pub record IsMadeFor (records : List Record) (place : ℕ) (face : Interface) : Type 0 where
    pub found : UdpRecord
    pub at : udp2_at records place ≡ Some found
    pub made : BeganBy steps (udp_side found) (MakesUdpFor face)

  abbrev pub CreateStands : List Record → StandingCall → Type 0
  CreateStands records (StandingCall.UdpCreate place face) = IsMadeFor records place face
  CreateStands records (StandingCall.DropOutput place) = IsSome (tcp2_at records place)
  CreateStands records _ = ⊤

  -- a create that is pending names none, but its record is of its interface; the drop of an output is of a TCP socket; and a call on
  -- handles says which
  abbrev pub StandingIsFine : List Entry → List Record → Standing → Type 0
  StandingIsFine es records s = (IsOfHandle s.call → LineNames es records s.ids.line (call_place s.call)) × StreamsStand s.ids.line s.call × CreateStands records s.call

-- == calls that stand beside others
-- a connect
abbrev pub IsConnectStep : Step → Type 0
IsConnectStep s = (addr : IpSocketAddress) × IsConnectTo addr s

-- the step of its line is such a call, and a datagram may be polled
module _ (contexts : List WasiSocketsCtx) (steps : List Step) (es : List Entry) where
  abbrev pub CallIsFine : ℕ → BesideCall → Type 0
  CallIsFine line (beside.Connect place) = BeganBy steps (own_of line) IsConnectStep
  CallIsFine line (beside.Resolve host) = LookupIsFine contexts steps (record { id = own_of line; host = host })
  CallIsFine line (beside.Send place op) = (op.who.id ≡ own_of line) × SendIsFine steps es op
  CallIsFine line (beside.Receive place op) = (op.who.id ≡ own_of line) × ReceiveIsFine steps es op × BeganBy steps (own_of line) IsReceive

  abbrev pub BesidesAreFine : List Beside → Type 0
  BesidesAreFine calls = AllByRecursion (λ b. CallIsFine b.line b.call) calls

pub record StateIsFine (contexts : List WasiSocketsCtx) (steps : List Step) (es : List Entry) (m : Machine) : Type 0 where
  pub count : m.table.next ≡ marks_in es + 1
  pub handles : (handle : ℕ) (kind : Kind) → kind_at m.table handle ≡ Some kind → HandleIsFine es m.store.records handle kind
  pub records : (place : ℕ) (r : TcpRecord) → tcp2_at m.store.records place ≡ Some r → RecordIsFine steps es r
  pub udp : (place : ℕ) (u : UdpRecord) → udp2_at m.store.records place ≡ Some u → UdpIsFine steps es u
  pub lookups : LookupsAreFine contexts steps m.store.records
  pub besides : BesidesAreFine contexts steps es m.store.beside
  pub standing : (c : Standing) → m.store.standing ≡ Some c → StandingIsFine steps es m.store.records c
  pub accepts : (place : ℕ) (r : TcpRecord) → tcp2_at m.store.records place ≡ Some r → ListeningStands es r.listening
  pub one : OneHolds m.store.records
