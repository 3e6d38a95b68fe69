-- What waits: what a pollable watches and isn't ready, and a pending call.
use Rattle.std.specs.Prelude.{◌≡◌, ◌⊎◌, ⊤, ℕ, Bool, true, false, List, [], ◌∷◌, ◌++◌, Option, Some, None, IsSome, IsSomeAnd, IfSome}
use Rattle.wasi_addr.specs.Address.{wildcard}
use Rattle.wasi_addr.specs.declared.address.IpSocketAddress.{IpSocketAddress}
use Rattle.wasi_addr.specs.declared.address.SocketAddressFamily.{SocketAddressFamily}
use Rattle.wasi_addr.specs.declared.address.SocketAddrUse.{SocketAddrUse}
use Rattle.wasi_addr.specs.declared.address.SocketAddrUse.TheVariants.{TcpBind, TcpListen}
use Rattle.wasi_addr.specs.declared.address.SocketAddrUse.TheVariants as use_of
use Rattle.wasi_addr.specs.declared.code.ErrorCode.{ErrorCode}
use Rattle.wasi_addr.specs.declared.code.ErrorCode.TheVariants.{AccessDenied}
use Rattle.wasi_world.specs.declared.ids.Ids.{Ids}
use Rattle.wasi_world.specs.declared.ids.OpId.{OpId}
use Rattle.wasi_world.specs.declared.call.Call.TheVariants as call
use Rattle.wasi_world.specs.declared.call.Entry.{Entry}
use Rattle.wasi_world.specs.declared.call.HandleKind.TheVariants as name
use Rattle.wasi_world.specs.declared.call.Told.{Told}
use Rattle.wasi_world.specs.declared.call.Told.TheVariants as told
use Rattle.wasi_world.specs.Operation.{Item, Check, CheckLocal, Bind, Listen, UdpWritable, UdpBind, UdpConnect, NothingLast, CloseLast, Operation}
use Rattle.wasi_tcp.specs.declared.halves.TcpReceiveStream.{TcpReceiveStream}
use Rattle.wasi_tcp.specs.declared.halves.TcpSendStream.{TcpSendStream}
use Rattle.wasi_tcp.specs.declared.reader.ReadState.TheVariants as reading
use Rattle.wasi_tcp.specs.declared.socket.TcpState.{TcpState}
use Rattle.wasi_tcp.specs.declared.socket.TcpState.TheVariants as state
use Rattle.wasi_tcp.specs.declared.writer.WriteState.{WriteState}
use Rattle.wasi_tcp.specs.declared.writer.WriteState.TheVariants as writing
use Rattle.wasi_tcp.specs.Listen.{IsListen, is_over}
use Rattle.wasi_tcp.specs.Listener.{Listener}
use Rattle.wasi_tcp.specs.Socket.{side_in}
use Rattle.wasi_tcp.specs.Writer.{collected}
use Rattle.wasi_records.specs.Records.{tcp2_at, udp2_at, open_at}
use Rattle.tcp_records.specs.declared.tcp_binding.InProgress.{InProgress}
use Rattle.tcp_records.specs.declared.tcp_binding.InProgress.TheVariants.{Binding}
use Rattle.host_store.specs.declared.kind.Watched.{Watched}
use Rattle.host_store.specs.declared.kind.Watched.TheVariants as watched
use Rattle.tcp_records.specs.declared.tcp_listening.Listening.{Listening}
use Rattle.tcp_records.specs.declared.tcp_listening.Listening.TheVariants as listening
use Rattle.host_store.specs.declared.machine.Machine.{Machine}
use Rattle.tcp_records.specs.declared.socket.Streams.{Streams}
use Rattle.tcp_records.specs.declared.socket.TcpRecord.{TcpRecord}
use Rattle.udp_records.specs.declared.udp.OpenUdp.{OpenUdp}
use Rattle.udp_records.specs.declared.udp.UdpRecord.{UdpRecord}
use Rattle.udp_records.specs.declared.udp.UdpRecord.TheVariants as udp
use Rattle.udp_records.specs.declared.udp.UdpInProgress.{UdpInProgress}
use Rattle.udp_records.specs.declared.udp.UdpInProgress.TheVariants as udp_doing
use Rattle.wasi_udp.specs.Bind.{IsBind as IsUdpBind}
use Rattle.wasi_udp.specs.Create.{Create}
use Rattle.host_store.specs.declared.kind.Interface.{Interface}
use Rattle.host_store.specs.declared.kind.Interface.TheVariants.{P3}
use Rattle.host_store.specs.declared.store.StandingCall.{StandingCall}
use Rattle.host_store.specs.declared.store.StandingCall.TheVariants as standing
use Rattle.host_store.specs.Kinds.{kind_at, watch_of, place_in}
use Rattle.udp_records.specs.Datagrams.{sends}
use Rattle.host_store.specs.Machine.{output_at, outgoing_at}
use Rattle.wasi_host.specs.Pollables.{watched_side}
use Rattle.tcp_records.specs.InProgress.{is_nothing, is_connect}
use Rattle.host_store.specs.Beside.{beside_of, unbeside}
use Rattle.host_udp.specs.SocketDatagrams.{is_datagram_in}
use Rattle.host_store.specs.Standing.{call_of, unstood}
use Rattle.host_store.specs.declared.store.Standing.{Standing}
use Rattle.wasi_steps.specs.declared.reply.CodeWord.{CodeWord}
use Rattle.wasi_steps.specs.declared.reply.Reply.{Reply}
use Rattle.wasi_steps.specs.declared.reply.Reply.TheVariants as reply
use Rattle.wasi_steps.specs.declared.step.Step.{Step}
use Rattle.wasi_steps.specs.declared.guest_call.GuestCall.TheVariants as guest
use Rattle.wasi_steps.specs.declared.guest_call.TcpCall.TheVariants as tcp_call
use Rattle.wasi_steps.specs.declared.guest_call.UdpCall.TheVariants as udp_call
use Rattle.wasi_steps.specs.declared.guest_call.StreamCall.TheVariants as stream_call
use Rattle.wasi_steps.specs.declared.guest_call.PollableCall.TheVariants as pollable_call
use Rattle.wasi_steps.specs.declared.guest_call.P3TcpCall.TheVariants as p3_tcp_call
use Rattle.wasi_steps.specs.declared.guest_call.P3UdpCall.TheVariants as p3_udp_call
use Rattle.wasi_steps.specs.declared.guest_call.P3NameCall.TheVariants as p3_name_call
use Rattle.wasi_steps.specs.declared.step.Step.TheVariants as step
use Rattle.wasi_walks.specs.Answered.{AllOf, ConnectsOn, OfStreams, EndsPending, EndsClosing, IsUnfinished, p3_word, word_of_code}
use Rattle.wasi_walks.specs.Listens.{AcceptWaits, accept_name, AcceptsIn, HasNoListener}
use Rattle.wasi_walks.specs.Licence.{Has, entry}

-- == a writer
-- A writer waits, once a write that ended is collected: its write is in progress, or it was answered pending.
pub data WriterWaits (own : OpId) (writer : WriteState) : List Entry → Type 0 where
  WritesOn : IsUnfinished (collected writer) → WriterWaits own writer []
  ToldToWait : (half : TcpSendStream) (permit : ℕ) → collected writer ≡ writing.Ready half permit → WriterWaits own writer (entry own (call.WriteReady half.side) told.Pending ∷ [])

-- the writer of the record that is named waits
abbrev pub OutputWaits : Machine → OpId → Option ℕ → List Entry → Type 0
OutputWaits m own named entries = OfStreams m named (λ place r s. WriterWaits own s.writer entries)

-- == pollables
-- the mark of a pollable that watches this, under the handle by which it was made
abbrev pub pollable_mark : Machine → OpId → ℕ → Watched → Entry
pollable_mark m own handle w = entry own (call.Made m.table.next name.Pollable (Some handle) (watched_side m.store w)) told.Done

-- The pollable watches this in a record, and of both this holds.
pub record OfWatched (m : Machine) (pollable : ℕ) (P : Watched → TcpRecord → Type 0) : Type 0 where
  pub watch : Watched
  pub found : TcpRecord
  pub watches : watch_of (kind_at m.table pollable) ≡ Some watch
  pub at : tcp2_at m.store.records (place_in watch) ≡ Some found
  pub holds : P watch found

-- What is watched isn't ready: the connect in progress waits, or with nothing in progress the listener's accept, or the open
-- input was answered pending, or the output's writer waits.
pub data IsUnready (own : OpId) (r : TcpRecord) (entries : List Entry) : Watched → Type 0 where
  AcceptWaitsOn : (place : ℕ) (l : Listener) → is_nothing r.in_progress ≡ true → r.listening ≡ listening.Accepts l → AcceptWaits (accept_name own.step l.accept) entries → IsUnready own r entries (watched.Socket place)
  ConnectWaits : (place : ℕ) (op : Operation) → is_connect r.in_progress ≡ true → r.inner.state ≡ state.Connecting op → EndsPending op.who.id entries → IsUnready own r entries (watched.Socket place)
  InputWaits : (place : ℕ) (s : Streams) (half : TcpReceiveStream) → r.streams ≡ Some s → s.reader ≡ reading.Open half → entries ≡ entry own (call.ReadReady half.side) told.Pending ∷ []
      → IsUnready own r entries (watched.Input place)
  WriteWaits : (place : ℕ) (s : Streams) → r.streams ≡ Some s → WriterWaits own s.writer entries → IsUnready own r entries (watched.Output place)

-- the record that the pollable watches in
abbrev pub watched_in : Machine → Option Watched → Option TcpRecord
watched_in m None = None
watched_in m (Some w) = tcp2_at m.store.records (place_in w)

-- where the pollable's socket is connecting, its operation is a connect
abbrev pub WatchesConnect : Machine → ℕ → Type 0
WatchesConnect m pollable = IfSome (watched_in m (watch_of (kind_at m.table pollable))) (λ r. ConnectsOn r.inner.state)

-- where the pollable's socket listens, its accept is one
abbrev pub WatchesAccept : Machine → ℕ → Type 0
WatchesAccept m pollable = IfSome (watched_in m (watch_of (kind_at m.table pollable))) (λ r. AcceptsIn r.listening)

-- it is a socket with no connect in progress, and with no listener unless another operation is in progress
abbrev pub IsIdleSocket : Watched → TcpRecord → Type 0
IsIdleSocket (watched.Socket place) r = (is_connect r.in_progress ≡ false) × ((is_nothing r.in_progress ≡ false) ⊎ HasNoListener r.listening)
IsIdleSocket _ r = ⊥

-- the pollable watches a socket of which nothing is polled
abbrev pub WatchesIdle : Machine → ℕ → Type 0
WatchesIdle m pollable = OfWatched m pollable IsIdleSocket

-- it says that the call failed, by a code or as a stream does
abbrev pub IsFailure : Reply → Type 0
IsFailure (reply.Err word) = ⊤
IsFailure reply.Closed = ⊤
IsFailure (reply.Failed word handle) = ⊤
IsFailure _ = ⊥

-- == pending calls
abbrev pub IsPoll : Step → Type 0
IsPoll (step.Poll n) = ⊤
IsPoll _ = ⊥

-- the step may be pending under this number: a bind or a listen, or the start of one, a connect, a lookup or a datagram of 0.3, a create
-- of a UDP socket, that of its streams, the drop of an output or of an outgoing datagram stream, and a call that blocks, of a stream or for
-- pollables, under their line's, and a poll under the one that it polls
abbrev pub MayStand : Machine → ℕ → Step → ℕ → Type 0
MayStand m line (step.Call ctx (guest.Tcp (tcp_call.StartBind socket network a))) n = n ≡ line
MayStand m line (step.Call ctx (guest.Tcp (tcp_call.StartListen socket))) n = n ≡ line
MayStand m line (step.Call ctx (guest.Udp (udp_call.Create family))) n = n ≡ line
MayStand m line (step.Call ctx (guest.P3Tcp (p3_tcp_call.Bind socket a))) n = n ≡ line
MayStand m line (step.Call ctx (guest.P3Tcp (p3_tcp_call.Connect socket a))) n = n ≡ line
MayStand m line (step.Call ctx (guest.P3Tcp (p3_tcp_call.Listen socket))) n = n ≡ line
MayStand m line (step.Call ctx (guest.P3Udp (p3_udp_call.Create family))) n = n ≡ line
MayStand m line (step.Call ctx (guest.P3Udp (p3_udp_call.Bind socket a))) n = n ≡ line
MayStand m line (step.Call ctx (guest.P3Udp (p3_udp_call.Connect socket a))) n = n ≡ line
MayStand m line (step.Call ctx (guest.P3Udp (p3_udp_call.Send socket d))) n = n ≡ line
MayStand m line (step.Call ctx (guest.P3Udp (p3_udp_call.Receive socket))) n = n ≡ line
MayStand m line (step.Call ctx (guest.P3Names (p3_name_call.Resolve name))) n = n ≡ line
MayStand m line (step.Call ctx (guest.Udp (udp_call.StartBind socket network a))) n = n ≡ line
MayStand m line (step.Call ctx (guest.Udp (udp_call.Stream socket remote))) n = n ≡ line
MayStand m line (step.Call ctx (guest.Pollable (pollable_call.Drop handle))) n = (IsSome (output_at m handle) ⊎ IsSome (outgoing_at m handle)) × (n ≡ line)
MayStand m line (step.Call ctx (guest.Stream (stream_call.BlockingRead input len))) n = n ≡ line
MayStand m line (step.Call ctx (guest.Stream (stream_call.BlockingSkip input len))) n = n ≡ line
MayStand m line (step.Call ctx (guest.Stream (stream_call.BlockingWrite output bytes))) n = n ≡ line
MayStand m line (step.Call ctx (guest.Stream (stream_call.BlockingZeroes output len))) n = n ≡ line
MayStand m line (step.Call ctx (guest.Stream (stream_call.BlockingFlush output))) n = n ≡ line
MayStand m line (step.Call ctx (guest.Stream (stream_call.BlockingSplice to from len))) n = n ≡ line
MayStand m line (step.Call ctx (guest.Pollable (pollable_call.Block pollable))) n = n ≡ line
MayStand m line (step.Call ctx (guest.Pollable (pollable_call.PollList pollables))) n = n ≡ line
MayStand m line (step.Poll call) n = n ≡ call
MayStand m line _ n = ⊥

-- what may be left of a bind
pub data IsLeftOfBind : List Item → Type 0 where
  Unchecked : (a : IpSocketAddress) → IsLeftOfBind (Check a TcpBind ∷ Bind a ∷ [])
  Checked : (a : IpSocketAddress) → IsLeftOfBind (Bind a ∷ [])
  Ended : IsLeftOfBind []

-- What is left to the operation is the rest of a bind, and it asks nothing last.
pub record IsRestOfBind (op : Operation) : Type 0 where
  pub last : op.who.last ≡ NothingLast
  pub left : IsLeftOfBind op.left

-- a listen asks so, of a socket that is bound or not: it closes its network socket only in the poll that is refused
abbrev pub IsAskOfListen : Item → Type 0
IsAskOfListen (CheckLocal TcpListen) = ⊤
IsAskOfListen (Check a TcpListen) = ⊤
IsAskOfListen (Listen backlog) = ⊤
IsAskOfListen (Check a TcpBind) = ⊤
IsAskOfListen (Bind a) = ⊤
IsAskOfListen _ = ⊥

-- one of a bound socket asks so
abbrev pub IsAskOfBound : Item → Type 0
IsAskOfBound (CheckLocal TcpListen) = ⊤
IsAskOfBound (Check a TcpListen) = ⊤
IsAskOfBound (Listen backlog) = ⊤
IsAskOfBound _ = ⊥

-- what is left doesn't begin with the question for the local address
abbrev pub StartsTold : List Item → Type 0
StartsTold (CheckLocal usage ∷ items) = ⊥
StartsTold _ = ⊤

-- the asks of a listen that was pending: its address was reported then
abbrev pub IsAskLeft : Item → Type 0
IsAskLeft (Check a TcpListen) = ⊤
IsAskLeft (Listen backlog) = ⊤
IsAskLeft (Check a TcpBind) = ⊤
IsAskLeft (Bind a) = ⊤
IsAskLeft _ = ⊥

-- where a listen is in progress, it is one, and only its asks are left, one at least; and the socket has no network socket
abbrev pub IsListening : TcpState → Listening → Type 0
IsListening s (listening.Begins op) = IsListen op × AllOf IsAskLeft op.left × (is_over op ≡ false) × (side_in s ≡ None)
IsListening s _ = ⊥

-- where a listen is in progress, its socket is bound
abbrev pub IsOfBound : Listening → Type 0
IsOfBound (listening.Begins op) = AllOf IsAskOfBound op.left
IsOfBound _ = ⊤

-- a bind is in progress
abbrev pub IsBinding : InProgress → Type 0
IsBinding (Binding op) = IsRestOfBind op
IsBinding _ = ⊥

-- a create is in progress, which waits for its network socket
abbrev pub IsCreating : UdpRecord → Type 0
IsCreating (udp.Creating create) = (create.operation.who.last ≡ CloseLast) × (create.operation.left ≡ UdpWritable ∷ [])
IsCreating _ = ⊥

-- a bind of a UDP socket is in progress
abbrev pub IsUdpBinding : UdpInProgress → Type 0
IsUdpBinding (udp_doing.Binding op) = IsUdpBind op
IsUdpBinding _ = ⊥

-- what is left of a connect between polls
pub data IsLeftOfUdpConnect : List Item → Type 0 where
  ConnectUnbound : (family : SocketAddressFamily) (a : IpSocketAddress) → IsLeftOfUdpConnect (Check (wildcard family) use_of.UdpBind ∷ Check a use_of.UdpSend ∷ Check a use_of.UdpReceive ∷ UdpConnect family a ∷ [])
  ConnectUnchecked : (family : SocketAddressFamily) (a : IpSocketAddress) → IsLeftOfUdpConnect (Check a use_of.UdpSend ∷ Check a use_of.UdpReceive ∷ UdpConnect family a ∷ [])
  ConnectSendChecked : (family : SocketAddressFamily) (a : IpSocketAddress) → IsLeftOfUdpConnect (Check a use_of.UdpReceive ∷ UdpConnect family a ∷ [])

-- What is left to the operation is the rest of a connect of a UDP socket, and it asks nothing last.
pub record IsRestOfUdpConnect (op : Operation) : Type 0 where
  pub last : op.who.last ≡ NothingLast
  pub left : IsLeftOfUdpConnect op.left

-- a connect of a UDP socket is in progress
abbrev pub IsUdpConnecting : Option Operation → Type 0
IsUdpConnecting (Some op) = IsRestOfUdpConnect op
IsUdpConnecting None = ⊥

abbrev pub HoldsCall : Machine → StandingCall → Type 0
HoldsCall m (standing.Bind place face) = IfSome (tcp2_at m.store.records place) (λ r. IsBinding r.in_progress)
HoldsCall m (standing.Listen place None) = IfSome (tcp2_at m.store.records place) (λ r. IsListening r.inner.state r.listening × IsOfBound r.listening)
HoldsCall m (standing.Listen place (Some handle)) = IfSome (tcp2_at m.store.records place) (λ r. IsListening r.inner.state r.listening)
HoldsCall m (standing.DropOutput place) = ⊤
HoldsCall m (standing.UdpCreate place face) = IfSome (udp2_at m.store.records place) IsCreating
HoldsCall m (standing.UdpBind place face) = IfSome (open_at m.store.records place) (λ o. IsUdpBinding o.in_progress)
HoldsCall m (standing.UdpConnect place handle) = IfSome (open_at m.store.records place) (λ o. IsUdpConnecting o.connecting)
HoldsCall m (standing.UdpConnect3 place) = IfSome (open_at m.store.records place) (λ o. IsUdpConnecting o.connecting)
HoldsCall m (standing.DropOutgoing place) = ⊤
HoldsCall m (standing.Blocking call) = ⊤

-- where a bind, a listen, a create or a connect is pending, its record has one in progress; a listen of 0.2 is that of a bound socket
abbrev pub PendingCallsFit : Machine → Type 0
PendingCallsFit m = IfSome m.store.standing (λ s. HoldsCall m s.call)

-- the bind in progress was answered pending
abbrev pub BindWaits : InProgress → List Entry → Type 0
BindWaits (Binding op) entries = EndsPending op.who.id entries
BindWaits _ entries = ⊥

-- the listen in progress was answered pending
abbrev pub ListenWaits : Listening → List Entry → Type 0
ListenWaits (listening.Begins op) entries = EndsPending op.who.id entries
ListenWaits _ entries = ⊥

-- the create was answered pending
abbrev pub CreateWaits : UdpRecord → List Entry → Type 0
CreateWaits (udp.Creating create) entries = EndsPending create.operation.who.id entries
CreateWaits _ entries = ⊥

-- the bind of a UDP socket was answered pending
abbrev pub UdpBindWaits : UdpInProgress → List Entry → Type 0
UdpBindWaits (udp_doing.Binding op) entries = EndsPending op.who.id entries
UdpBindWaits _ entries = ⊥

-- the connect of a UDP socket was answered pending
abbrev pub UdpConnectWaits : Option Operation → List Entry → Type 0
UdpConnectWaits (Some op) entries = EndsPending op.who.id entries
UdpConnectWaits None entries = ⊥

-- the call waits: the last ask of the bind, of the listen, of the create or of the connect was answered pending, or the output's
-- writer waits, or a datagram of the stream isn't sent yet
abbrev pub CallWaits : Machine → OpId → List Entry → StandingCall → Type 0
CallWaits m own entries (standing.Bind place face) = IsSomeAnd (tcp2_at m.store.records place) (λ r. BindWaits r.in_progress entries)
CallWaits m own entries (standing.Listen place handle) = IsSomeAnd (tcp2_at m.store.records place) (λ r. ListenWaits r.listening entries)
CallWaits m own entries (standing.UdpCreate place face) = IsSomeAnd (udp2_at m.store.records place) (λ u. CreateWaits u entries)
CallWaits m own entries (standing.UdpBind place face) = IsSomeAnd (open_at m.store.records place) (λ o. UdpBindWaits o.in_progress entries)
CallWaits m own entries (standing.UdpConnect place handle) = IsSomeAnd (open_at m.store.records place) (λ o. UdpConnectWaits o.connecting entries)
CallWaits m own entries (standing.UdpConnect3 place) = IsSomeAnd (open_at m.store.records place) (λ o. UdpConnectWaits o.connecting entries)
CallWaits m own entries (standing.DropOutgoing place) = IsSomeAnd (open_at m.store.records place) (λ o. (sends o.outgoing ≡ true) × (entries ≡ []))
CallWaits m own entries (standing.Blocking call) = ⊤
CallWaits m own entries (standing.DropOutput place) = OutputWaits m own (Some place) entries

-- the pending call waits
abbrev pub StandingWaits : Machine → OpId → List Entry → Type 0
StandingWaits m own entries = IsSomeAnd m.store.standing (λ s. CallWaits m own entries s.call)

-- The last of the entries is this one.
pub record EndsWith (last : Entry) (entries : List Entry) : Type 0 where
  pub front : List Entry
  pub cut : entries ≡ front ++ last ∷ []

-- A bind ended with a code: its check was answered no, or it was answered with the code.
pub data BindFails (op : Operation) (entries : List Entry) : ErrorCode → Type 0 where
  ToldNo : (a : IpSocketAddress) → Has op.left (Check a TcpBind) → EndsWith (entry op.who.id (call.Check op.who.context a TcpBind) told.No) entries → BindFails op entries AccessDenied
  ToldWhy : (a : IpSocketAddress) (c : ErrorCode) → Has op.left (Bind a) → EndsWith (entry op.who.id (call.Bind op.who.side a) (told.Code c)) entries → BindFails op entries c

-- A listen ended with a code, and closed its network socket: a check of it was answered no, or the listen, or the bind to the wildcard,
-- was answered with the code.
pub data ListenEnds (op : Operation) (entries : List Entry) : ErrorCode → Type 0 where
  CheckedNo : (a : IpSocketAddress) → EndsClosing op.who (call.Check op.who.context a TcpListen) told.No entries → ListenEnds op entries AccessDenied
  CheckedNoBind : (a : IpSocketAddress) → Has op.left (Check a TcpBind) → EndsClosing op.who (call.Check op.who.context a TcpBind) told.No entries → ListenEnds op entries AccessDenied
  BindCode : (a : IpSocketAddress) (c : ErrorCode) → Has op.left (Bind a) → EndsClosing op.who (call.Bind op.who.side a) (told.Code c) entries → ListenEnds op entries c
  ListenCode : (backlog : ℕ) (c : ErrorCode) → EndsClosing op.who (call.Listen op.who.side backlog) (told.Code c) entries → ListenEnds op entries c

-- A bind of a UDP socket ended with a code: its check was answered no, or it was answered with the code.
pub data UdpBindFails (op : Operation) (entries : List Entry) : ErrorCode → Type 0 where
  UdpToldNo : (a : IpSocketAddress) → Has op.left (Check a use_of.UdpBind) → EndsWith (entry op.who.id (call.Check op.who.context a use_of.UdpBind) told.No) entries → UdpBindFails op entries AccessDenied
  UdpToldWhy : (a : IpSocketAddress) (c : ErrorCode) → Has op.left (UdpBind a) → EndsWith (entry op.who.id (call.UdpBind op.who.side a) (told.Code c)) entries → UdpBindFails op entries c

-- The last two of the entries are these.
pub record EndsWithTwo (first last : Entry) (entries : List Entry) : Type 0 where
  pub front : List Entry
  pub cut : entries ≡ front ++ first ∷ last ∷ []

-- A connect of a UDP socket ended with a code: one of its checks was answered no, or it was answered with the code, and the remote
-- address was asked for then.
pub data UdpConnectFails (op : Operation) (entries : List Entry) : ErrorCode → Type 0 where
  ConnectToldNo : (a : IpSocketAddress) (usage : SocketAddrUse) → Has op.left (Check a usage) → EndsWith (entry op.who.id (call.Check op.who.context a usage) told.No) entries → UdpConnectFails op entries AccessDenied
  ConnectToldWhy : (family : SocketAddressFamily) (a : IpSocketAddress) (c : ErrorCode) (peer : Told) → Has op.left (UdpConnect family a) → EndsWithTwo (entry op.who.id (call.UdpConnect op.who.side a) (told.Code c)) (entry op.who.id (call.Peer op.who.side) peer) entries → UdpConnectFails op entries c

-- Why the pending call failed with a code: its bind, its listen, its create or its connect ended with it.
pub data CallFails (m : Machine) (entries : List Entry) : StandingCall → ErrorCode → Type 0 where
  CreateFailed : (place : ℕ) (face : Interface) (create : Create) (c : ErrorCode) → udp2_at m.store.records place ≡ Some (udp.Creating create) → EndsClosing create.operation.who (call.UdpWritable create.operation.who.side) (told.Code c) entries → CallFails m entries (standing.UdpCreate place face) c
  UdpConnectFailed : (place handle : ℕ) (o : OpenUdp) (op : Operation) (c : ErrorCode) → open_at m.store.records place ≡ Some o → o.connecting ≡ Some op → UdpConnectFails op entries c → CallFails m entries (standing.UdpConnect place handle) c
  UdpConnect3Failed : (place : ℕ) (o : OpenUdp) (op : Operation) (c : ErrorCode) → open_at m.store.records place ≡ Some o → o.connecting ≡ Some op → UdpConnectFails op entries c → CallFails m entries (standing.UdpConnect3 place) c
  UdpBindFailed : (place : ℕ) (face : Interface) (o : OpenUdp) (op : Operation) (c : ErrorCode) → open_at m.store.records place ≡ Some o → o.in_progress ≡ udp_doing.Binding op → UdpBindFails op entries c → CallFails m entries (standing.UdpBind place face) c
  BindFailed : (place : ℕ) (face : Interface) (r : TcpRecord) (op : Operation) (c : ErrorCode) → tcp2_at m.store.records place ≡ Some r → r.in_progress ≡ Binding op → BindFails op entries c → CallFails m entries (standing.Bind place face) c
  ListenFailed : (place : ℕ) (handle : Option ℕ) (r : TcpRecord) (op : Operation) (c : ErrorCode) → tcp2_at m.store.records place ≡ Some r → r.listening ≡ listening.Begins op → ListenEnds op entries c → CallFails m entries (standing.Listen place handle) c

-- the word of a code that a pending call fails with: that of its interface
abbrev pub word_for : StandingCall → ErrorCode → CodeWord
word_for (standing.Bind place P3) c = p3_word c
word_for (standing.Listen place (Some handle)) c = p3_word c
word_for (standing.UdpCreate place P3) c = p3_word c
word_for (standing.UdpBind place P3) c = p3_word c
word_for (standing.UdpConnect3 place) c = p3_word c
word_for call c = word_of_code c

-- A call is pending under this number, and failed with a code of this word.
pub record StandingFails (m : Machine) (n : ℕ) (entries : List Entry) (word : CodeWord) : Type 0 where
  pub ids : Ids
  pub call : StandingCall
  pub code : ErrorCode
  pub stands : m.store.standing ≡ Some (record { ids = ids; call = call })
  pub number : ids.line ≡ n
  pub cause : CallFails m entries call code
  pub word_is : word ≡ word_for call code

-- nothing is pending
abbrev pub nothing_stands : Machine → Machine
nothing_stands m = record m { store = unstood m.store }

-- a call that stands beside others is over
abbrev pub call_over : Machine → ℕ → Machine
call_over m n = record m { store = unbeside m.store n }

-- where its socket isn't there, a connect is over, and a datagram stays
abbrev pub left_beside : Machine → ℕ → Bool → Machine
left_beside m n true = m
left_beside m n false = call_over m n

abbrev pub left_by : Machine → ℕ → Option Standing → Machine
left_by m n (Some s) = nothing_stands m
left_by m n None = left_beside m n (is_datagram_in (beside_of m.store n))

-- a trap for lack of a handle leaves the machine, but the call that a poll is of is over, unless that is a datagram
abbrev pub left_missing : Machine → Step → Machine
left_missing m (step.Poll n) = left_by m n (call_of m.store.standing n)
left_missing m _ = m
