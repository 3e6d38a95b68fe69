-- Which calls a log may hold, and with which replies: a relation of the contexts, the script's steps, the log's entries and the
-- replies, and of nothing else. It knows no state of a socket, an operation or a table. Each entry is judged by those before it.
use Rattle.std.specs.Prelude.{◌≡◌, ℕ, zero, suc, ◌+◌, ◌⊎◌, ⊤, true, false, List, [], ◌∷◌, ◌++◌, Option, Some, None, slice_get}
use Rattle.wasi_addr.specs.declared.address.IpSocketAddress.{IpSocketAddress}
use Rattle.wasi_addr.specs.declared.address.SocketAddressFamily.{SocketAddressFamily}
use Rattle.wasi_addr.specs.declared.address.SocketAddrUse.{SocketAddrUse}
use Rattle.wasi_addr.specs.declared.address.SocketAddrUse.TheVariants.{TcpBind, TcpListen, TcpAccept, TcpConnect}
use Rattle.wasi_addr.specs.declared.address.SocketAddrUse.TheVariants as use_of
use Rattle.wasi_addr.specs.declared.code.ErrorCode.{ErrorCode}
use Rattle.wasi_addr.specs.Address.{is_wildcard, same_address, wildcard}
use Rattle.wasi_addr.specs.Clamp.{clamped_backlog}
use Rattle.wasi_world.specs.declared.datagram.IncomingDatagram.{IncomingDatagram}
use Rattle.wasi_world.specs.declared.datagram.OutgoingDatagram.{OutgoingDatagram}
use Rattle.wasi_world.specs.declared.ids.OpId.{OpId}
use Rattle.wasi_world.specs.declared.call.Call.{Call}
use Rattle.wasi_world.specs.declared.call.Call.TheVariants.{Check, Lookup, TcpCreate, UdpCreate, UdpWritable, Local, Peer, Bind, UdpBind, UdpConnect, Listen, SetBacklog, Connect, Accept, Hand, Refuse, Read, ReadReady, WriteReady, Write, Shutdown, UdpDisconnect, Send, Recv, GetOption, SetOption, Close, Made}
use Rattle.wasi_world.specs.declared.call.HandleKind.{HandleKind}
use Rattle.wasi_world.specs.declared.call.HandleKind.TheVariants as handle_kind
use Rattle.wasi_world.specs.declared.call.HandleKind.TheVariants.{Network, Tcp2, Tcp3, Udp2, Udp3, Listen3, Input, Output, Pollable, ErrorValue, Incoming, Outgoing, Receive3, Send3, Result3}
use Rattle.wasi_world.specs.declared.call.Opt.{Opt}
use Rattle.wasi_world.specs.declared.call.Told.{Told}
use Rattle.wasi_world.specs.declared.call.Told.TheVariants.{Done, Yes, Addr, Arrived, Code, Datagram}
use Rattle.wasi_world.specs.declared.call.Entry.{Entry}
use Rattle.wasi_world.specs.declared.outcome.WasiSocketsCtx.{WasiSocketsCtx}
use Rattle.socket_common.specs.Options.{value_set}
use Rattle.wasi_names.specs.declared.name.HostName.TheVariants.{Domain}
use Rattle.wasi_names.specs.Names.{name_is}
use Rattle.wasi_steps.specs.declared.reply.Field.{Field}
use Rattle.wasi_steps.specs.declared.reply.Reply.{Reply}
use Rattle.wasi_steps.specs.Reply.{datagram_values, received_values}
use Rattle.record_common.specs.Names.{own_of}
use Rattle.wasi_steps.specs.declared.step.Step.{Step}
use Rattle.wasi_steps.specs.declared.guest_call.GuestCall.TheVariants as guest
use Rattle.wasi_steps.specs.declared.guest_call.TcpCall.TheVariants as tcp_call
use Rattle.wasi_steps.specs.declared.guest_call.UdpCall.TheVariants as udp_call
use Rattle.wasi_steps.specs.declared.guest_call.NameCall.TheVariants as name_call
use Rattle.wasi_steps.specs.declared.guest_call.StreamCall.TheVariants as stream_call
use Rattle.wasi_steps.specs.declared.guest_call.PipeCall.TheVariants as pipe_call
use Rattle.wasi_steps.specs.declared.guest_call.PollableCall.TheVariants as pollable_call
use Rattle.wasi_steps.specs.declared.guest_call.P3TcpCall.TheVariants as p3_tcp_call
use Rattle.wasi_steps.specs.declared.guest_call.P3UdpCall.TheVariants as p3_udp_call
use Rattle.wasi_steps.specs.declared.guest_call.P3NameCall.TheVariants as p3_name_call
use Rattle.wasi_steps.specs.declared.step.Step.TheVariants as step
use Rattle.wasi_steps.specs.Settings.{Chosen, AnOption, TheBacklog, chosen, udp_opt, udp_chosen}
pub use Rattle.wasi_steps.specs.Steps.{handles_of}
use Rattle.wasi_walks.specs.Allowed.{InOrder}
pub use Rattle.wasi_walks.specs.Allowed.{Has, IsSide, IsMaker, Created, UdpCreated, Handed, entry}
pub use Rattle.wasi_walks.specs.Lines.{marked_by, marks_in, step_at, BeganBy, IsMarkedWith, NamesSide}

-- an operation reaches the network sockets that its step names, and the network socket that it makes itself
abbrev pub ReachesSide : List Step → List Entry → OpId → OpId → Type 0
ReachesSide steps before op side = BeganBy steps op (NamesSide before side) ⊎ (op ≡ side)

-- Among these entries the operation asked the network socket's creator about the address and its use, and was answered yes.
pub record HasYes (before among : List Entry) (op side : OpId) (addr : IpSocketAddress) (usage : SocketAddrUse) : Type 0 where
  pub ctx : ℕ
  pub family : SocketAddressFamily
  pub maker : IsMaker before ctx family side
  pub checked : Has among (entry op (Check ctx addr usage) Yes)

-- Among these entries the operation asked the network socket's creator about the wildcard of the network socket's family, and
-- was answered yes.
pub record HasWildcardYes (before : List Entry) (op side : OpId) (usage : SocketAddrUse) : Type 0 where
  pub ctx : ℕ
  pub family : SocketAddressFamily
  pub maker : IsMaker before ctx family side
  pub checked : Has before (entry op (Check ctx (wildcard family) usage) Yes)

-- The address is the wildcard of the network socket's family.
pub record IsItsWildcard (before : List Entry) (side : OpId) (addr : IpSocketAddress) : Type 0 where
  pub ctx : ℕ
  pub family : SocketAddressFamily
  pub maker : IsMaker before ctx family side
  pub is : addr ≡ wildcard family

-- The network socket's local address was reported, and it is another than the wildcard of the network socket's family.
pub record IsBoundSide (before : List Entry) (side : OpId) : Type 0 where
  pub ctx : ℕ
  pub family : SocketAddressFamily
  pub maker : IsMaker before ctx family side
  pub op : OpId
  pub addr : IpSocketAddress
  pub told : Has before (entry op (Local side) (Addr addr))
  pub other : is_wildcard family addr ≡ false

-- a network socket that was bound continues from there; for one that wasn't the wildcard has its yes
abbrev pub MayGoOut : List Entry → OpId → OpId → Type 0
MayGoOut before op side = IsBoundSide before side ⊎ HasWildcardYes before op side TcpBind

-- The network socket of a UDP socket was disconnected: it is bound since then.
pub record WasDisconnected (before : List Entry) (side : OpId) : Type 0 where
  pub op : OpId
  pub told : Told
  pub entry_is : Has before (entry op (UdpDisconnect side) told)

-- a UDP socket that is bound sends from there; for one that isn't the wildcard has its yes
abbrev pub MaySendOut : List Entry → OpId → OpId → Type 0
MaySendOut before op side = (IsBoundSide before side ⊎ WasDisconnected before side) ⊎ HasWildcardYes before op side use_of.UdpBind

-- The last `peer` of the network socket reported this address.
pub record IsLastPeer (before : List Entry) (side : OpId) (addr : IpSocketAddress) : Type 0 where
  pub front : List Entry
  pub op : OpId
  pub back : List Entry
  pub cut : before ≡ front ++ entry op (Peer side) (Addr addr) ∷ back
  pub last : (o : OpId) (told : Told) → Has back (entry o (Peer side) told) → ⊥

-- The remote address of the network socket: its last `peer` reported it, and it is another than the wildcard of its family.
pub record IsRemote (before : List Entry) (side : OpId) (addr : IpSocketAddress) : Type 0 where
  pub ctx : ℕ
  pub family : SocketAddressFamily
  pub maker : IsMaker before ctx family side
  pub told : IsLastPeer before side addr
  pub other : is_wildcard family addr ≡ false

-- where a datagram goes: to the address that is given, or to the remote address
abbrev pub GoesTo : List Entry → OpId → Option IpSocketAddress → IpSocketAddress → Type 0
GoesTo before side (Some given) addr = given ≡ addr
GoesTo before side None addr = (remote : IpSocketAddress) × IsRemote before side remote × (same_address addr remote ≡ true)

-- The last `local` of the network socket reported this address.
pub record IsLastLocal (before : List Entry) (side : OpId) (addr : IpSocketAddress) : Type 0 where
  pub front : List Entry
  pub op : OpId
  pub back : List Entry
  pub cut : before ≡ front ++ entry op (Local side) (Addr addr) ∷ back
  pub last : (o : OpId) (told : Told) → Has back (entry o (Local side) told) → ⊥

-- a network socket that was bound has a yes for the address that its local address was last reported to be; one that wasn't has
-- two for the wildcard
abbrev pub MayListen : List Entry → OpId → OpId → Type 0
MayListen before op side =
    (IsBoundSide before side × ((addr : IpSocketAddress) × IsLastLocal before side addr × HasYes before before op side addr TcpListen))
    ⊎ ((IsBoundSide before side → ⊥) × HasWildcardYes before op side TcpBind × HasWildcardYes before op side TcpListen)

-- The network socket listens: a `listen` of it was answered done.
pub record Listens (before : List Entry) (side : OpId) : Type 0 where
  pub op : OpId
  pub backlog : ℕ
  pub told : Has before (entry op (Listen side backlog) Done)

-- The operation's last `accept` on the listener reported this peer, and after it came a yes for the peer.
pub record IsAdmitted (before : List Entry) (op listener : OpId) (peer : IpSocketAddress) : Type 0 where
  pub front : List Entry
  pub back : List Entry
  pub cut : before ≡ front ++ entry op (Accept listener) (Arrived peer) ∷ back
  pub last : (told : Told) → Has back (entry op (Accept listener) told) → ⊥
  pub yes : HasYes before back op listener peer TcpAccept

-- the operation has handed nothing over
abbrev pub HandedNone : List Entry → OpId → Type 0
HandedNone before op = (listener : OpId) (peer : IpSocketAddress) (told : Told) → Has before (entry op (Hand listener peer) told) → ⊥

-- == which step a call begins by
-- The context of this number has this name, and may use TCP.
pub record MayUseTcp (contexts : List WasiSocketsCtx) (number name : ℕ) : Type 0 where
  pub ctx : WasiSocketsCtx
  pub at : slice_get contexts number ≡ Some ctx
  pub named : ctx.name ≡ name
  pub tcp : ctx.tcp ≡ true

-- a create of this family, by the context of this name
abbrev pub IsTcpCreate : List WasiSocketsCtx → ℕ → SocketAddressFamily → Step → Type 0
IsTcpCreate contexts name family (step.Call ctx (guest.Tcp (tcp_call.Create f))) = MayUseTcp contexts ctx name × (f ≡ family)
IsTcpCreate contexts name family (step.Call ctx (guest.P3Tcp (p3_tcp_call.Create f))) = MayUseTcp contexts ctx name × (f ≡ family)
IsTcpCreate contexts name family _ = ⊥

-- The context of this number has this name, and may use UDP.
pub record MayUseUdp (contexts : List WasiSocketsCtx) (number name : ℕ) : Type 0 where
  pub ctx : WasiSocketsCtx
  pub at : slice_get contexts number ≡ Some ctx
  pub named : ctx.name ≡ name
  pub udp : ctx.udp ≡ true

-- a create of a UDP socket of this family, by the context of this name
abbrev pub IsUdpCreate : List WasiSocketsCtx → ℕ → SocketAddressFamily → Step → Type 0
IsUdpCreate contexts name family (step.Call ctx (guest.Udp (udp_call.Create f))) = MayUseUdp contexts ctx name × (f ≡ family)
IsUdpCreate contexts name family (step.Call ctx (guest.P3Udp (p3_udp_call.Create f))) = MayUseUdp contexts ctx name × (f ≡ family)
IsUdpCreate contexts name family _ = ⊥

-- The context of this number may look names up.
pub record MayLookUp (contexts : List WasiSocketsCtx) (number : ℕ) : Type 0 where
  pub ctx : WasiSocketsCtx
  pub at : slice_get contexts number ≡ Some ctx
  pub lookup : ctx.ip_name_lookup ≡ true

-- a lookup of a name, which is this domain, by a context that may look names up
abbrev pub IsLookupOf : List WasiSocketsCtx → List ℕ → Step → Type 0
IsLookupOf contexts host (step.Call ctx (guest.Names (name_call.Resolve network name))) = MayLookUp contexts ctx × (name_is name ≡ Some (Domain host))
IsLookupOf contexts host (step.Call ctx (guest.P3Names (p3_name_call.Resolve name))) = MayLookUp contexts ctx × (name_is name ≡ Some (Domain host))
IsLookupOf contexts host _ = ⊥

-- a create of a TCP socket
abbrev pub MakesTcp : Step → Type 0
MakesTcp (step.Call ctx (guest.Tcp (tcp_call.Create family))) = ⊤
MakesTcp (step.Call ctx (guest.P3Tcp (p3_tcp_call.Create family))) = ⊤
MakesTcp _ = ⊥

-- a create of a UDP socket
abbrev pub MakesUdp : Step → Type 0
MakesUdp (step.Call ctx (guest.Udp (udp_call.Create family))) = ⊤
MakesUdp (step.Call ctx (guest.P3Udp (p3_udp_call.Create family))) = ⊤
MakesUdp _ = ⊥

-- a bind of a UDP socket to this address
abbrev pub IsUdpBindTo : IpSocketAddress → Step → Type 0
IsUdpBindTo addr (step.Call ctx (guest.Udp (udp_call.StartBind socket network a))) = a ≡ addr
IsUdpBindTo addr (step.Call ctx (guest.P3Udp (p3_udp_call.Bind socket a))) = a ≡ addr
IsUdpBindTo addr _ = ⊥

-- datagram streams that are made with a connect to this address
abbrev pub IsUdpConnectTo : IpSocketAddress → Step → Type 0
IsUdpConnectTo addr (step.Call ctx (guest.Udp (udp_call.Stream socket remote))) = remote ≡ Some addr
IsUdpConnectTo addr (step.Call ctx (guest.P3Udp (p3_udp_call.Connect socket a))) = a ≡ addr
IsUdpConnectTo addr _ = ⊥

-- datagram streams that are made without an address: a socket that is connected is disconnected; or a disconnect
abbrev pub IsDisconnect : Step → Type 0
IsDisconnect (step.Call ctx (guest.Udp (udp_call.Stream socket None))) = ⊤
IsDisconnect (step.Call ctx (guest.P3Udp (p3_udp_call.Disconnect socket))) = ⊤
IsDisconnect _ = ⊥

-- datagrams are received, or pollables are looked at, by which a receive may begin too
abbrev pub Receives : Step → Type 0
Receives (step.Call ctx (guest.Udp (udp_call.Receive incoming most))) = ⊤
Receives (step.Call ctx (guest.Pollable (pollable_call.Ready pollable))) = ⊤
Receives (step.Call ctx (guest.Pollable (pollable_call.Block pollable))) = ⊤
Receives (step.Call ctx (guest.Pollable (pollable_call.PollList pollables))) = ⊤
Receives (step.Call ctx (guest.P3Udp (p3_udp_call.Receive socket))) = ⊤
Receives _ = ⊥

-- the datagram streams of the UDP socket of this handle are made
abbrev pub IsStreamOf : ℕ → Step → Type 0
IsStreamOf handle (step.Call ctx (guest.Udp (udp_call.Stream socket remote))) = socket ≡ handle
IsStreamOf handle _ = ⊥

-- the datagram of this part, counted from 1, is this one
abbrev pub IsItem : ℕ → OutgoingDatagram → List OutgoingDatagram → Type 0
IsItem zero d ds = ⊥
IsItem (suc n) d [] = ⊥
IsItem (suc zero) d (x ∷ ds) = x ≡ d
IsItem (suc (suc n)) d (x ∷ ds) = IsItem (suc n) d ds

-- a send of datagrams, of which this is the one of this part; that of 0.3 sends one, as the line's own operation
abbrev pub IsSendOf : ℕ → OutgoingDatagram → Step → Type 0
IsSendOf part d (step.Call ctx (guest.Udp (udp_call.Send outgoing ds))) = IsItem part d ds
IsSendOf part d (step.Call ctx (guest.P3Udp (p3_udp_call.Send socket x))) = (part ≡ 0) × (x ≡ d)
IsSendOf part d _ = ⊥

-- It is the datagram of the operation's part in its step, with these bytes, and goes to this address.
pub record SendsItem (before : List Entry) (op side : OpId) (addr : IpSocketAddress) (bytes : List ℕ) (origin : Step) : Type 0 where
  pub datagram : OutgoingDatagram
  pub item : IsSendOf op.part datagram origin
  pub bytes_are : datagram.bytes ≡ bytes
  pub goes : GoesTo before side datagram.remote_address addr

-- a bind of a TCP socket to this address
abbrev pub IsBindTo : IpSocketAddress → Step → Type 0
IsBindTo addr (step.Call ctx (guest.Tcp (tcp_call.StartBind socket network a))) = a ≡ addr
IsBindTo addr (step.Call ctx (guest.P3Tcp (p3_tcp_call.Bind socket a))) = a ≡ addr
IsBindTo addr _ = ⊥

-- a connect to this address
abbrev pub IsConnectTo : IpSocketAddress → Step → Type 0
IsConnectTo addr (step.Call ctx (guest.Tcp (tcp_call.StartConnect socket network a))) = a ≡ addr
IsConnectTo addr (step.Call ctx (guest.P3Tcp (p3_tcp_call.Connect socket a))) = a ≡ addr
IsConnectTo addr _ = ⊥

-- a listen
abbrev pub IsListenStep : Step → Type 0
IsListenStep (step.Call ctx (guest.Tcp (tcp_call.StartListen socket))) = ⊤
IsListenStep (step.Call ctx (guest.P3Tcp (p3_tcp_call.Listen socket))) = ⊤
IsListenStep _ = ⊥

-- a listen of 0.3, which binds a socket that isn't bound to the wildcard
abbrev pub BindsAnywhere : Step → Type 0
BindsAnywhere (step.Call ctx (guest.P3Tcp (p3_tcp_call.Listen socket))) = ⊤
BindsAnywhere _ = ⊥

-- a get of this option
abbrev pub IsGetOf : Opt → Step → Type 0
IsGetOf option (step.Call ctx (guest.Tcp (tcp_call.Get socket o))) = o ≡ option
IsGetOf option (step.Call ctx (guest.P3Tcp (p3_tcp_call.Get socket o))) = o ≡ option
IsGetOf option (step.Call ctx (guest.Udp (udp_call.Get socket o))) = udp_opt o ≡ option
IsGetOf option (step.Call ctx (guest.P3Udp (p3_udp_call.Get socket o))) = udp_opt o ≡ option
IsGetOf option _ = ⊥

-- what is set is this option, and its value, brought into the option's range, is this
abbrev pub SetsOption : Opt → ℕ → Chosen → Type 0
SetsOption option value (AnOption o n) = (o ≡ option) × (value ≡ value_set o n)
SetsOption option value (TheBacklog n) = ⊥

abbrev pub IsSetTo : Opt → ℕ → Step → Type 0
IsSetTo option value (step.Call ctx (guest.Tcp (tcp_call.Set socket setting))) = SetsOption option value (chosen setting)
IsSetTo option value (step.Call ctx (guest.P3Tcp (p3_tcp_call.Set socket setting))) = SetsOption option value (chosen setting)
IsSetTo option value (step.Call ctx (guest.Udp (udp_call.Set socket setting))) = SetsOption option value (AnOption (udp_chosen setting).0 (udp_chosen setting).1)
IsSetTo option value (step.Call ctx (guest.P3Udp (p3_udp_call.Set socket setting))) = SetsOption option value (AnOption (udp_chosen setting).0 (udp_chosen setting).1)
IsSetTo option value _ = ⊥

-- what is set is the backlog, which is this, brought into its range
abbrev pub SetsBacklog : ℕ → Chosen → Type 0
SetsBacklog backlog (AnOption o n) = ⊥
SetsBacklog backlog (TheBacklog n) = backlog ≡ clamped_backlog n

abbrev pub IsBacklogSet : ℕ → Step → Type 0
IsBacklogSet backlog (step.Call ctx (guest.Tcp (tcp_call.Set socket setting))) = SetsBacklog backlog (chosen setting)
IsBacklogSet backlog (step.Call ctx (guest.P3Tcp (p3_tcp_call.Set socket setting))) = SetsBacklog backlog (chosen setting)
IsBacklogSet backlog _ = ⊥

-- its parent is this handle, of whose network socket it is
abbrev pub IsOfParent : List Entry → ℕ → Option ℕ → Option OpId → Type 0
IsOfParent before handle parent sock = (parent ≡ Some handle) × IsMarkedWith before handle sock

-- a TCP socket of either interface
abbrev pub IsTcpName : HandleKind → Type 0
IsTcpName name = (name ≡ Tcp2) ⊎ (name ≡ Tcp3)

-- the network socket is in no mark of a TCP socket
abbrev pub MarksNoSocket : List Entry → OpId → Type 0
MarksNoSocket before side = (o : OpId) (handle : ℕ) (name : HandleKind) (parent : Option ℕ) (told : Told) → IsTcpName name → Has before (entry o (Made handle name parent (Some side)) told) → ⊥

-- The first mark of an accept's step is of the socket that was accepted: its parent is the listener's handle, and its network
-- socket was handed over on the listener's network socket, and is in no earlier mark of a socket.
pub record IsAcceptedMark (before : List Entry) (op : OpId) (listener : ℕ) (name : HandleKind) (kind : HandleKind) (parent : Option ℕ) (sock : Option OpId) : Type 0 where
  pub first : (handle : ℕ) (other : HandleKind) (above : Option ℕ) (side : Option OpId) (told : Told) → Has before (entry op (Made handle other above side) told) → ⊥
  pub socket : kind ≡ name
  pub under : parent ≡ Some listener
  pub accept : OpId
  pub side : sock ≡ Some accept
  pub on : OpId
  pub of_listener : IsSide before listener on
  pub peer : IpSocketAddress
  pub told : Told
  pub handed : Has before (entry accept (Hand on peer) told)
  pub fresh : MarksNoSocket before accept

-- the socket of a fault has no network socket
abbrev pub IsFaultMark : ℕ → HandleKind → Option ℕ → Option OpId → Type 0
IsFaultMark listener kind parent sock = (kind ≡ Tcp3) × (parent ≡ Some listener) × (sock ≡ None)

-- Its later marks are of the streams of the socket that it marked first: the parent is that socket's handle, and the network
-- socket is its.
pub record IsStreamMark (before : List Entry) (op : OpId) (kind : HandleKind) (parent : Option ℕ) (sock : Option OpId) : Type 0 where
  pub stream : (kind ≡ Input) ⊎ (kind ≡ Output)
  pub socket : ℕ
  pub under : parent ≡ Some socket
  pub above : Option ℕ
  pub told : Told
  pub marked : Has before (entry op (Made socket Tcp2 above sock) told)

-- a new input or output that is of no connection has no parent and no network socket
abbrev pub IsPlainMark : HandleKind → HandleKind → Option ℕ → Option OpId → Type 0
IsPlainMark name kind parent sock = (kind ≡ name) × (parent ≡ None) × (sock ≡ None)

-- The handle was made as one of this kind.
pub record IsMarkedAs (before : List Entry) (handle : ℕ) (kind : HandleKind) : Type 0 where
  pub op : OpId
  pub parent : Option ℕ
  pub sock : Option OpId
  pub told : Told
  pub mark : Has before (entry op (Made handle kind parent sock) told)

-- A read by this operation was answered with a code.
pub record ReadFailed (before : List Entry) (op : OpId) : Type 0 where
  pub side : OpId
  pub size : ℕ
  pub code : ErrorCode
  pub told : Has before (entry op (Read side size) (Code code))

-- A write to this network socket was answered with a code.
pub record WriteFailed (before : List Entry) (side : OpId) : Type 0 where
  pub op : OpId
  pub offered : ℕ
  pub code : ErrorCode
  pub told : Has before (entry op (Write side offered) (Code code))

-- a stream's call by this operation failed: the stream is an input, and a read was answered with a code, or it is an output, and a
-- write to its network socket was
pub data HasFailed (before : List Entry) (op : OpId) (stream : ℕ) (sock : Option OpId) : Type 0 where
  InputFailed : IsMarkedAs before stream Input → ReadFailed before op → HasFailed before op stream sock
  OutputFailed : (side : OpId) → IsMarkedAs before stream Output → sock ≡ Some side → WriteFailed before side → HasFailed before op stream sock

-- a new error is of a stream that the step names, whose call failed
abbrev pub IsErrorMark : List Entry → OpId → HandleKind → ℕ → Option ℕ → Option OpId → Type 0
IsErrorMark before op kind stream parent sock = (kind ≡ ErrorValue) × IsOfParent before stream parent sock × HasFailed before op stream sock

-- what a mark says, by the step that makes the handle: a network has no network socket, nor has a pipe, a sink or a closed stream; a
-- socket that was created has its own, one that was accepted has what was handed over, or none where the accept failed, a listener has
-- its socket's, a lookup has none, and the two streams of a connection or of a UDP socket, an end of 0.3 and its slot, an error and a
-- pollable are of their parent's; no other step makes a handle
abbrev pub IsMarkOf : List Entry → OpId → HandleKind → Option ℕ → Option OpId → Step → Type 0
IsMarkOf before op kind parent sock (step.Call ctx (guest.Names name_call.Network)) = (kind ≡ Network) × (parent ≡ None) × (sock ≡ None)
IsMarkOf before op kind parent sock (step.Call ctx (guest.Tcp (tcp_call.Create family))) =
    (kind ≡ Tcp2) × (parent ≡ None) × (sock ≡ Some op) × ((name : ℕ) × (f : SocketAddressFamily) × Has before (entry op (TcpCreate name f) Done))
IsMarkOf before op kind parent sock (step.Call ctx (guest.P3Tcp (p3_tcp_call.Create family))) =
    (kind ≡ Tcp3) × (parent ≡ None) × (sock ≡ Some op) × ((name : ℕ) × (f : SocketAddressFamily) × Has before (entry op (TcpCreate name f) Done))
IsMarkOf before op kind parent sock (step.Call ctx (guest.Udp (udp_call.Create family))) =
    (kind ≡ Udp2) × (parent ≡ None) × (sock ≡ Some op) × ((name : ℕ) × (f : SocketAddressFamily) × Has before (entry op (UdpCreate name f) Done))
IsMarkOf before op kind parent sock (step.Call ctx (guest.P3Udp (p3_udp_call.Create family))) =
    (kind ≡ Udp3) × (parent ≡ None) × (sock ≡ Some op) × ((name : ℕ) × (f : SocketAddressFamily) × Has before (entry op (UdpCreate name f) Done))
IsMarkOf before op kind parent sock (step.Call ctx (guest.Tcp (tcp_call.FinishConnect socket))) = ((kind ≡ Input) ⊎ (kind ≡ Output)) × IsOfParent before socket parent sock
IsMarkOf before op kind parent sock (step.Call ctx (guest.Tcp (tcp_call.Accept socket))) = IsAcceptedMark before op socket Tcp2 kind parent sock ⊎ IsStreamMark before op kind parent sock
IsMarkOf before op kind parent sock (step.Call ctx (guest.P3Tcp (p3_tcp_call.Listen socket))) = (kind ≡ Listen3) × IsOfParent before socket parent sock
IsMarkOf before op kind parent sock (step.Call ctx (guest.P3Tcp (p3_tcp_call.Accept listener remaining))) = IsAcceptedMark before op listener Tcp3 kind parent sock ⊎ IsFaultMark listener kind parent sock
IsMarkOf before op kind parent sock (step.Call ctx (guest.Udp (udp_call.Stream socket remote))) = ((kind ≡ Incoming) ⊎ (kind ≡ Outgoing)) × IsOfParent before socket parent sock
IsMarkOf before op kind parent sock (step.Call ctx (guest.P3Tcp (p3_tcp_call.Send socket))) = ((kind ≡ Send3) ⊎ (kind ≡ Result3)) × IsOfParent before socket parent sock
IsMarkOf before op kind parent sock (step.Call ctx (guest.P3Tcp (p3_tcp_call.Receive socket))) = ((kind ≡ Receive3) ⊎ (kind ≡ Result3)) × IsOfParent before socket parent sock
IsMarkOf before op kind parent sock (step.Call ctx (guest.Pipe (pipe_call.In bytes))) = IsPlainMark Input kind parent sock
IsMarkOf before op kind parent sock (step.Call ctx (guest.Pipe (pipe_call.Out capacity))) = IsPlainMark Output kind parent sock
IsMarkOf before op kind parent sock (step.Call ctx (guest.Pipe pipe_call.Sink)) = IsPlainMark Output kind parent sock
IsMarkOf before op kind parent sock (step.Call ctx (guest.Pipe pipe_call.ClosedIn)) = IsPlainMark Input kind parent sock
IsMarkOf before op kind parent sock (step.Call ctx (guest.Pipe pipe_call.ClosedOut)) = IsPlainMark Output kind parent sock
IsMarkOf before op kind parent sock (step.Call ctx (guest.Stream (stream_call.Read input len))) = IsErrorMark before op kind input parent sock
IsMarkOf before op kind parent sock (step.Call ctx (guest.Stream (stream_call.Skip input len))) = IsErrorMark before op kind input parent sock
IsMarkOf before op kind parent sock (step.Call ctx (guest.Stream (stream_call.BlockingRead input len))) = IsErrorMark before op kind input parent sock
IsMarkOf before op kind parent sock (step.Call ctx (guest.Stream (stream_call.BlockingSkip input len))) = IsErrorMark before op kind input parent sock
IsMarkOf before op kind parent sock (step.Call ctx (guest.Stream (stream_call.CheckWrite output))) = IsErrorMark before op kind output parent sock
IsMarkOf before op kind parent sock (step.Call ctx (guest.Stream (stream_call.Write output bytes))) = IsErrorMark before op kind output parent sock
IsMarkOf before op kind parent sock (step.Call ctx (guest.Stream (stream_call.WriteZeroes output len))) = IsErrorMark before op kind output parent sock
IsMarkOf before op kind parent sock (step.Call ctx (guest.Stream (stream_call.Flush output))) = IsErrorMark before op kind output parent sock
IsMarkOf before op kind parent sock (step.Call ctx (guest.Stream (stream_call.BlockingWrite output bytes))) = IsErrorMark before op kind output parent sock
IsMarkOf before op kind parent sock (step.Call ctx (guest.Stream (stream_call.BlockingZeroes output len))) = IsErrorMark before op kind output parent sock
IsMarkOf before op kind parent sock (step.Call ctx (guest.Stream (stream_call.BlockingFlush output))) = IsErrorMark before op kind output parent sock
IsMarkOf before op kind parent sock (step.Call ctx (guest.Stream (stream_call.Splice output input len))) = IsErrorMark before op kind output parent sock ⊎ IsErrorMark before op kind input parent sock
IsMarkOf before op kind parent sock (step.Call ctx (guest.Stream (stream_call.BlockingSplice output input len))) = IsErrorMark before op kind output parent sock ⊎ IsErrorMark before op kind input parent sock
IsMarkOf before op kind parent sock (step.Call ctx (guest.Names (name_call.Resolve network name))) = (kind ≡ handle_kind.Lookup) × (parent ≡ Some network) × (sock ≡ None)
IsMarkOf before op kind parent sock (step.Call ctx (guest.Pollable (pollable_call.Subscribe handle))) = (kind ≡ Pollable) × IsOfParent before handle parent sock
IsMarkOf before op kind parent sock _ = ⊥

-- == the table
-- What an operation may ask after these entries.
abbrev pub MayAsk : List WasiSocketsCtx → List Step → List Entry → OpId → Call → Type 0
MayAsk contexts steps before op (Check ctx addr usage) = ⊤
MayAsk contexts steps before op (Lookup host) = BeganBy steps op (IsLookupOf contexts host)
MayAsk contexts steps before op (TcpCreate ctx family) = BeganBy steps op (IsTcpCreate contexts ctx family)
MayAsk contexts steps before op (UdpCreate ctx family) = BeganBy steps op (IsUdpCreate contexts ctx family)
MayAsk contexts steps before op (UdpWritable sock) = ReachesSide steps before op sock
MayAsk contexts steps before op (Local sock) = ReachesSide steps before op sock
MayAsk contexts steps before op (Peer sock) = ReachesSide steps before op sock
MayAsk contexts steps before op (Bind sock addr) =
    ReachesSide steps before op sock × (BeganBy steps op (IsBindTo addr) ⊎ (BeganBy steps op BindsAnywhere × IsItsWildcard before sock addr)) × HasYes before before op sock addr TcpBind × BeganBy steps sock MakesTcp
MayAsk contexts steps before op (UdpBind sock addr) =
    ReachesSide steps before op sock × BeganBy steps op (IsUdpBindTo addr) × HasYes before before op sock addr use_of.UdpBind × BeganBy steps sock MakesUdp
MayAsk contexts steps before op (UdpConnect sock addr) =
    ReachesSide steps before op sock × BeganBy steps op (IsUdpConnectTo addr) × HasYes before before op sock addr use_of.UdpSend × HasYes before before op sock addr use_of.UdpReceive × MaySendOut before op sock × BeganBy steps sock MakesUdp
MayAsk contexts steps before op (Listen sock backlog) = ReachesSide steps before op sock × BeganBy steps op IsListenStep × MayListen before op sock × BeganBy steps sock MakesTcp
MayAsk contexts steps before op (SetBacklog sock backlog) = ReachesSide steps before op sock × BeganBy steps op (IsBacklogSet backlog) × Listens before sock
MayAsk contexts steps before op (Connect sock addr) =
    ReachesSide steps before op sock × BeganBy steps op (IsConnectTo addr) × HasYes before before op sock addr TcpConnect × MayGoOut before op sock × BeganBy steps sock MakesTcp
MayAsk contexts steps before op (Accept sock) = ReachesSide steps before op sock
MayAsk contexts steps before op (Hand sock peer) = ReachesSide steps before op sock × IsAdmitted before op sock peer × HandedNone before op
MayAsk contexts steps before op (Refuse sock peer) = ReachesSide steps before op sock
MayAsk contexts steps before op (Read sock size) = ReachesSide steps before op sock
MayAsk contexts steps before op (ReadReady sock) = ReachesSide steps before op sock
MayAsk contexts steps before op (WriteReady sock) = ReachesSide steps before op sock
MayAsk contexts steps before op (Write sock offered) = ReachesSide steps before op sock
MayAsk contexts steps before op (Shutdown sock how) = ReachesSide steps before op sock
MayAsk contexts steps before op (UdpDisconnect sock) = ReachesSide steps before op sock × BeganBy steps op IsDisconnect
MayAsk contexts steps before op (Send sock addr bytes) =
    ReachesSide steps before op sock × BeganBy steps op (SendsItem before op sock addr bytes) × HasYes before before op sock addr use_of.UdpSend × MaySendOut before op sock × BeganBy steps sock MakesUdp
MayAsk contexts steps before op (Recv sock) = ReachesSide steps before op sock × BeganBy steps op Receives
MayAsk contexts steps before op (GetOption sock option) = ReachesSide steps before op sock × BeganBy steps op (IsGetOf option)
MayAsk contexts steps before op (SetOption sock option value) = ReachesSide steps before op sock × BeganBy steps op (IsSetTo option value)
MayAsk contexts steps before op (Close sock) = ⊤
MayAsk contexts steps before op (Made handle kind parent sock) = (handle ≡ marks_in before + 1) × BeganBy steps op (IsMarkOf before op kind parent sock)

-- == which reply a log may go with
-- What a receive on the stream of this handle hands out: datagrams that were received on its network socket and allowed, in order,
-- each at its own place in the log.
pub record HandsOut (log : List Entry) (handle : ℕ) (fields : List Field) : Type 0 where
  pub side : OpId
  pub of_handle : IsSide log handle side
  pub datagrams : List IncomingDatagram
  pub values : fields ≡ datagram_values datagrams
  pub upto : ℕ
  pub order : InOrder log side 0 datagrams upto

-- a receive of 0.3
abbrev pub IsReceive : Step → Type 0
IsReceive (step.Call ctx (guest.P3Udp (p3_udp_call.Receive socket))) = ⊤
IsReceive _ = ⊥

-- none of these lines is this one
abbrev pub IsNone : ℕ → List ℕ → Type 0
IsNone line [] = ⊤
IsNone line (n ∷ ns) = (line ≡ n → ⊥) × IsNone line ns

-- What the receive of 0.3 of this line hands out: the last `recv` of the line's own operation reported it, on a network socket that
-- the step of that line reaches, and after it came a yes for its sender. No reply before handed out a datagram of that line.
pub record HandsOne (steps : List Step) (log : List Entry) (served : List ℕ) (line : ℕ) (fields : List Field) : Type 0 where
  pub began : BeganBy steps (own_of line) IsReceive
  pub side : OpId
  pub reached : ReachesSide steps log (own_of line) side
  pub bytes : List ℕ
  pub peer : IpSocketAddress
  pub front : List Entry
  pub back : List Entry
  pub cut : log ≡ front ++ entry (own_of line) (Recv side) (Datagram bytes peer) ∷ back
  pub last : (told : Told) → Has back (entry (own_of line) (Recv side) told) → ⊥
  pub yes : HasYes log back (own_of line) side peer use_of.UdpReceive
  pub values : fields ≡ received_values (record { bytes = bytes; remote_address = peer })
  pub once : IsNone line served

-- a reply to a call that receives hands one datagram out; the call is that of a line that is there
abbrev pub HandsAs : List Step → List Entry → List ℕ → ℕ → Option Step → List Field → Type 0
HandsAs steps log served line (Some (step.Call ctx (guest.P3Udp (p3_udp_call.Receive socket)))) fields = HandsOne steps log served line fields
HandsAs steps log served line (Some s) fields = ⊤
HandsAs steps log served line None fields = ⊥

-- a poll is replied to as the call that it polls
abbrev pub MayReply : List Step → List Entry → List ℕ → ℕ → Step → Reply → Type 0
MayReply steps log served line (step.Call ctx (guest.Udp (udp_call.Receive handle most))) (Reply.Ok fields) = HandsOut log handle fields
MayReply steps log served line (step.Call ctx (guest.P3Udp (p3_udp_call.Receive socket))) (Reply.Ok fields) = HandsOne steps log served line fields
MayReply steps log served line (step.Poll n) (Reply.Ok fields) = HandsAs steps log served n (step_at steps n) fields
MayReply steps log served line _ reply = ⊤

-- the lines that handed a datagram out, with this one where its reply does
abbrev pub served_by : ℕ → Option Step → List ℕ → List ℕ
served_by line (Some (step.Call ctx (guest.P3Udp (p3_udp_call.Receive socket)))) served = line ∷ served
served_by line _ served = served

abbrev pub serves : List Step → ℕ → Step → Reply → List ℕ → List ℕ
serves steps line (step.Poll n) (Reply.Ok fields) served = served_by n (step_at steps n) served
serves steps line s (Reply.Ok fields) served = served_by line (Some s) served
serves steps line s _ served = served

-- each reply is to the step of its line, and is one that it may have
abbrev pub EachMayReply : List Step → List Entry → List ℕ → ℕ → List Step → List Reply → Type 0
EachMayReply steps log served line more [] = ⊤
EachMayReply steps log served line [] (reply ∷ replies) = ⊥
EachMayReply steps log served line (s ∷ more) (reply ∷ replies) =
    MayReply steps log served line s reply × EachMayReply steps log (serves steps line s reply served) (line + 1) more replies

-- Each entry may come after those before it, and each reply is to the step of its line, and hands out only what was allowed.
pub record IsLicensed (contexts : List WasiSocketsCtx) (steps : List Step) (log : List Entry) (replies : List Reply) : Type 0 where
  pub each : (before : List Entry) (e : Entry) (after : List Entry) → log ≡ before ++ e ∷ after → MayAsk contexts steps before e.op e.call
  pub replied : EachMayReply steps log [] 1 steps replies
