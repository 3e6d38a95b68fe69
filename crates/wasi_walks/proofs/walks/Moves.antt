-- What a line does, as moves: the state that it works on, what it may ask of the record that it works on, and how the state may
-- move where nothing is asked.
use Rattle.wasi_walks.proofs.Words.{Accepting, Accepts, Begins, Bool, Connection, End, Err, ErrorCode, HandleTable, Has, InProgress}
use Rattle.wasi_walks.proofs.Words.{IpSocketAddress, IsBindTo, IsConnectTo, IsListenStep, Item, Kind, List, Listener, None, Not}
use Rattle.wasi_walks.proofs.Words.{Ok, OpId, Operation, Option, Other, ReadState, Result, Some, Standing}
use Rattle.wasi_walks.proofs.Words.{StandingCall, GuestCall, Step, Stop, Streams, Tcp2, TcpRecord, TcpSendStream, TcpState}
use Rattle.wasi_walks.proofs.Words.{WriteState, accept_ended, accept_operation, accepted_record, accepted_socket, accepted_state}
use Rattle.wasi_walks.proofs.Words.{bind_operation, bind_progress, call_place, connect_ended, connect_first}
use Rattle.wasi_walks.proofs.Words.{connect_operation, false, gone, handles_of, is_connect, is_nothing, is_over, kind_at, length}
use Rattle.wasi_walks.proofs.Words.{listen_ended, listen_first, listen_operation, listen_polled, nat_lt, new_job, new_streams, own_of}
use Rattle.wasi_walks.proofs.Words.{side_of, standing_as, true, wildcard, with_accept, with_inner, with_listening}
use Rattle.wasi_walks.proofs.Words.{with_progress, with_reader, with_state, with_writer, without_handle, ℕ, ⊤}
use Rattle.wasi_walks.proofs.Words.{◌≡◌, ◌⊎◌, ◌++◌, ◌∷◌, []}
use Rattle.wasi_world.specs.declared.ids.Ids.{Ids}
use Rattle.wasi_addr.specs.declared.address.SocketAddressFamily.{SocketAddressFamily}
use Rattle.wasi_world.specs.declared.outcome.WasiSocketsCtx.{WasiSocketsCtx}
use Rattle.wasi_tcp.specs.Bounds.{held}
use Rattle.host_store.specs.Limits.{left}
use Rattle.host_tcp.specs.Creates.{with_room}
pub use Rattle.wasi_walks.proofs.walks.Here.{Interface, ListenerGoes, NoListener, NotYet, NoMore, OfNothing, P2, P3, tcp_kind, KeepsJobs, IsRecord, job_place, keeps_incoming, StreamGoes, StreamIsMade, StreamIsTaken, StreamMoves, StreamStays, StreamsUnder, TakesFrom, ConnectIsOver, HasNewStream, KeepsStreams, MarksNext, TakesOver, one_stream, IsCreated, IsOpenUdp, NoStart, NoStartIn, NoStartStands, Releases, ReleasesUdp, WithHandle, Unheld, GoesBack, WhenIdle, WhenClosed, CallKind, OfPollables, OfStreams, Found, FoundUdp, Here, Own, Names, ToConnect, ToWrite, Unused, Used, Made, Awaited, Calls, Emptied, Faulted, Freed, Joined, Marked, Past, ToListen, ToSend, ToStream, Unmade, part_of, put, put_udp, with_beside, with_records, IsLeft, IsNumbered, OfTcp, OfUdp, OfLookup, OfUnnamed, OfInput, OfOutput, OfSlot, without_record, Numbered, ToResult, end_in, end_of, MakesEnds, MakesEnd, IsEndAt}
use Rattle.wasi_records.specs.Records.{tcp2_put, tcp2_pushed}
use Rattle.std.specs.Prelude.{◌+◌}
use Rattle.wasi_world.specs.declared.datagram.IncomingDatagram.{IncomingDatagram}
use Rattle.wasi_world.specs.declared.datagram.OutgoingDatagram.{OutgoingDatagram}
use Rattle.wasi_world.specs.Operation.{Given, Waits, Done, Refused}
use Rattle.record_common.specs.Binding.{left_of}
use Rattle.tcp_records.specs.Holding.{is_held}
use Rattle.tcp_records.specs.Sockets.{new_record}
use Rattle.udp_records.specs.Datagrams.{has_streams, sends, udp_connect_left, udp_reconnect_left, with_sending}
use Rattle.udp_records.specs.Receiving.{receive_left, with_receiving}
use Rattle.udp_records.specs.declared.datagrams.Incoming.{Incoming as IncomingStream}
use Rattle.udp_records.specs.declared.datagrams.Outgoing.{Outgoing as OutgoingStream}
use Rattle.udp_records.specs.declared.datagrams.Receiving.{Receiving}
use Rattle.udp_records.specs.declared.datagrams.Sending.{Sending}
use Rattle.host_store.specs.declared.store.BlockingCall.{BlockingCall}
use Rattle.host_store.specs.declared.kind.Kind.TheVariants.{Tcp3, Udp3}
use Rattle.host_streams.specs.Blocking.{blocking_handles}
use Rattle.host_store.specs.declared.beside.Beside.{Beside}
use Rattle.host_store.specs.declared.beside.BesideCall.{BesideCall}
use Rattle.host_store.specs.declared.beside.BesideCall.TheVariants.{Connect, Send, Receive}
use Rattle.host_store.specs.Beside.{beside_as, beside_with, beside_without, unbeside}
use Rattle.host_store.specs.Kinds.{has_no_child, udp_of}
use Rattle.wasi_udp.specs.Connect.{connect_start}
use Rattle.wasi_udp.specs.Receive.{receive_start, wanting}
use Rattle.wasi_udp.specs.Send.{at_remote, send_start}
use Rattle.udp_records.specs.declared.udp.OpenUdp.{OpenUdp}
use Rattle.udp_records.specs.declared.udp.UdpRecord.{UdpRecord}
use Rattle.udp_records.specs.declared.udp.UdpInProgress.{UdpInProgress}
use Rattle.udp_records.specs.Udp.{udp_bind_progress, udp_create_left, with_udp_progress, without_udp_socket}
use Rattle.host_udp.specs.UdpCreates.{with_create}
use Rattle.wasi_udp.specs.Bind.{bind_operation as udp_bind_operation}
use Rattle.wasi_udp.specs.Create.{Create}
use Rattle.wasi_udp.specs.Socket.{asker_of}
use Rattle.wasi_udp.specs.declared.bind.UdpBindStage.{UdpBindStage}
use Rattle.tcp_records.specs.Ends.{ends_of}
use Rattle.wasi_records.specs.Records.{slot_pushed}
use Rattle.tcp_records.specs.declared.slot.Slot.{Slot}
use Rattle.host_store.specs.declared.kind.ConnectionEnd.{ConnectionEnd}
use Rattle.wasi_records.specs.declared.records.Record.{Record}
use Rattle.wasi_jobs.specs.declared.job.HostJob.{HostJob}
use Rattle.wasi_walks.specs.Licence.{BindsAnywhere, IsSendOf, IsUdpBindTo, IsUdpConnectTo, Receives}
use Rattle.wasi_tcp.specs.declared.bind.BindStage.TheVariants.{Check}
use Rattle.wasi_tcp.specs.declared.accept.AcceptStage.TheVariants as accept
pub use Rattle.wasi_walks.proofs.walks.Premises.{SameSockets, IsSettled, KeepsBinding, HasBinding, HasListen, GoesOn, IsOfHandle, IsQuestionOf, IsKnown, IsUdpQuestionOf, IsOn, OfSocket, OfReader, OfWriter, IsConnecting, TakesNone, Plain, WriterMoves, Collects, Permits, Lasts, LastsAfter, Closes, tcp_place, udp_place, record_of, udp_record_of, MakesPlain, IsStreamCall, LooksAtPollables, IsCall, kind_of, Creates, CreatesUdp, MakesUdpFor, ListensFor, ListensForHandle, IsMadeUnder, CreateIsFor, Begun, Recalled, LooksUp, IsOpened, IsOfOld, Marks, ANetwork, AStream, AnAcceptedStream, APollable, AUdpPollable, ALookup, ALookupPollable, APlain, APlainPollable, AnEnd}
use Rattle.wasi_steps.specs.declared.guest_call.TcpCall.{TcpCall}
use Rattle.wasi_steps.specs.declared.guest_call.UdpCall.{UdpCall}
use Rattle.wasi_steps.specs.declared.guest_call.P3TcpCall.{P3TcpCall}
use Rattle.wasi_steps.specs.declared.guest_call.P3UdpCall.{P3UdpCall}

-- == records of a bind
abbrev pub begun_bind : OpId → OpId → TcpRecord → IpSocketAddress → Operation
begun_bind own side r a = bind_operation (record { op = own; side = side; maker = r.inner.maker }) a Check

-- == records of a listen and of a listener
-- a listen of a socket that is bound or not begins, and takes the network socket
abbrev pub begun_listen : OpId → OpId → TcpRecord → Bool → Operation
begun_listen own side r bound = listen_operation (record { op = own; side = side; maker = r.inner.maker }) (wildcard r.inner.family) r.inner.backlog (listen_first bound)

abbrev pub beginning_listen : OpId → OpId → TcpRecord → Bool → TcpRecord
beginning_listen own side r bound = record r { inner = with_state r.inner (TcpState.Closed Other); listening = Begins (begun_listen own side r bound) }

-- it was polled
abbrev pub listen_after : Operation → TcpRecord → End × List Item → TcpRecord
listen_after op r ended = (listen_polled r (listen_ended op.who r.inner ended)).1

-- the listener's accept is this
abbrev pub accepting_now : TcpRecord → Listener → Accepting → TcpRecord
accepting_now r l a = with_listening r (Accepts (with_accept l a))

-- a new accept has this name
abbrev pub new_accept : OpId → Listener → Accepting
new_accept name l = Accepting.Asking (accept_operation (record { op = name; side = l.side; maker = l.maker }) accept.Accept)

-- what was accepted
abbrev pub joined : Listener → OpId → IpSocketAddress → TcpRecord
joined l new peer = (accepted_record (accepted_socket l.family l.maker (accepted_state new peer))).1

-- the same in 0.3, which makes no streams
abbrev pub joined_plain : Listener → OpId → IpSocketAddress → TcpRecord
joined_plain l new peer = new_record (accepted_socket l.family l.maker (accepted_state new peer))

-- the socket of a fault, which has no network socket
abbrev pub faulted : Listener → ErrorCode → TcpRecord
faulted l c = new_record (accepted_socket l.family l.maker (TcpState.Closed c))

-- it joins these records
abbrev pub joins_as : Here → List Record → TcpRecord → Made → Here
joins_as h records now made = record h { machine = record h.machine { store = record h.machine.store { records = tcp2_pushed records now } }; at = None; made = made }

abbrev pub joining : Here → List Record → TcpRecord → Here
joining h records now = joins_as h records now (Joined P2 (length records))

-- its handle was made, or not
abbrev pub made_so : ℕ → Result ℕ Stop → Made
made_so place (Ok handle) = Marked handle place
made_so place (Err why) = Past

-- the record that is left where its network socket was closed
abbrev pub closed_record : TcpRecord → TcpRecord
closed_record r = gone r (with_state r.inner (TcpState.Closed Other))

-- the record of a connection whose streams are made
abbrev pub opened_by : TcpRecord → Connection → TcpRecord
opened_by r c = record r { inner = with_state r.inner (TcpState.Connected (record c { send_taken = true })); in_progress = InProgress.Nothing; streams = Some (new_streams (record { side = c.side }) (record { side = c.side })) }

-- == a half is taken as an end of 0.3
abbrev pub with_receive : TcpRecord → Connection → TcpRecord
with_receive r c = with_reader (with_inner r (with_state r.inner (TcpState.Connected (record c { receive_taken = true })))) (ends_of r.streams) (ReadState.Open (record { side = c.side }))

abbrev pub with_send : TcpRecord → Connection → TcpRecord
with_send r c = with_writer (with_inner r (with_state r.inner (TcpState.Connected (record c { send_taken = true })))) (ends_of r.streams) (WriteState.Ready (record { side = c.side }) 0)

-- it wasn't taken
pub data TakesHalf (r : TcpRecord) : TcpRecord → Type 0 where
  OfReceive : (c : Connection) → r.inner.state ≡ TcpState.Connected c → c.receive_taken ≡ false → TakesHalf r (with_receive r c)
  OfSend : (c : Connection) → r.inner.state ≡ TcpState.Connected c → c.send_taken ≡ false → TakesHalf r (with_send r c)

-- == records of UDP sockets
-- of binds, no other is in progress: none is, or it is the same
abbrev pub IsUdpSettled : UdpInProgress → Type 0
IsUdpSettled (UdpInProgress.Binding op) = ⊥
IsUdpSettled _ = ⊤

-- the datagram that isn't sent yet, and the receive in progress
abbrev pub send_op : Sending → Option Operation
send_op (Sending.InProgress op) = Some op
send_op _ = None

abbrev pub receive_op : Receiving → Option Operation
receive_op (Receiving.InProgress op) = Some op
receive_op _ = None

abbrev pub sending_in : Option OutgoingStream → Option Operation
sending_in None = None
sending_in (Some out) = send_op out.sending

abbrev pub receiving_in : Option IncomingStream → Option Operation
receiving_in None = None
receiving_in (Some inc) = receive_op inc.receiving

-- it is in progress as it was, or not any more
abbrev pub KeepsOp : Option Operation → Option Operation → Type 0
KeepsOp old now = (now ≡ old) ⊎ (now ≡ None)

-- the datagram that has come
abbrev pub came_of : Receiving → Option IncomingDatagram
came_of (Receiving.Came d) = Some d
came_of _ = None

-- and that of a stream, which keeps this remote address
abbrev pub Kept : Type 0
Kept = Option IpSocketAddress × IncomingDatagram

abbrev pub came_from : Option IpSocketAddress → Option IncomingDatagram → Option Kept
came_from remote None = None
came_from remote (Some d) = Some (remote, d)

abbrev pub came_in : Option IncomingStream → Option Kept
came_in None = None
came_in (Some inc) = came_from inc.remote (came_of inc.receiving)

-- what has come is as it was, and of a stream that keeps the same address, or was taken
abbrev pub KeepsCame : Option Kept → Option Kept → Type 0
KeepsCame old now = (now ≡ old) ⊎ (now ≡ None)

-- The network socket, its creator, its family and its remote address are as they were. A bind in progress is as it was, and a
-- connect, a send, a receive and what has come are, or are over. It is known to be bound only where it was. It has its handle as
-- before.
pub record UdpPlain (old now : OpenUdp) : Type 0 where
  pub side : now.inner.side ≡ old.inner.side
  pub maker : now.inner.maker ≡ old.inner.maker
  pub family : now.inner.family ≡ old.inner.family
  pub remote : now.inner.remote ≡ old.inner.remote
  pub bound : now.inner.bound ≡ true → old.inner.bound ≡ true
  pub binds : (now.in_progress ≡ old.in_progress) ⊎ (IsUdpSettled old.in_progress × IsUdpSettled now.in_progress)
  pub connects : now.connecting ≡ old.connecting
  pub sends : KeepsOp (sending_in old.outgoing) (sending_in now.outgoing)
  pub receives : KeepsOp (receiving_in old.incoming) (receiving_in now.incoming)
  pub came : KeepsCame (came_in old.incoming) (came_in now.incoming)
  pub dropped : now.dropped ≡ old.dropped

-- what a poll of a datagram leaves: pending, the datagram; else it is over
pub record SettlesSend (op : Operation) (left : End × List Item → Sending) : Type 0 where
  pub waits : (items : List Item) → left (Waits, items) ≡ Sending.InProgress (left_of op items)
  pub done : (given : Given) (items : List Item) → send_op (left (Done given, items)) ≡ None
  pub refused : (c : ErrorCode) (given : Given) (items : List Item) → send_op (left (Refused c given, items)) ≡ None

-- a create was begun, or refused
abbrev pub udp_begun : Here → Result Create ErrorCode → Here
udp_begun h (Ok create) = record h { machine = with_create h.machine create; own = Used }
udp_begun h (Err c) = record h { own = Used }

abbrev pub begun_udp_bind : OpId → OpenUdp → IpSocketAddress → Operation
begun_udp_bind own o a = udp_bind_operation (asker_of own o.inner) a UdpBindStage.Check

-- a connect of a socket that is bound, or of one of 0.3 that isn't
abbrev pub begun_udp_connect : OpId → OpenUdp → IpSocketAddress → Bool → Operation
begun_udp_connect own o a bound = connect_start own o.inner a bound

-- a datagram, and a receive, of a socket that is bound or not
abbrev pub sending_now : OpenUdp → OutgoingStream → Operation → OpenUdp
sending_now o out op = record o { outgoing = Some (with_sending out (Sending.InProgress op)) }

abbrev pub receiving_now : OpenUdp → IncomingStream → Operation → OpenUdp
receiving_now o inc op = record o { incoming = Some (with_receiving inc (Receiving.InProgress op)) }

-- == datagrams of 0.3, whose operations stay in their calls
-- The line begins one on this socket, by the handle that it names: the call that keeps the operation, the operation, and what is
-- polled of it: a send goes by the remote address of now, and a receive takes whatever comes.
pub data StartsDatagram (line : ℕ) (origin : Step) (t : HandleTable) (place : ℕ) (o : OpenUdp) : (Operation → BesideCall) → Operation → Operation → Type 0 where
  StartsSend : (c s : ℕ) (d : OutgoingDatagram) (bound : Bool) → origin ≡ Step.Call c (GuestCall.P3Udp (P3UdpCall.Send s d)) → kind_at t s ≡ Some (Udp3 place) → (bound ≡ true → o.inner.bound ≡ true)
      → StartsDatagram line origin t place o (Send place) (send_start (own_of line) o.inner d.bytes d.remote_address bound) (at_remote o.inner.remote (send_start (own_of line) o.inner d.bytes d.remote_address bound))
  StartsReceive : (c s : ℕ) (bound : Bool) → origin ≡ Step.Call c (GuestCall.P3Udp (P3UdpCall.Receive s)) → kind_at t s ≡ Some (Udp3 place) → (bound ≡ true → o.inner.bound ≡ true)
      → StartsDatagram line origin t place o (Receive place) (receive_start (own_of line) o.inner bound) (wanting None (receive_start (own_of line) o.inner bound))

-- the same of a call that stands beside others
pub data PollsDatagram (place : ℕ) (o : OpenUdp) : BesideCall → (Operation → BesideCall) → Operation → Operation → Type 0 where
  PollsSend : (op : Operation) → PollsDatagram place o (Send place op) (Send place) op (at_remote o.inner.remote op)
  PollsReceive : (op : Operation) → PollsDatagram place o (Receive place op) (Receive place) op (wanting None op)

-- the calls beside others after its first poll, and after another one: pending, it is the last of them, or keeps its place
abbrev pub datagram_begun : List Beside → ℕ → (Operation → BesideCall) → Operation → End × List Item → List Beside
datagram_begun calls line call op (Waits, items) = calls ++ beside_as line (call (left_of op items)) ∷ []
datagram_begun calls line call op (Done given, items) = calls
datagram_begun calls line call op (Refused c given, items) = calls

abbrev pub datagram_polled : List Beside → ℕ → (Operation → BesideCall) → Operation → End × List Item → List Beside
datagram_polled calls n call op (Waits, items) = beside_with calls n (call (left_of op items))
datagram_polled calls n call op (Done given, items) = beside_without calls n
datagram_polled calls n call op (Refused c given, items) = beside_without calls n

-- == moves of a line, where nothing is asked
pub data Move (line : ℕ) (origin : Step) : Here → Here → Type 0 where
  -- the handle is one that the line names, and is of this record
  Reaches : (h : Here) (handle place : ℕ) → Has (handles_of origin) handle → record_of (kind_at h.machine.table handle) ≡ Some place → Move line origin h (record h { at = Some (place, line) })
  ReachesUdp : (h : Here) (handle place : ℕ) → Has (handles_of origin) handle → udp_record_of (kind_at h.machine.table handle) ≡ Some place → Move line origin h (record h { at = Some (place, line) })
  ReachesEnd : (h : Here) (handle place : ℕ) (end : ConnectionEnd) (r : TcpRecord) → Has (handles_of origin) handle → end_of (kind_at h.machine.table handle) ≡ Some end → end.socket ≡ Some place → Found h place r → Move line origin h (record h { at = Some (place, line) })
  Leaves : (h : Here) → Move line origin h (record h { at = None; made = Past })
  Spends : (h : Here) → h.own ≡ Unused → Move line origin h (record h { own = Used })
  -- room is made for a socket of a context, whose limit is kept, by a line that creates one
  MakesRoom : (h : Here) (c : ℕ) (family : SocketAddressFamily) (ctx : WasiSocketsCtx) → origin ≡ Step.Call c (GuestCall.Tcp (TcpCall.Create family)) → Move line origin h (record h { machine = with_room h.machine ctx })
  -- the record
  Changes : (h : Here) (place : ℕ) (r now : TcpRecord) → Found h place r → Plain (h.made ≡ Emptied (Tcp3 place)) (IsOfOld h place) r now → Move line origin h (put h place now)
  ClosesReader : (h : Here) (place : ℕ) (r : TcpRecord) (s : Streams) → Found h place r → r.streams ≡ Some s → Move line origin h (put h place (with_reader r s ReadState.Closed))
  Writes : (h : Here) (place : ℕ) (r : TcpRecord) (s : Streams) (w : WriteState) → Found h place r → r.streams ≡ Some s → WriterMoves (left h.machine.store r.maker (held s.writer)) s.writer w → Move line origin h (put h place (with_writer r s w))
  IsGone : (h : Here) (place : ℕ) (r : TcpRecord) → Releases h place → Found h place r → side_of r.inner ≡ None → Move line origin h (put h place (gone r r.inner))
  -- a connection, whose halves are taken where no connect is in progress
  Reconnects : (h : Here) (place : ℕ) (r : TcpRecord) (c now : Connection) → Found h place r → r.inner.state ≡ TcpState.Connected c → now.side ≡ c.side → (c.send_taken ≡ true → now.send_taken ≡ true) → (is_connect r.in_progress ≡ true → TakesNone c now) → Move line origin h (put h place (with_inner r (with_state r.inner (TcpState.Connected now))))
  Opens : (h : Here) (place : ℕ) (r : TcpRecord) (c : Connection) → IsSettled r.in_progress → Found h place r → r.inner.state ≡ TcpState.Connected c → c.send_taken ≡ false → Move line origin h (put h place (opened_by r c))
  -- a half is taken, of a socket of 0.3; its end gets a slot, whose handle is made after the end's
  TakesEnd : (h : Here) (handle place : ℕ) (r now : TcpRecord) → kind_at h.machine.table handle ≡ Some (Tcp3 place) → Found h place r → TakesHalf r now → Move line origin h (put h place now)
  AddsSlot : (h : Here) (s : Slot) → Move line origin h (record (with_records h (slot_pushed h.machine.store.records s)) { made = ToResult (length h.machine.store.records) })
  -- the line's own operation begins
  BeginsConnect : (h : Here) (place : ℕ) (r : TcpRecord) (side : OpId) (a : IpSocketAddress) (bound : Bool) → h.at ≡ Some (place, line) → Found h place r → r.inner.state ≡ TcpState.Default side → IsConnectTo a origin → (bound ≡ true → r.inner.bound ≡ true) → is_nothing r.in_progress ≡ true → h.own ≡ Unused
      → Move line origin h (record (put h place (with_inner r (with_state r.inner (TcpState.Connecting (connect_operation (record { op = own_of line; side = side; maker = r.inner.maker }) (wildcard r.inner.family) a (connect_first bound)))))) { own = Used })
  BeginsBind : (h : Here) (place : ℕ) (r : TcpRecord) (side : OpId) (a : IpSocketAddress) → h.at ≡ Some (place, line) → Found h place r → r.inner.state ≡ TcpState.Default side → IsBindTo a origin → h.own ≡ Unused
      → Move line origin h (record (put h place (with_progress r (InProgress.Binding (begun_bind (own_of line) side r a)))) { own = Used })
  BeginsWrite : (h : Here) (place n : ℕ) (r : TcpRecord) (s : Streams) (half : TcpSendStream) (permit : ℕ) (bytes : List ℕ) → h.at ≡ Some (place, n) → Found h place r → r.streams ≡ Some s → s.writer ≡ WriteState.Ready half permit → nat_lt permit (length bytes) ≡ false → h.own ≡ ToWrite half.side bytes
      → Move line origin h (record (put h place (with_writer r s (WriteState.Writing (new_job (own_of n) half.side bytes)))) { own = Used })
  BeginsListen : (h : Here) (place : ℕ) (r : TcpRecord) (side : OpId) (bound : Bool) → h.at ≡ Some (place, line) → Found h place r → r.inner.state ≡ TcpState.Default side → (bound ≡ true → r.inner.bound ≡ true) → (bound ≡ false → BindsAnywhere origin × ListensForHandle h.made × (r.inner.bound ≡ false)) → r.listening ≡ Not → IsListenStep origin → is_nothing r.in_progress ≡ true → h.own ≡ Unused
      → Move line origin h (record (put h place (beginning_listen (own_of line) side r bound)) { own = Used })
  -- a listen is over; a listener's fault is taken
  Unlistens : (h : Here) (place : ℕ) (r : TcpRecord) (op : Operation) → NoStart h → Found h place r → r.listening ≡ Begins op → side_of r.inner ≡ None → is_over op ≡ true → Move line origin h (put h place (with_listening r Not))
  Forgets : (h : Here) (place : ℕ) (r : TcpRecord) (l : Listener) (c : ErrorCode) → Found h place r → r.listening ≡ Accepts l → l.accept ≡ Accepting.Failed c → Move line origin h (put h place (accepting_now r l Accepting.Idle))
  -- an accept: nothing was made yet; and what was handed over is taken from its listener, and joins the records
  Watches : (h : Here) → h.own ≡ Unused → Move line origin h (record h { made = Unmade })
  Joins : (h : Here) (c handle place : ℕ) (r : TcpRecord) (l : Listener) (new : OpId) (peer : IpSocketAddress) → origin ≡ Step.Call c (GuestCall.Tcp (TcpCall.Accept handle)) → record_of (kind_at h.machine.table handle) ≡ Some place → h.made ≡ Unmade → Found h place r → r.listening ≡ Accepts l → l.accept ≡ Accepting.Arrived new peer
      → Move line origin h (joining h (tcp2_put h.machine.store.records place (accepting_now r l Accepting.Idle)) (joined l new peer))
  -- the same in 0.3, where a fault gives a socket too
  JoinsPlain : (h : Here) (c listener remaining place : ℕ) (r : TcpRecord) (l : Listener) (new : OpId) (peer : IpSocketAddress) → origin ≡ Step.Call c (GuestCall.P3Tcp (P3TcpCall.Accept listener remaining)) → record_of (kind_at h.machine.table listener) ≡ Some place → h.made ≡ Unmade → Found h place r → r.listening ≡ Accepts l → l.accept ≡ Accepting.Arrived new peer
      → Move line origin h (let records = tcp2_put h.machine.store.records place (accepting_now r l Accepting.Idle) in joins_as h records (joined_plain l new peer) (Joined P3 (length records)))
  JoinsFault : (h : Here) (place : ℕ) (r : TcpRecord) (l : Listener) (c : ErrorCode) → h.made ≡ Unmade → Found h place r → r.listening ≡ Accepts l → l.accept ≡ Accepting.Failed c
      → Move line origin h (let records = tcp2_put h.machine.store.records place (accepting_now r l Accepting.Idle) in joins_as h records (faulted l c) (Faulted (length records)))
  -- what listens: the line, or the pending call of one, whose listener gets a handle under this one, or gets none; it is pending then
  RemembersListen : (h : Here) (marks : Option ℕ) (place : ℕ) (r : TcpRecord) → ListensFor marks origin → IsMadeUnder h.machine.table marks place → Found h place r → r.listening ≡ Not → Move line origin h (record h { made = ToListen line marks place })
  RecallsListen : (h : Here) (ids : Ids) (place : ℕ) (marks : Option ℕ) → h.machine.store.standing ≡ Some (standing_as ids (StandingCall.Listen place marks)) → Move line origin h (record h { made = ToListen ids.line marks place })
  StandsListen : (h : Here) (ids : Ids) (place : ℕ) (marks : Option ℕ) (r : TcpRecord) → NoStart h → h.at ≡ Some (place, ids.line) → h.made ≡ ToListen ids.line marks place → Found h place r → HasListen r.listening → Move line origin h (record h { machine = record h.machine { store = record h.machine.store { standing = Some (standing_as ids (StandingCall.Listen place marks)) } } })
  -- a call is pending, by the line that asks; it is in progress; nothing is pending
  Stands : (h : Here) (ids : Ids) (call : StandingCall) (r : TcpRecord) → NoStart h → h.at ≡ Some (call_place call, ids.line) → Found h (call_place call) r → GoesOn call r → Move line origin h (record h { machine = record h.machine { store = record h.machine.store { standing = Some (standing_as ids call) } } })
  Resumes : (h : Here) (s : Standing) → h.machine.store.standing ≡ Some s → IsOfHandle s.call → Move line origin h (record h { at = Some (call_place s.call, s.ids.line) })
  Unstands : (h : Here) → TakesOver h → Move line origin h (record h { machine = record h.machine { store = record h.machine.store { standing = None } } })
  -- a call stands beside others, by the line that asks: its operation is in progress in its record; it is over, or given up
  StandsBeside : (h : Here) (place : ℕ) (r : TcpRecord) (op : Operation) → h.at ≡ Some (place, line) → Found h place r → r.inner.state ≡ TcpState.Connecting op → op.who.id ≡ own_of line
      → Move line origin h (record h { machine = record h.machine { store = record h.machine.store { beside = h.machine.store.beside ++ beside_as line (Connect place) ∷ [] } } })
  EndsBeside : (h : Here) (n : ℕ) → Move line origin h (record h { machine = record h.machine { store = unbeside h.machine.store n } })
  -- a UDP socket
  UdpChanges : (h : Here) (place : ℕ) (o now : OpenUdp) → FoundUdp h place (UdpRecord.Open o) → UdpPlain o now → KeepsStreams origin h place o now → Move line origin h (put_udp h place (UdpRecord.Open now))
  BeginsUdpBind : (h : Here) (place : ℕ) (o : OpenUdp) (a : IpSocketAddress) → h.at ≡ Some (place, line) → FoundUdp h place (UdpRecord.Open o) → IsUdpBindTo a origin → h.own ≡ Unused
      → Move line origin h (record (put_udp h place (UdpRecord.Open (with_udp_progress o (UdpInProgress.Binding (begun_udp_bind (own_of line) o a))))) { own = Used })
  StandsUdpBind : (h : Here) (ids : Ids) (place : ℕ) (face : Interface) (o : OpenUdp) (op : Operation) → NoStart h → h.at ≡ Some (place, ids.line) → FoundUdp h place (UdpRecord.Open o) → o.in_progress ≡ UdpInProgress.Binding op → Move line origin h (record h { machine = record h.machine { store = record h.machine.store { standing = Some (standing_as ids (StandingCall.UdpBind place face)) } } })
  StandsUdpCreate : (h : Here) (ids : Ids) (place : ℕ) (face : Interface) (create : Create) → NoStart h → h.made ≡ Awaited face create.operation.who.side place → FoundUdp h place (UdpRecord.Creating create) → (ids.line ≡ line) ⊎ (origin ≡ Step.Poll ids.line)
      → Move line origin h (record h { machine = record h.machine { store = record h.machine.store { standing = Some (standing_as ids (StandingCall.UdpCreate place face)) } } })
  -- the datagram streams of a UDP socket: what they are made under, and the connect that comes before, until it is over or pending
  RemembersStreams : (h : Here) (c handle place : ℕ) (remote : Option IpSocketAddress) → origin ≡ Step.Call c (GuestCall.Udp (UdpCall.Stream handle remote)) → udp_of (kind_at h.machine.table handle) ≡ Some place → (o : OpenUdp) → FoundUdp h place (UdpRecord.Open o) → has_streams o ≡ false
      → Move line origin h (record h { made = ToStream line handle place })
  RecallsStreams : (h : Here) (ids : Ids) (place handle : ℕ) → h.machine.store.standing ≡ Some (standing_as ids (StandingCall.UdpConnect place handle)) → h.own ≡ Unused → Move line origin h (record h { made = ToStream ids.line handle place; own = ToConnect place })
  BeginsUdpConnect : (h : Here) (place : ℕ) (o : OpenUdp) (a : IpSocketAddress) (bound : Bool) → h.at ≡ Some (place, line) → FoundUdp h place (UdpRecord.Open o) → IsUdpConnectTo a origin → (bound ≡ true → o.inner.bound ≡ true) → has_streams o ≡ false → h.own ≡ Unused
      → Move line origin h (record (put_udp h place (UdpRecord.Open (record o { connecting = Some (begun_udp_connect (own_of line) o a bound) }))) { own = ToConnect place })
  EndsConnect : (h : Here) (place : ℕ) → h.own ≡ ToConnect place → ConnectIsOver h place → Move line origin h (record h { own = Used })
  StandsUdpConnect : (h : Here) (ids : Ids) (place handle : ℕ) (o : OpenUdp) (op : Operation) → NoStart h → h.at ≡ Some (place, ids.line) → h.made ≡ ToStream ids.line handle place → FoundUdp h place (UdpRecord.Open o) → o.connecting ≡ Some op → Move line origin h (record h { machine = record h.machine { store = record h.machine.store { standing = Some (standing_as ids (StandingCall.UdpConnect place handle)) } } })
  -- one of 0.3, which makes no streams
  RecallsConnect : (h : Here) (ids : Ids) (place : ℕ) → h.machine.store.standing ≡ Some (standing_as ids (StandingCall.UdpConnect3 place)) → h.own ≡ Unused → Move line origin h (record h { own = ToConnect place })
  StandsConnect : (h : Here) (ids : Ids) (place : ℕ) (o : OpenUdp) (op : Operation) → NoStart h → h.at ≡ Some (place, ids.line) → h.made ≡ Past → FoundUdp h place (UdpRecord.Open o) → o.connecting ≡ Some op → Move line origin h (record h { machine = record h.machine { store = record h.machine.store { standing = Some (standing_as ids (StandingCall.UdpConnect3 place)) } } })
  StandsDropOutgoing : (h : Here) (ids : Ids) (place : ℕ) (o : OpenUdp) → NoStart h → h.at ≡ Some (place, ids.line) → FoundUdp h place (UdpRecord.Open o) → sends o.outgoing ≡ true → Move line origin h (record h { machine = record h.machine { store = record h.machine.store { standing = Some (standing_as ids (StandingCall.DropOutgoing place)) } } })
  -- accepts and datagrams: each has the next name of the line
  Counts : (h : Here) → h.own ≡ Unused → Move line origin h (record h { own = Names 1 })
  SpendsNames : (h : Here) (n : ℕ) → h.own ≡ Names n → Move line origin h (record h { own = Used })
  BeginsAccept : (h : Here) (place n : ℕ) (r : TcpRecord) (l : Listener) → h.at ≡ Some (place, line) → Found h place r → r.listening ≡ Accepts l → l.accept ≡ Accepting.Idle → h.own ≡ Names n
      → Move line origin h (record (put h place (accepting_now r l (new_accept (part_of line n) l))) { own = Names (n + 1) })
  BeginsSend : (h : Here) (place n : ℕ) (o : OpenUdp) (out : OutgoingStream) (d : OutgoingDatagram) (bound : Bool) → h.at ≡ Some (place, line) → FoundUdp h place (UdpRecord.Open o) → o.outgoing ≡ Some out → IsSendOf n d origin → (bound ≡ true → o.inner.bound ≡ true) → h.own ≡ Names n
      → Move line origin h (record (put_udp h place (UdpRecord.Open (sending_now o out (send_start (part_of line n) o.inner d.bytes d.remote_address bound)))) { own = Names (n + 1) })
  BeginsReceive : (h : Here) (place n : ℕ) (o : OpenUdp) (inc : IncomingStream) (bound : Bool) → h.at ≡ Some (place, line) → FoundUdp h place (UdpRecord.Open o) → o.incoming ≡ Some inc → Receives origin × (inc.receiving ≡ Receiving.Nothing) → h.own ≡ Names n
      → Move line origin h (record (put_udp h place (UdpRecord.Open (receiving_now o inc (receive_start (part_of line n) o.inner bound)))) { own = Names (n + 1) })
  -- calls on handles: that of the line, or the one that is pending, and the record of one of its handles; it is pending then
  CallsHandles : (h : Here) (kind : CallKind) → IsCall kind origin → NoStart h → Move line origin h (record h { made = Calls kind line (handles_of origin) })
  RecallsCall : (h : Here) (ids : Ids) (call : BlockingCall) → h.machine.store.standing ≡ Some (standing_as ids (StandingCall.Blocking call)) → Move line origin h (record h { made = Calls (kind_of call) ids.line (blocking_handles call) })
  ReachesHandle : (h : Here) (kind : CallKind) (n handle place : ℕ) (handles : List ℕ) → h.made ≡ Calls kind n handles → Has handles handle → record_of (kind_at h.machine.table handle) ≡ Some place → Move line origin h (record h { at = Some (place, n) })
  StandsBlocking : (h : Here) (ids : Ids) (call : BlockingCall) (handles : List ℕ) → h.made ≡ Calls (kind_of call) ids.line handles → blocking_handles call ≡ handles → Move line origin h (record h { machine = record h.machine { store = record h.machine.store { standing = Some (standing_as ids (StandingCall.Blocking call)) } } })
  -- a pending call is given up
  CancelsBind : (h : Here) (place : ℕ) (r : TcpRecord) (op : Operation) → NoStart h → Found h place r → r.in_progress ≡ InProgress.Binding op → Move line origin h (put h place (with_progress r InProgress.Nothing))
  CancelsUdpBind : (h : Here) (place : ℕ) (o : OpenUdp) (op : Operation) → NoStart h → FoundUdp h place (UdpRecord.Open o) → o.in_progress ≡ UdpInProgress.Binding op → Move line origin h (put_udp h place (UdpRecord.Open (with_udp_progress o UdpInProgress.Nothing)))
  CancelsUdpConnect : (h : Here) (place : ℕ) (o : OpenUdp) → NoStart h → FoundUdp h place (UdpRecord.Open o) → Move line origin h (put_udp h place (UdpRecord.Open (record o { connecting = None })))
  -- lookups and pipes: what was found, and what is handed out
  Finds : (h : Here) (records : List Record) → SameSockets (λ op. ⊥) h.machine.store.records records → Move line origin h (with_records h records)
  Numbers : (h : Here) → Move line origin h (record h { made = Numbered (length h.machine.store.records) h.machine.table.next })
  -- a create that is to be polled: no handle is of its record
  AwaitsCreate : (h : Here) (place : ℕ) (face : Interface) (create : Create) → CreateIsFor line origin h.machine.store.standing place face create.operation.who.side → FoundUdp h place (UdpRecord.Creating create)
      → Move line origin h (record h { made = Awaited face create.operation.who.side place })
  -- a handle is taken out of the table, under which nothing is live; of a socket that is dropped it is noted which
  Empties : (h : Here) (handle : ℕ) (kind : Kind) → NoStart h → kind_at h.machine.table handle ≡ Some kind → has_no_child h.machine.table handle ≡ true → Move line origin h (record h { machine = record h.machine { table = without_handle h.machine.table handle }; made = Emptied kind })
  Takes : (h : Here) (handle : ℕ) → NoStart h → h.made ≡ Past → has_no_child h.machine.table handle ≡ true → Move line origin h (record h { machine = record h.machine { table = without_handle h.machine.table handle } })
  -- a TCP socket is dropped with what is under it, or nothing holds it any more
  Frees : (h : Here) (place : ℕ) → h.made ≡ Emptied (Tcp2 place) → Move line origin h (record h { made = Freed place })
  IsUnheld : (h : Here) (place : ℕ) (r : TcpRecord) → Found h place r → is_held r ≡ false → Move line origin h (record h { made = Freed place })
  -- the handle of a UDP socket of 0.3 is gone; its datagrams in progress may hold it still
  DropsUdp : (h : Here) (place : ℕ) (o : OpenUdp) → h.machine.store.standing ≡ None → h.made ≡ Emptied (Udp3 place) → FoundUdp h place (UdpRecord.Open o) → Move line origin h (record (put_udp h place (UdpRecord.Open (without_udp_socket o))) { at = None })
  -- nothing refers to a record any more, and nothing of it is pending
  GivesBack : (h : Here) (place : ℕ) → GoesBack h place → IsLeft h place → Move line origin h (without_record h place)
  -- the rest
  Lists : (h : Here) (jobs : List HostJob) → KeepsJobs h.machine.store.records h.machine.store.jobs jobs → Move line origin h (record h { machine = record h.machine { store = record h.machine.store { jobs = jobs } } })

-- an operation that the line polls: where it is kept, and what becomes of it
pub data Held (h : Here) : Operation → (End × List Item → Here) → Type 0 where
  BindsOn : (place : ℕ) (r : TcpRecord) (op : Operation) → NoStart h → Found h place r → r.in_progress ≡ InProgress.Binding op → Held h op (λ ended. put h place (with_progress r (bind_progress op ended)))
  Connects : (place : ℕ) (r : TcpRecord) (op : Operation) → Found h place r → r.inner.state ≡ TcpState.Connecting op → Held h op (λ ended. put h place (with_inner r (with_state r.inner (connect_ended op.who ended).1)))
  Listens : (place : ℕ) (r : TcpRecord) (op : Operation) → NoStart h → Found h place r → r.listening ≡ Begins op → side_of r.inner ≡ None → Held h op (λ ended. put h place (listen_after op r ended))
  Awaits : (place : ℕ) (r : TcpRecord) (l : Listener) (op : Operation) → Found h place r → r.listening ≡ Accepts l → l.accept ≡ Accepting.Asking op → Held h op (λ ended. put h place (accepting_now r l (accept_ended op.who ended)))
  UdpCreates : (place : ℕ) (create : Create) → NoStart h → FoundUdp h place (UdpRecord.Creating create) → Held h create.operation (λ ended. put_udp h place (udp_create_left create ended))
  UdpBindsOn : (place : ℕ) (o : OpenUdp) (op : Operation) → NoStart h → FoundUdp h place (UdpRecord.Open o) → o.in_progress ≡ UdpInProgress.Binding op → Held h op (λ ended. put_udp h place (UdpRecord.Open (with_udp_progress o (udp_bind_progress op ended))))
  UdpConnectsOn : (place : ℕ) (o : OpenUdp) (op : Operation) → NoStart h × StreamsUnder h place → FoundUdp h place (UdpRecord.Open o) → o.connecting ≡ Some op → Held h op (λ ended. put_udp h place (UdpRecord.Open (udp_connect_left op o ended)))
  UdpReconnectsOn : (place : ℕ) (o : OpenUdp) (op : Operation) → NoStart h → FoundUdp h place (UdpRecord.Open o) → o.connecting ≡ Some op → Held h op (λ ended. put_udp h place (UdpRecord.Open (udp_reconnect_left op o ended)))
  SendsOn : (place : ℕ) (o : OpenUdp) (out : OutgoingStream) (op : Operation) (left : End × List Item → Sending) → FoundUdp h place (UdpRecord.Open o) → o.outgoing ≡ Some out → out.sending ≡ Sending.InProgress op → SettlesSend op left → Held h (at_remote o.inner.remote op) (λ ended. put_udp h place (UdpRecord.Open (record o { outgoing = Some (with_sending out (left ended)) })))
  ReceivesOn : (place : ℕ) (o : OpenUdp) (inc : IncomingStream) (op : Operation) → FoundUdp h place (UdpRecord.Open o) → o.incoming ≡ Some inc → inc.receiving ≡ Receiving.InProgress op → Held h (wanting inc.remote op) (λ ended. put_udp h place (UdpRecord.Open (record o { incoming = Some (with_receiving inc (receive_left op ended)) })))
