-- What a move and an ask take for granted: of the records, of the line's step, and of a handle that is made.
use Rattle.std.proofs.Common.{◌≤◌}
use Rattle.wasi_walks.proofs.Words.{Begins, Call, Connection, InProgress, Input}
use Rattle.wasi_walks.proofs.Words.{Job, Kind, List, Listening, Network, None}
use Rattle.wasi_walks.proofs.Words.{HandleTable, OpId, Option, Output, Pollable, ReadState, SocketAddressFamily, Some, Standing}
use Rattle.wasi_walks.proofs.Words.{StandingCall, GuestCall, Step, Streams, Tcp2, TcpRecord, TcpReceiveStream, TcpSendStream, TcpState, WasiSocketsCtx}
use Rattle.wasi_walks.proofs.Words.{Watched, WriteState}
use Rattle.wasi_walks.proofs.Words.{closing_job, collected}
use Rattle.wasi_walks.proofs.Words.{context_at, false, is_connect, kind_at}
use Rattle.wasi_walks.proofs.Words.{own_of, place_in}
use Rattle.wasi_walks.proofs.Words.{side_at, side_of, standing_as, true}
use Rattle.wasi_walks.proofs.Words.{writer_side, ℕ, ⊤}
use Rattle.wasi_walks.proofs.Words.{◌≡◌, ◌⊎◌}
use Rattle.wasi_world.specs.declared.ids.Ids.{Ids}
use Rattle.wasi_walks.proofs.walks.Here.{Interface, P2, P3, CallKind, OfPollables, OfStreams, Found, Here, Used, Made, Marked, Past, ToListen, IsNumbered, Numbered, ToResult, end_in, MakesEnd, IsEndAt}
use Rattle.std.specs.Prelude.{slice_get}
use Rattle.wasi_records.specs.Records.{tcp2_at, udp2_at, lookup_at, input_pipe_at, output_pipe_at}
use Rattle.lookup_records.specs.declared.name_lookup.Lookup.TheVariants as lookup
use Rattle.lookup_records.specs.declared.name_lookup.LookupOp.{LookupOp}
use Rattle.std.specs.Prelude.{IsSome, is_some, slice_get}
use Rattle.wasi_names.specs.declared.name.HostName.TheVariants.{Domain}
use Rattle.wasi_names.specs.Names.{name_is}
use Rattle.host_store.specs.declared.store.BlockingCall.{BlockingCall}
use Rattle.host_store.specs.declared.store.BlockingCall.TheVariants as blocking
use Rattle.host_store.specs.declared.kind.Kind.TheVariants.{Listen3, Tcp3, Udp2, Udp3, PlainInput, PlainOutput, Incoming, Outgoing, Lookup}
use Rattle.host_store.specs.declared.kind.PlainInput.TheVariants as plain_input
use Rattle.host_store.specs.declared.kind.PlainOutput.TheVariants as plain_output
use Rattle.host_store.specs.Kinds.{watched_by}
use Rattle.host_udp.specs.UdpCreates.{udp_side_at}
use Rattle.wasi_records.specs.Records.{slot_at}
use Rattle.host_store.specs.declared.kind.ConnectionEnd.{ConnectionEnd}
use Rattle.wasi_records.specs.declared.records.Record.{Record}
use Rattle.wasi_walks.specs.Licence.{IsGetOf, IsSetTo}
use Rattle.wasi_walks.specs.Answered.{streams_in}
use Rattle.wasi_walks.specs.Waiting.{StartsTold}
use Rattle.wasi_tcp.specs.declared.writer.WriteError.{WriteError}
use Rattle.wasi_steps.specs.declared.guest_call.TcpCall.{TcpCall}
use Rattle.wasi_steps.specs.declared.guest_call.UdpCall.{UdpCall}
use Rattle.wasi_steps.specs.declared.guest_call.NameCall.{NameCall}
use Rattle.wasi_steps.specs.declared.guest_call.StreamCall.{StreamCall}
use Rattle.wasi_steps.specs.declared.guest_call.PipeCall.{PipeCall}
use Rattle.wasi_steps.specs.declared.guest_call.PollableCall.{PollableCall}
use Rattle.wasi_steps.specs.declared.guest_call.P3TcpCall.{P3TcpCall}
use Rattle.wasi_steps.specs.declared.guest_call.P3UdpCall.{P3UdpCall}
use Rattle.wasi_steps.specs.declared.guest_call.P3NameCall.{P3NameCall}

-- The sockets are as they were, and a lookup stays one, and so do a pipe and a result slot, and each place is there still. A lookup is in progress only where it was, or is one of
-- these.
pub record SameSockets (new : LookupOp → Type 0) (old now : List Record) : Type 0 where
  pub tcp : (k : ℕ) → tcp2_at now k ≡ tcp2_at old k
  pub udp : (k : ℕ) → udp2_at now k ≡ udp2_at old k
  pub stays : (k : ℕ) → is_some (lookup_at old k) ≡ true → is_some (lookup_at now k) ≡ true
  pub inputs : (k : ℕ) → is_some (input_pipe_at old k) ≡ true → is_some (input_pipe_at now k) ≡ true
  pub outputs : (k : ℕ) → is_some (output_pipe_at old k) ≡ true → is_some (output_pipe_at now k) ≡ true
  pub slots : (k : ℕ) → is_some (slot_at old k) ≡ true → is_some (slot_at now k) ≡ true
  pub there : (k : ℕ) → IsSome (slice_get old k) → IsSome (slice_get now k)
  pub looks : (k : ℕ) (op : LookupOp) → lookup_at now k ≡ Some (lookup.InProgress op) → (lookup_at old k ≡ Some (lookup.InProgress op)) ⊎ new op

-- of binds, no other is in progress: none is, or it is the same
abbrev pub IsSettled : InProgress → Type 0
IsSettled (InProgress.Binding op) = ⊥
IsSettled _ = ⊤

abbrev pub KeepsBinding : InProgress → InProgress → Type 0
KeepsBinding old now = (now ≡ old) ⊎ (IsSettled old × IsSettled now)

-- a bind is in progress
abbrev pub HasBinding : InProgress → Type 0
HasBinding (InProgress.Binding op) = ⊤
HasBinding _ = ⊥

-- a listen is in progress, whose address was reported
abbrev pub HasListen : Listening → Type 0
HasListen (Begins op) = StartsTold op.left
HasListen _ = ⊥

-- where a bind is to be pending, it is in progress
abbrev pub GoesOn : StandingCall → TcpRecord → Type 0
GoesOn (StandingCall.Bind place face) r = HasBinding r.in_progress
GoesOn (StandingCall.DropOutput place) r = ⊤
GoesOn _ r = ⊥

-- the pending call was made of a handle of its record: any but a create, and but one of streams, which is on handles
abbrev pub IsOfHandle : StandingCall → Type 0
IsOfHandle (StandingCall.UdpCreate place face) = ⊥
IsOfHandle (StandingCall.Blocking call) = ⊥
IsOfHandle _ = ⊤

-- == what may be asked of a record's network socket by the line that works on it
-- a question, by an operation that the line of this number began, or that a half is released; an option is that which the line
-- itself gets or sets
abbrev pub IsQuestionOf : ℕ → Step → ℕ → OpId → Call → Type 0
IsQuestionOf line origin n side (Call.Local s) = s ≡ side
IsQuestionOf line origin n side (Call.Peer s) = s ≡ side
IsQuestionOf line origin n side (Call.GetOption s option) = (s ≡ side) × (n ≡ line) × IsGetOf option origin
IsQuestionOf line origin n side (Call.SetOption s option value) = (s ≡ side) × (n ≡ line) × IsSetTo option value origin
IsQuestionOf line origin n side (Call.Read s size) = s ≡ side
IsQuestionOf line origin n side (Call.ReadReady s) = s ≡ side
IsQuestionOf line origin n side (Call.WriteReady s) = s ≡ side
IsQuestionOf line origin n side (Call.Shutdown s how) = s ≡ side
IsQuestionOf line origin n side _ = ⊥

-- the local address is asked for again only of a socket that is known to be bound
abbrev pub IsKnown : TcpRecord → Call → Type 0
IsKnown r (Call.Local s) = r.inner.bound ≡ true
IsKnown r _ = ⊤

-- the same of a UDP socket
abbrev pub IsUdpQuestionOf : ℕ → Step → ℕ → OpId → Call → Type 0
IsUdpQuestionOf line origin n side (Call.Local s) = s ≡ side
IsUdpQuestionOf line origin n side (Call.GetOption s option) = (s ≡ side) × (n ≡ line) × IsGetOf option origin
IsUdpQuestionOf line origin n side (Call.SetOption s option value) = (s ≡ side) × (n ≡ line) × IsSetTo option value origin
IsUdpQuestionOf line origin n side _ = ⊥

-- the network socket is the socket's, or that of one of its halves
pub data IsOn (r : TcpRecord) (side : OpId) : Type 0 where
  OfSocket : side_of r.inner ≡ Some side → IsOn r side
  OfReader : (s : Streams) (half : TcpReceiveStream) → r.streams ≡ Some s → s.reader ≡ ReadState.Open half → half.side ≡ side → IsOn r side
  OfWriter : (s : Streams) → r.streams ≡ Some s → writer_side s.writer ≡ Some side → IsOn r side

-- == moves of a record
abbrev pub IsConnecting : TcpState → Type 0
IsConnecting (TcpState.Connecting op) = ⊤
IsConnecting _ = ⊥

-- the same halves are taken
abbrev pub TakesNone : Connection → Connection → Type 0
TakesNone c now = (now.receive_taken ≡ c.receive_taken) × (now.send_taken ≡ c.send_taken)

-- The network socket, the streams and the listening are as they were, and so is what the socket does, and a bind in progress. A
-- connect is in progress only where one was, or where the socket connects and one may begin. It has its handle as before, or that goes.
pub record Plain (goes begins : Type 0) (old now : TcpRecord) : Type 0 where
  pub side : now.side ≡ old.side
  pub streams : now.streams ≡ old.streams
  pub listening : now.listening ≡ old.listening
  pub does : now.inner.state ≡ old.inner.state
  pub maker : now.inner.maker ≡ old.inner.maker
  pub counts : now.maker ≡ old.maker
  pub family : now.inner.family ≡ old.inner.family
  pub bound : (side : OpId) → old.inner.state ≡ TcpState.Default side → now.inner.bound ≡ true → old.inner.bound ≡ true
  pub stays : now.inner.bound ≡ false → old.inner.bound ≡ false
  pub binds : KeepsBinding old.in_progress now.in_progress
  pub connects : is_connect now.in_progress ≡ true → (is_connect old.in_progress ≡ true) ⊎ (IsConnecting old.inner.state × begins)
  pub dropped : (now.dropped ≡ old.dropped) ⊎ goes

-- of a writer that this much is left to: a job that ended is collected, another permit, a write that is to be the last, the end
pub data WriterMoves (most : ℕ) : WriteState → WriteState → Type 0 where
  Collects : (w : WriteState) → WriterMoves most w (collected w)
  Permits : (half : TcpSendStream) (old n : ℕ) → n ≤ most → WriterMoves most (WriteState.Ready half old) (WriteState.Ready half n)
  Lasts : (job : Job) → WriterMoves most (WriteState.Writing job) (WriteState.Closing job)
  LastsAfter : (job : Job) → WriterMoves most (WriteState.Writing job) (WriteState.Closing (closing_job job))
  Closes : (w : WriteState) → WriterMoves most w (WriteState.Closed WriteError.Closed)

-- the TCP socket that is watched
abbrev pub tcp_place : Watched → Option ℕ
tcp_place (Watched.Udp place) = None
tcp_place (Watched.Incoming place) = None
tcp_place (Watched.Outgoing place) = None
tcp_place (Watched.Lookup place) = None
tcp_place Watched.Plain = None
tcp_place w = Some (place_in w)

-- the UDP socket that is watched
abbrev pub udp_place : Watched → Option ℕ
udp_place (Watched.Udp place) = Some place
udp_place (Watched.Incoming place) = Some place
udp_place (Watched.Outgoing place) = Some place
udp_place w = None

-- the TCP socket that a handle is of
abbrev pub record_of : Option Kind → Option ℕ
record_of (Some (Tcp2 place)) = Some place
record_of (Some (Tcp3 place)) = Some place
record_of (Some (Listen3 place)) = Some place
record_of (Some (Input place)) = Some place
record_of (Some (Output place)) = Some place
record_of (Some (Pollable w)) = tcp_place w
record_of _ = None

-- the UDP socket that a handle is of
abbrev pub udp_record_of : Option Kind → Option ℕ
udp_record_of (Some (Udp2 place)) = Some place
udp_record_of (Some (Udp3 place)) = Some place
udp_record_of (Some (Incoming place)) = Some place
udp_record_of (Some (Outgoing place)) = Some place
udp_record_of (Some (Pollable w)) = udp_place w
udp_record_of _ = None

-- the step makes such an input or output of no connection
abbrev pub MakesPlain : Step → Kind → Type 0
MakesPlain (Step.Call ctx (GuestCall.Pipe (PipeCall.In bytes))) (PlainInput (plain_input.Pipe place)) = ⊤
MakesPlain (Step.Call ctx (GuestCall.Pipe (PipeCall.Out capacity))) (PlainOutput (plain_output.Pipe place)) = ⊤
MakesPlain (Step.Call ctx (GuestCall.Pipe PipeCall.Sink)) (PlainOutput plain_output.Sink) = ⊤
MakesPlain (Step.Call ctx (GuestCall.Pipe PipeCall.ClosedIn)) (PlainInput plain_input.Closed) = ⊤
MakesPlain (Step.Call ctx (GuestCall.Pipe PipeCall.ClosedOut)) (PlainOutput plain_output.Closed) = ⊤
MakesPlain _ _ = ⊥

-- a call of streams
abbrev pub IsStreamCall : Step → Type 0
IsStreamCall (Step.Call ctx (GuestCall.Stream (StreamCall.Read input len))) = ⊤
IsStreamCall (Step.Call ctx (GuestCall.Stream (StreamCall.Skip input len))) = ⊤
IsStreamCall (Step.Call ctx (GuestCall.Stream (StreamCall.CheckWrite output))) = ⊤
IsStreamCall (Step.Call ctx (GuestCall.Stream (StreamCall.Write output bytes))) = ⊤
IsStreamCall (Step.Call ctx (GuestCall.Stream (StreamCall.WriteZeroes output len))) = ⊤
IsStreamCall (Step.Call ctx (GuestCall.Stream (StreamCall.Flush output))) = ⊤
IsStreamCall (Step.Call ctx (GuestCall.Stream (StreamCall.Splice output input len))) = ⊤
IsStreamCall (Step.Call ctx (GuestCall.Stream (StreamCall.BlockingRead input len))) = ⊤
IsStreamCall (Step.Call ctx (GuestCall.Stream (StreamCall.BlockingSkip input len))) = ⊤
IsStreamCall (Step.Call ctx (GuestCall.Stream (StreamCall.BlockingWrite output bytes))) = ⊤
IsStreamCall (Step.Call ctx (GuestCall.Stream (StreamCall.BlockingZeroes output len))) = ⊤
IsStreamCall (Step.Call ctx (GuestCall.Stream (StreamCall.BlockingFlush output))) = ⊤
IsStreamCall (Step.Call ctx (GuestCall.Stream (StreamCall.BlockingSplice output input len))) = ⊤
IsStreamCall _ = ⊥

-- a look at a pollable, or a wait for some
abbrev pub LooksAtPollables : Step → Type 0
LooksAtPollables (Step.Call ctx (GuestCall.Pollable (PollableCall.Ready pollable))) = ⊤
LooksAtPollables (Step.Call ctx (GuestCall.Pollable (PollableCall.Block pollable))) = ⊤
LooksAtPollables (Step.Call ctx (GuestCall.Pollable (PollableCall.PollList pollables))) = ⊤
LooksAtPollables _ = ⊥

abbrev pub IsCall : CallKind → Step → Type 0
IsCall OfStreams s = IsStreamCall s
IsCall OfPollables s = LooksAtPollables s

-- of a call that blocks
abbrev pub kind_of : BlockingCall → CallKind
kind_of (blocking.Read input len) = OfStreams
kind_of (blocking.Skip input len) = OfStreams
kind_of (blocking.Write output rest) = OfStreams
kind_of (blocking.Finish output) = OfStreams
kind_of (blocking.Flush output) = OfStreams
kind_of (blocking.Splice to from len) = OfStreams
kind_of (blocking.Block pollable) = OfPollables
kind_of (blocking.Poll pollables) = OfPollables

-- a create of this family, by this context, of the interface
abbrev pub Creates : List WasiSocketsCtx → WasiSocketsCtx → SocketAddressFamily → Interface → Step → Type 0
Creates contexts ctx family face (Step.Call n (GuestCall.Tcp (TcpCall.Create f))) = (context_at contexts n ≡ ctx) × (f ≡ family) × (face ≡ P2)
Creates contexts ctx family face (Step.Call n (GuestCall.P3Tcp (P3TcpCall.Create f))) = (context_at contexts n ≡ ctx) × (f ≡ family) × (face ≡ P3)
Creates contexts ctx family face _ = ⊥

-- the same of a UDP socket
abbrev pub CreatesUdp : List WasiSocketsCtx → WasiSocketsCtx → SocketAddressFamily → Interface → Step → Type 0
CreatesUdp contexts ctx family face (Step.Call n (GuestCall.Udp (UdpCall.Create f))) = (context_at contexts n ≡ ctx) × (f ≡ family) × (face ≡ P2)
CreatesUdp contexts ctx family face (Step.Call n (GuestCall.P3Udp (P3UdpCall.Create f))) = (context_at contexts n ≡ ctx) × (f ≡ family) × (face ≡ P3)
CreatesUdp contexts ctx family face _ = ⊥

-- a create of a UDP socket of the interface
abbrev pub MakesUdpFor : Interface → Step → Type 0
MakesUdpFor face (Step.Call n (GuestCall.Udp (UdpCall.Create f))) = face ≡ P2
MakesUdpFor face (Step.Call n (GuestCall.P3Udp (P3UdpCall.Create f))) = face ≡ P3
MakesUdpFor face _ = ⊥

-- a listen whose listener gets a handle under this one, or gets none
abbrev pub ListensFor : Option ℕ → Step → Type 0
ListensFor None (Step.Call n (GuestCall.Tcp (TcpCall.StartListen s))) = ⊤
ListensFor (Some handle) (Step.Call n (GuestCall.P3Tcp (P3TcpCall.Listen s))) = s ≡ handle
ListensFor marks _ = ⊥

-- the line listens, and its listener gets a handle
abbrev pub ListensForHandle : Made → Type 0
ListensForHandle (ToListen n (Some handle) place) = ⊤
ListensForHandle _ = ⊥

-- the handle that a listener is made under is that of the record's socket
abbrev pub IsMadeUnder : HandleTable → Option ℕ → ℕ → Type 0
IsMadeUnder t None place = ⊤
IsMadeUnder t (Some handle) place = kind_at t handle ≡ Some (Tcp3 place)

-- why a create goes on for an interface: the line began it, or it is the pending call
pub data CreateIsFor (line : ℕ) (origin : Step) (standing : Option Standing) (place : ℕ) (face : Interface) (side : OpId) : Type 0 where
  Begun : MakesUdpFor face origin → side ≡ own_of line → CreateIsFor line origin standing place face side
  Recalled : (ids : Ids) → standing ≡ Some (standing_as ids (StandingCall.UdpCreate place face)) → CreateIsFor line origin standing place face side

-- a lookup of this host, by a context that may look names up
abbrev pub LooksUp : List WasiSocketsCtx → List ℕ → Step → Type 0
LooksUp contexts host (Step.Call n (GuestCall.Names (NameCall.Resolve network name))) = ((context_at contexts n).ip_name_lookup ≡ true) × (name_is name ≡ Some (Domain host))
LooksUp contexts host (Step.Call n (GuestCall.P3Names (P3NameCall.Resolve name))) = ((context_at contexts n).ip_name_lookup ≡ true) × (name_is name ≡ Some (Domain host))
LooksUp contexts host _ = ⊥

-- The handle is that of the record's socket, whose streams are there; it is no accept's.
pub record IsOpened (h : Here) (handle place : ℕ) : Type 0 where
  pub past : h.made ≡ Past
  pub socket : kind_at h.machine.table handle ≡ Some (Tcp2 place)
  pub streams : IsSome (streams_in (tcp2_at h.machine.store.records place))

-- A handle of 0.2 is of the record, where alone a connect is finished.
pub record IsOfOld (h : Here) (place : ℕ) : Type 0 where
  pub handle : ℕ
  pub socket : kind_at h.machine.table handle ≡ Some (Tcp2 place)

-- a handle that the line may mark, with its parent and its network socket
pub data Marks (origin : Step) (h : Here) : Kind → Option ℕ → Option OpId → Type 0 where
  ANetwork : (c : ℕ) → origin ≡ Step.Call c (GuestCall.Names NameCall.Network) → Marks origin h Network None None
  AStream : (c handle place : ℕ) (kind : Kind) → origin ≡ Step.Call c (GuestCall.Tcp (TcpCall.FinishConnect handle)) → (kind ≡ Input place) ⊎ (kind ≡ Output place) → IsOpened h handle place → Marks origin h kind (Some handle) (side_at (tcp2_at h.machine.store.records place))
  AnAcceptedStream : (c listener handle place : ℕ) (kind : Kind) (r : TcpRecord) → origin ≡ Step.Call c (GuestCall.Tcp (TcpCall.Accept listener)) → (kind ≡ Input place) ⊎ (kind ≡ Output place) → h.made ≡ Marked handle place → h.own ≡ Used → Found h place r → Marks origin h kind (Some handle) (side_at (tcp2_at h.machine.store.records place))
  APollable : (c handle : ℕ) (w : Watched) → origin ≡ Step.Call c (GuestCall.Pollable (PollableCall.Subscribe handle)) → tcp_place w ≡ Some (place_in w) → record_of (kind_at h.machine.table handle) ≡ Some (place_in w) → watched_by (kind_at h.machine.table handle) ≡ Some w → Marks origin h (Pollable w) (Some handle) (side_at (tcp2_at h.machine.store.records (place_in w)))
  AUdpPollable : (c handle : ℕ) (w : Watched) → origin ≡ Step.Call c (GuestCall.Pollable (PollableCall.Subscribe handle)) → udp_place w ≡ Some (place_in w) → udp_record_of (kind_at h.machine.table handle) ≡ Some (place_in w) → watched_by (kind_at h.machine.table handle) ≡ Some w → Marks origin h (Pollable w) (Some handle) (udp_side_at (udp2_at h.machine.store.records (place_in w)))
  ALookup : (c network place : ℕ) (name : List ℕ) → origin ≡ Step.Call c (GuestCall.Names (NameCall.Resolve network name)) → is_some (lookup_at h.machine.store.records place) ≡ true → h.made ≡ Numbered place h.machine.table.next → Marks origin h (Lookup place) (Some network) None
  ALookupPollable : (c handle place : ℕ) → origin ≡ Step.Call c (GuestCall.Pollable (PollableCall.Subscribe handle)) → kind_at h.machine.table handle ≡ Some (Lookup place) → Marks origin h (Pollable (Watched.Lookup place)) (Some handle) None
  APlain : (kind : Kind) → MakesPlain origin kind → IsNumbered h kind → Marks origin h kind None None
  APlainPollable : (c handle : ℕ) → origin ≡ Step.Call c (GuestCall.Pollable (PollableCall.Subscribe handle)) → watched_by (kind_at h.machine.table handle) ≡ Some Watched.Plain → Marks origin h (Pollable Watched.Plain) (Some handle) None
  AnEnd : (socket place : ℕ) (kind : Kind) (end : ConnectionEnd) (r : TcpRecord) → MakesEnd socket kind origin → end_in kind ≡ Some end → kind_at h.machine.table socket ≡ Some (Tcp3 place) → Found h place r → IsEndAt place end → h.made ≡ ToResult end.slot → Marks origin h kind (Some socket) (side_at (tcp2_at h.machine.store.records place))
