-- What the calls of a step may miss: a handle that isn't live, or is of something else, or whose record isn't there; and which steps
-- make handles and write.
use Rattle.std.specs.Prelude.{◌≡◌, ◌⊎◌, ⊤, ℕ, false, List, [], ◌∷◌, Option, Some, None, IsSomeAnd}
use Rattle.memory_streams.specs.Plain.{Contents}
use Rattle.host_store.specs.declared.store.BlockingCall.{BlockingCall}
use Rattle.host_store.specs.declared.store.BlockingCall.TheVariants as blocking
use Rattle.host_store.specs.declared.kind.PlainInput.{PlainInput}
use Rattle.host_store.specs.declared.kind.PlainInput.TheVariants as plain_input
use Rattle.host_store.specs.declared.kind.PlainOutput.{PlainOutput}
use Rattle.host_store.specs.declared.kind.PlainOutput.TheVariants as plain_output
use Rattle.host_store.specs.declared.kind.Watched.{Watched}
use Rattle.host_store.specs.declared.kind.Watched.TheVariants as watched
use Rattle.host_store.specs.declared.machine.Machine.{Machine}
use Rattle.tcp_records.specs.declared.socket.TcpRecord.{TcpRecord}
use Rattle.host_store.specs.declared.store.StandingCall.{StandingCall}
use Rattle.host_store.specs.declared.store.StandingCall.TheVariants as standing
use Rattle.host_store.specs.Kinds.{kind_at, is_network, is_error, udp_of, tcp3_of, watched_by, watch_of, place_in}
use Rattle.host_store.specs.Lines.{tcp_in}
use Rattle.host_store.specs.Machine.{listen3_at, lookup_number, receive3_at, send3_at, result3_at}
use Rattle.wasi_records.specs.Records.{tcp2_at, udp2_at, open_at, input_pipe_at, output_pipe_at}
use Rattle.host_store.specs.Standing.{call_of, stands_as}
use Rattle.host_store.specs.declared.beside.BesideCall.{BesideCall}
use Rattle.host_store.specs.declared.beside.BesideCall.TheVariants.{Connect, Resolve, Send, Receive}
use Rattle.host_store.specs.Beside.{beside_of}
use Rattle.host_streams.specs.StreamCalls.{plain_input_at, plain_output_at}
use Rattle.wasi_p3.specs.Lines as p3
use Rattle.wasi_steps.specs.Steps.{Kind, HandleOf, ALine, ANetwork, ASocket, ASocket3, ADatagramSocket, ADatagramSocket3, AnInput, AnOutput, AnIncoming, AnOutgoing, ALookup, AnError, Watchable, APollable, AListener3, Anything, SomePollables, Value, Values, written_of, AReadEnd3, AWriteEnd3, AResult3}
use Rattle.wasi_p3.specs.Streams.{slot_in}
use Rattle.wasi_steps.specs.declared.step.Step.{Step}
use Rattle.wasi_steps.specs.declared.guest_call.GuestCall.TheVariants as guest
use Rattle.wasi_steps.specs.declared.guest_call.TcpCall.TheVariants as tcp_call
use Rattle.wasi_steps.specs.declared.guest_call.UdpCall.TheVariants as udp_call
use Rattle.wasi_steps.specs.declared.guest_call.NameCall.TheVariants as name_call
use Rattle.wasi_steps.specs.declared.guest_call.StreamCall.TheVariants as stream_call
use Rattle.wasi_steps.specs.declared.guest_call.PipeCall.TheVariants as pipe_call
use Rattle.wasi_steps.specs.declared.guest_call.PollableCall.TheVariants as pollable_call
use Rattle.wasi_steps.specs.declared.guest_call.P3TcpCall.TheVariants as p3_tcp_call
use Rattle.wasi_steps.specs.declared.guest_call.P3UdpCall.TheVariants as p3_udp_call
use Rattle.wasi_steps.specs.declared.step.Step.TheVariants as step
use Rattle.wasi_walks.specs.Answered.{record_at, open_udp_at, incoming_in, outgoing_in, lookup_in, streams_in, input_streams, output_streams}

-- == inputs and outputs
-- the pipe that an input reads, which isn't there; others have none
abbrev pub MissesInputPipe : Machine → Option PlainInput → Type 0
MissesInputPipe m (Some (plain_input.Pipe place)) = input_pipe_at m.store.records place ≡ None
MissesInputPipe m (Some plain_input.Closed) = ⊥
MissesInputPipe m None = ⊤

-- the pipe that an output writes to
abbrev pub pipe_of : Machine → Option PlainOutput → Option Contents
pipe_of m (Some (plain_output.Pipe place)) = output_pipe_at m.store.records place
pipe_of m _ = None

-- it isn't there
abbrev pub MissesOutputPipe : Machine → Option PlainOutput → Type 0
MissesOutputPipe m (Some (plain_output.Pipe place)) = output_pipe_at m.store.records place ≡ None
MissesOutputPipe m (Some plain_output.Sink) = ⊥
MissesOutputPipe m (Some plain_output.Closed) = ⊥
MissesOutputPipe m None = ⊤

-- it is no input, or what it reads from isn't there: a connection's streams, or a pipe
abbrev pub MissesInput : Machine → ℕ → Type 0
MissesInput m h = (input_streams m h ≡ None) × MissesInputPipe m (plain_input_at m h)

abbrev pub MissesOutput : Machine → ℕ → Type 0
MissesOutput m h = (output_streams m h ≡ None) × MissesOutputPipe m (plain_output_at m h)

-- one of the two of a splice
abbrev pub MissesEither : Machine → ℕ → ℕ → Type 0
MissesEither m to from = MissesOutput m to ⊎ MissesInput m from

-- == what a pollable watches
-- what is watched isn't there
abbrev pub MissesRecord : Watched → Option TcpRecord → Type 0
MissesRecord (watched.Socket place) found = found ≡ None
MissesRecord (watched.Input place) found = streams_in found ≡ None
MissesRecord (watched.Output place) found = streams_in found ≡ None
MissesRecord (watched.Udp place) found = ⊥
MissesRecord (watched.Incoming place) found = ⊥
MissesRecord (watched.Outgoing place) found = ⊥
MissesRecord (watched.Lookup place) found = ⊥
MissesRecord watched.Plain found = ⊥

abbrev pub MissesWatched : Machine → Option Watched → Type 0
MissesWatched m None = ⊤
MissesWatched m (Some (watched.Incoming place)) = open_at m.store.records place ≡ None
MissesWatched m (Some w) = MissesRecord w (tcp2_at m.store.records (place_in w))

-- one of these is no pollable's handle, or what it watches isn't there
abbrev pub MissesOneOf : Machine → List ℕ → Type 0
MissesOneOf m [] = ⊥
MissesOneOf m (pollable ∷ pollables) = MissesWatched m (watch_of (kind_at m.table pollable)) ⊎ MissesOneOf m pollables

-- == pending calls
-- the call misses a handle that it is on
abbrev pub MissesStream : Machine → BlockingCall → Type 0
MissesStream m (blocking.Read input len) = MissesInput m input
MissesStream m (blocking.Skip input len) = MissesInput m input
MissesStream m (blocking.Write output rest) = MissesOutput m output
MissesStream m (blocking.Finish output) = MissesOutput m output
MissesStream m (blocking.Flush output) = MissesOutput m output
MissesStream m (blocking.Splice to from len) = MissesEither m to from
MissesStream m (blocking.Block pollable) = MissesWatched m (watch_of (kind_at m.table pollable))
MissesStream m (blocking.Poll pollables) = MissesOneOf m pollables

-- the call is a bind, a listen, a create or a connect of no socket, or a call on a stream or a pollable that isn't there
abbrev pub IsOnNothing : Machine → StandingCall → Type 0
IsOnNothing m (standing.Bind place face) = tcp2_at m.store.records place ≡ None
IsOnNothing m (standing.Listen place None) = tcp2_at m.store.records place ≡ None
IsOnNothing m (standing.Listen place (Some handle)) = (tcp2_at m.store.records place ≡ None) ⊎ (tcp3_of (kind_at m.table handle) ≡ None)
IsOnNothing m (standing.DropOutput place) = ⊥
IsOnNothing m (standing.UdpCreate place face) = udp2_at m.store.records place ≡ None
IsOnNothing m (standing.UdpBind place face) = open_at m.store.records place ≡ None
IsOnNothing m (standing.UdpConnect3 place) = open_at m.store.records place ≡ None
IsOnNothing m (standing.UdpConnect place handle) = (open_at m.store.records place ≡ None) ⊎ (udp_of (kind_at m.table handle) ≡ None)
IsOnNothing m (standing.DropOutgoing place) = ⊥
IsOnNothing m (standing.Blocking call) = MissesStream m call

-- a call that stands beside others is a connect of no socket: that one was dropped
abbrev pub IsOfNoSocket : Machine → BesideCall → Type 0
IsOfNoSocket m (Connect place) = tcp2_at m.store.records place ≡ None
IsOfNoSocket m (Resolve host) = ⊥
IsOfNoSocket m (Send place op) = open_at m.store.records place ≡ None
IsOfNoSocket m (Receive place op) = open_at m.store.records place ≡ None

abbrev pub BesideNothing : Machine → ℕ → Type 0
BesideNothing m n = (stands_as m.store.standing n ≡ false) × IsSomeAnd (beside_of m.store n) (λ b. IsOfNoSocket m b.call)

-- the exclusive call under this number is a bind, a listen, a create or a connect of no socket, or a call on no stream or no pollable
abbrev pub ExclusiveOnNothing : Machine → ℕ → Type 0
ExclusiveOnNothing m n = IsSomeAnd (call_of m.store.standing n) (λ s. IsOnNothing m s.call)

-- the pending call under this number is of nothing
abbrev pub StandsOnNothing : Machine → ℕ → Type 0
StandsOnNothing m n = ExclusiveOnNothing m n ⊎ BesideNothing m n

-- == traps
-- an argument misses what it names: a handle that isn't live, or is of something else; or the call of a line that is on nothing
abbrev pub MissesValue : Machine → (kind : Kind) → Value kind → Type 0
MissesValue m (HandleOf ANetwork) h = is_network (kind_at m.table h) ≡ false
MissesValue m (HandleOf ASocket) h = record_at m h ≡ None
MissesValue m (HandleOf ASocket3) h = p3.tcp_of m h ≡ None
MissesValue m (HandleOf ADatagramSocket) h = open_udp_at m h ≡ None
MissesValue m (HandleOf ADatagramSocket3) h = p3.udp_of m h ≡ None
MissesValue m (HandleOf AReadEnd3) h = receive3_at m h ≡ None
MissesValue m (HandleOf AWriteEnd3) h = send3_at m h ≡ None
MissesValue m (HandleOf AResult3) h = slot_in m (result3_at m h) ≡ None
MissesValue m (HandleOf AnIncoming) h = incoming_in m h ≡ None
MissesValue m (HandleOf AnOutgoing) h = outgoing_in m h ≡ None
MissesValue m (HandleOf AnInput) h = MissesInput m h
MissesValue m (HandleOf AnOutput) h = MissesOutput m h
MissesValue m (HandleOf ALookup) h = lookup_in m (lookup_number m h) ≡ None
MissesValue m (HandleOf AnError) h = is_error (kind_at m.table h) ≡ false
MissesValue m (HandleOf Watchable) h = watched_by (kind_at m.table h) ≡ None
MissesValue m (HandleOf AListener3) h = tcp_in m (listen3_at m h) ≡ None
MissesValue m (HandleOf APollable) h = MissesWatched m (watch_of (kind_at m.table h))
MissesValue m (HandleOf Anything) h = kind_at m.table h ≡ None
MissesValue m SomePollables handles = MissesOneOf m handles
MissesValue m ALine n = StandsOnNothing m n
MissesValue m _ value = ⊥

abbrev pub MissesFirst : Machine → (kinds : List Kind) → Values kinds → Type 0
MissesFirst m [] values = ⊥
MissesFirst m (kind ∷ kinds) values = MissesValue m kind values.0

-- a handle of the step isn't live, or is of another kind; it is the first argument, or one of several pollables, and that of a network
-- or of an input beside it; a pipe's contents are told of a pipe alone; and a cancel asks for no handle
abbrev pub MissesHandle : Machine → Step → Type 0
MissesHandle m (step.Call ctx (guest.Tcp (tcp_call.StartBind socket network a))) = (is_network (kind_at m.table network) ≡ false) ⊎ (record_at m socket ≡ None)
MissesHandle m (step.Call ctx (guest.Tcp (tcp_call.StartConnect socket network a))) = (is_network (kind_at m.table network) ≡ false) ⊎ (record_at m socket ≡ None)
MissesHandle m (step.Call ctx (guest.Udp (udp_call.StartBind socket network a))) = (is_network (kind_at m.table network) ≡ false) ⊎ (open_udp_at m socket ≡ None)
MissesHandle m (step.Call ctx (guest.Stream (stream_call.Splice to from len))) = MissesEither m to from
MissesHandle m (step.Call ctx (guest.Stream (stream_call.BlockingSplice to from len))) = MissesEither m to from
MissesHandle m (step.Call ctx (guest.Pipe (pipe_call.Contents output))) = pipe_of m (plain_output_at m output) ≡ None
MissesHandle m (step.Cancel n) = ⊥
MissesHandle m s = MissesFirst m (written_of s).kinds (written_of s).values

-- the step makes a handle, the two of a connection's streams or of a UDP socket's, those of an accepted connection, or the one of a
-- stream's error or of a lookup; a poll makes that of a create or of a stream's error, or those of datagram streams
abbrev pub MakesHandle : Step → Type 0
MakesHandle (step.Call ctx (guest.Names name_call.Network)) = ⊤
MakesHandle (step.Call ctx (guest.Tcp (tcp_call.Create family))) = ⊤
MakesHandle (step.Call ctx (guest.P3Tcp (p3_tcp_call.Create family))) = ⊤
MakesHandle (step.Call ctx (guest.P3Tcp (p3_tcp_call.Send socket))) = ⊤
MakesHandle (step.Call ctx (guest.P3Tcp (p3_tcp_call.Receive socket))) = ⊤
MakesHandle (step.Call ctx (guest.Udp (udp_call.Create family))) = ⊤
MakesHandle (step.Call ctx (guest.P3Udp (p3_udp_call.Create family))) = ⊤
MakesHandle (step.Call ctx (guest.Udp (udp_call.Stream socket remote))) = ⊤
MakesHandle (step.Call ctx (guest.Tcp (tcp_call.FinishConnect socket))) = ⊤
MakesHandle (step.Call ctx (guest.Tcp (tcp_call.Accept socket))) = ⊤
MakesHandle (step.Call ctx (guest.P3Tcp (p3_tcp_call.Listen socket))) = ⊤
MakesHandle (step.Call ctx (guest.P3Tcp (p3_tcp_call.Accept listener remaining))) = ⊤
MakesHandle (step.Call ctx (guest.Names (name_call.Resolve network name))) = ⊤
MakesHandle (step.Call ctx (guest.Pipe (pipe_call.In bytes))) = ⊤
MakesHandle (step.Call ctx (guest.Pipe (pipe_call.Out capacity))) = ⊤
MakesHandle (step.Call ctx (guest.Pipe pipe_call.Sink)) = ⊤
MakesHandle (step.Call ctx (guest.Pipe pipe_call.ClosedIn)) = ⊤
MakesHandle (step.Call ctx (guest.Pipe pipe_call.ClosedOut)) = ⊤
MakesHandle (step.Call ctx (guest.Stream (stream_call.Read input len))) = ⊤
MakesHandle (step.Call ctx (guest.Stream (stream_call.Skip input len))) = ⊤
MakesHandle (step.Call ctx (guest.Stream (stream_call.CheckWrite output))) = ⊤
MakesHandle (step.Call ctx (guest.Stream (stream_call.Write output bytes))) = ⊤
MakesHandle (step.Call ctx (guest.Stream (stream_call.WriteZeroes output len))) = ⊤
MakesHandle (step.Call ctx (guest.Stream (stream_call.Flush output))) = ⊤
MakesHandle (step.Call ctx (guest.Stream (stream_call.Splice to from len))) = ⊤
MakesHandle (step.Call ctx (guest.Stream (stream_call.BlockingRead input len))) = ⊤
MakesHandle (step.Call ctx (guest.Stream (stream_call.BlockingSkip input len))) = ⊤
MakesHandle (step.Call ctx (guest.Stream (stream_call.BlockingWrite output bytes))) = ⊤
MakesHandle (step.Call ctx (guest.Stream (stream_call.BlockingZeroes output len))) = ⊤
MakesHandle (step.Call ctx (guest.Stream (stream_call.BlockingFlush output))) = ⊤
MakesHandle (step.Call ctx (guest.Stream (stream_call.BlockingSplice to from len))) = ⊤
MakesHandle (step.Call ctx (guest.Pollable (pollable_call.Subscribe handle))) = ⊤
MakesHandle (step.Poll n) = ⊤
MakesHandle _ = ⊥

abbrev pub IsWrite : Step → Type 0
IsWrite (step.Call ctx (guest.Stream (stream_call.Write output bytes))) = ⊤
IsWrite (step.Call ctx (guest.Stream (stream_call.WriteZeroes output len))) = ⊤
IsWrite _ = ⊥
