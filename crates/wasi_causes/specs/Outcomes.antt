-- How each step is answered: which replies it may give; and by the kind of its reply, where that comes from, and what is left
-- afterwards.
pub use Rattle.wasi_causes.specs.MayAnswer.{AreLike, EachMayAnswer, IsBlockingWrite, IsCodeWord, IsP3Word, IsStreamCall, MayMiss, MayRefuse, MayTrap, MayWait, may_answer}
pub use Rattle.wasi_causes.specs.Plain.{Quiet}
use Rattle.wasi_records.specs.Records.{input_pipe_at, output_pipe_at, tcp2_at, open_at, lookup_at}
use Rattle.std.specs.Prelude.{IsSome}
use Rattle.wasi_walks.specs.Answered.{streams_in}
use Rattle.wasi_addr.specs.declared.address.ShutdownType.TheVariants.{Receive, Send}
use Rattle.wasi_addr.specs.declared.address.SocketAddressFamily.{SocketAddressFamily}
use Rattle.std.specs.Prelude.{IfSome}
use Rattle.wasi_world.specs.declared.ids.Ids.{Ids}
use Rattle.memory_streams.specs.Plain.{no_contents}
use Rattle.wasi_streams.specs.Streams.{zeros}
use Rattle.host_store.specs.declared.store.BlockingCall.{BlockingCall}
use Rattle.host_store.specs.declared.store.BlockingCall.TheVariants as blocking
use Rattle.host_store.specs.declared.kind.PlainInput.TheVariants as input
use Rattle.host_store.specs.declared.kind.PlainOutput.TheVariants as output
use Rattle.wasi_records.specs.declared.records.Record.TheVariants.{InputPipe, OutputPipe}
use Rattle.host_store.specs.declared.store.StandingCall.TheVariants as standing
use Rattle.host_store.specs.Kinds.{is_readable, kind_at, is_network, watched_by, with_handle, without_handle}
use Rattle.host_streams.specs.PlainStreams.{with_record_more}
use Rattle.host_store.specs.Beside.{beside_of, stands_under}
use Rattle.host_store.specs.Standing.{standing_as, stands_as}
use Rattle.host_streams.specs.StreamCalls.{plain_output_at}
use Rattle.wasi_steps.specs.Reply.{bytes_fields}
use Rattle.wasi_walks.specs.Answered.{Answered}
use Rattle.wasi_walks.specs.Missing.{MissesInput, MissesHandle, MakesHandle, IsWrite}
use Rattle.wasi_walks.specs.Waiting.{nothing_stands}
use Rattle.wasi_causes.specs.Blocking.{BeginsToWrite, BlockingCallStands, BlocksAs, IsShort, StreamCallStands}
use Rattle.wasi_causes.specs.Cancelled.{CancelsBy, IsCancel}
use Rattle.wasi_causes.specs.Failed.{FailureLeaves}
use Rattle.wasi_causes.specs.MayAnswer.{AreLike, IsBlockingWrite, IsCodeWord, IsStreamCall, MayRefuse}
use Rattle.wasi_causes.specs.Parts.{Skips, Splices}
use Rattle.wasi_causes.specs.PollableCalls.{BeginsToWait, BlocksOn, IsEmptyWait, WatchedAreThere}
use Rattle.wasi_host.specs.declared.polling.Look.TheVariants.{First}
use Rattle.wasi_causes.specs.Plain.{EndsCheck, EndsOutput, EndsPlain, MakesPlain, OfOutputPipe, PastCapacity, PermitsPlain, PlainCheck, PlainFlush, PlainRead, PlainWrite, TakesFront, TakesNothing, WatchesPlain, WritesPlain}
use Rattle.wasi_world.specs.declared.outcome.TrapKind.TheVariants.{Capacity, EmptyList, TooLong}
use Rattle.std.specs.Prelude.{◌≡◌, ◌⊎◌, ⊤, ℕ, ◌+◌, ◌<◌, Bool, true, List, [], ◌∷◌, ◌↔◌, false, length, Some, None, IsSomeAnd}
use Rattle.wasi_world.specs.declared.outcome.TrapKind.{TrapKind}
use Rattle.wasi_world.specs.declared.outcome.TrapKind.TheVariants.{NoSuchHandle, HasChildren, Full, NotPermitted, StreamsAlive}
use Rattle.wasi_steps.specs.declared.reply.CodeWord.{CodeWord}
use Rattle.wasi_steps.specs.declared.reply.CodeWord.TheVariants as word
use Rattle.wasi_steps.specs.declared.reply.Field.{Field}
use Rattle.wasi_steps.specs.declared.reply.Field.TheVariants as field
use Rattle.wasi_steps.specs.declared.reply.Reply.{Reply}
use Rattle.wasi_steps.specs.declared.reply.Reply.TheVariants as reply
use Rattle.wasi_steps.specs.declared.step.Step.{Step}
use Rattle.wasi_steps.specs.declared.guest_call.GuestCall.TheVariants as guest
use Rattle.wasi_steps.specs.declared.guest_call.TcpCall.TheVariants as tcp_call
use Rattle.wasi_steps.specs.declared.guest_call.UdpCall.TheVariants as udp_call
use Rattle.wasi_steps.specs.declared.guest_call.NameCall.TheVariants as name_call
use Rattle.wasi_steps.specs.declared.guest_call.StreamCall.TheVariants as stream_call
use Rattle.wasi_steps.specs.declared.guest_call.PipeCall.TheVariants as pipe_call
use Rattle.wasi_steps.specs.declared.guest_call.PollableCall.TheVariants as pollable_call
use Rattle.wasi_steps.specs.declared.guest_call.P3TcpCall.TheVariants as p3_tcp_call
use Rattle.wasi_steps.specs.declared.guest_call.P3UdpCall.TheVariants as p3_udp_call
use Rattle.wasi_steps.specs.declared.guest_call.P3NameCall.TheVariants as p3_name_call
use Rattle.wasi_steps.specs.declared.step.Step.TheVariants as step
use Rattle.wasi_walks.specs.Answered.{open_udp_at, outgoing_in, CheckFails, closing_reader, closing_writer, ConnectsAt, EndsPending, FailsWith, FinishRefusal, HasNoBindInProgress, HasNoConnectInProgress, HasOperationInProgress, KnowsBound, IsGivenUp, IsUnpermitted, OfRecord, OfStreams, output_streams, Permits, putting, ReadFails, ReadsEnd, ReadsNone, ReadsTold, record_at, RefusedBind, RefusedConnect, RefusedOf, WasClosedWith, with_error, WriteFails}
use Rattle.wasi_machine.specs.Machine.{first_ids, context_at}
use Rattle.wasi_steps.specs.Replies.{kinds_of}
use Rattle.wasi_steps.specs.Reply.{family_fields, no_fields, number_fields, triple_fields, truth_fields}
use Rattle.wasi_walks.specs.Waiting.{IsPoll, IsUnready, left_missing, MayStand, OfWatched, OutputWaits, pollable_mark, StandingWaits, PendingCallsFit, WatchesAccept, WatchesConnect, WatchesIdle}
use Rattle.wasi_causes.specs.GivenUp.{HasLiveChildren, HasNoStreams, shut_down, shutdown_entries}
use Rattle.wasi_world.specs.declared.call.Call.TheVariants as call
use Rattle.wasi_world.specs.declared.call.Entry.{Entry}
use Rattle.wasi_world.specs.declared.call.Told.TheVariants as told
use Rattle.wasi_world.specs.declared.outcome.WasiSocketsCtx.{WasiSocketsCtx}
use Rattle.wasi_table.specs.Table.{is_full}
use Rattle.wasi_tcp.specs.declared.writer.WriteError.TheVariants as error
use Rattle.wasi_tcp.specs.Socket.{new_socket}
use Rattle.lookup_records.specs.declared.name_lookup.Lookup.{Lookup}
use Rattle.host_lookups.specs.NameLookupCalls.{lookup_ready}
use Rattle.host_store.specs.declared.kind.Kind.TheVariants as kind
use Rattle.host_store.specs.declared.machine.Machine.{Machine}
use Rattle.host_store.specs.Machine.{incoming_at, input_at, outgoing_at, output_at, own_of, receive3_at, result3_at, send3_at, socket_at, udp_socket_at}
use Rattle.host_tcp.specs.Creates.{with_room}
use Rattle.tcp_records.specs.Shutdowns.{with_streams}
use Rattle.host_store.specs.Limits.{most_of}
use Rattle.host_store.specs.Store.{with_record}
use Rattle.wasi_walks.specs.Licence.{entry, Has, marks_in}
use Rattle.wasi_walks.specs.Listens.{AcceptsAt, closed_by_listen, AcceptTakes, HasNoListenInProgress, RefusedAccept, RefusedListen}
use Rattle.wasi_steps.specs.Settings.{chosen, udp_opt}
use Rattle.wasi_causes.specs.P3Datagrams.{P3ReceiveRefusal, P3SendRefusal, ReceivesOne, ReceiveStands, SendsOne, SendStands}
use Rattle.wasi_causes.specs.P3Lookups.{FindsAddresses, LookupStands}
use Rattle.wasi_causes.specs.Lookups.{found_lookup, HandsOut, LookedOn, LookupWaits, LosesLookup, OfLookup, RefusesNames, ResolveRefusal, Resolves, TellsNext, WatchesLookup}
use Rattle.wasi_causes.specs.Options.{GetsOption, P3RefusedGet, P3RefusedSet, RefusedGet, RefusedSet, SetsChosen}
use Rattle.wasi_causes.specs.Refusals.{CreateRefusal, KnowsTcp3Bound, LocalRefusal, OfTcp3, P3CreateRefusal, P3LocalRefusal, P3RemoteRefusal, RemoteRefusal}
use Rattle.wasi_causes.specs.Reached.{FinishesAt, ListensLateAt}
use Rattle.wasi_causes.specs.Turns.{IsOfJob}
use Rattle.host_udp.specs.DatagramCalls.{outgoing_ready}
use Rattle.record_common.specs.Names.{next_name}
use Rattle.wasi_causes.specs.SendCauses.{ReceivesSome, SendsSome, UdpReceiveRefusal, UdpSendRefusal}
use Rattle.wasi_causes.specs.StreamCauses.{HasNewStreams, MakesStreams, UdpStreamRefusal, StreamsStand}
use Rattle.wasi_causes.specs.Datagrams.{IsUdpSend, IsUdpStream, HasUdpStreams, IsSpent, OfIncoming, OfOutgoing, LacksRoomForBoth, MadeBoth, PermitsSend, PendingHandleIsLive, LacksRoomForStreams, IsReceiving, WatchesDatagrams, WatchesIncoming, WatchesOutgoing, OutgoingWaits}
use Rattle.wasi_causes.specs.P3Connects.{BesideCancelled, BesideGives, BesidePolled, ConnectStands, Connects, IsBeside, P3ConnectRefusal}
use Rattle.wasi_causes.specs.P3Binds as binds
use Rattle.wasi_causes.specs.P3Binds.{BindStands, Binds, P3BindRefusal, P3UdpBindRefusal}
use Rattle.wasi_causes.specs.P3UdpConnects.{ConnectsUdp, UdpConnectRefusal, UdpConnectStands}
use Rattle.wasi_causes.specs.Gone.{AsksOnce, Gone}
use Rattle.wasi_causes.specs.P3Listens.{AcceptGave, AcceptRefusal, ByListener, Listens, ListenStands, ListensUnnamed, NoneCame, OfListener, P3ListenRefusal, TakesUnnamed}
use Rattle.wasi_causes.specs.P3Streams.{EndReads, EndWrites, GivesUp, IsEndPoll, IsResultStep, IsUnfilled, LacksRoomForEnd, MakesEnd, OfEnd, ReadEnds, ReadGivesUp, TakesOut, WentIll, WentWell, WriteEnds, WriteGivesUp}
use Rattle.wasi_causes.specs.P3Udp.{Disconnects, KnowsUdp3Bound, OfUdp3, P3DisconnectRefusal, P3UdpCreateRefusal, P3UdpGetRefusal, P3UdpLocalRefusal, P3UdpSetRefusal}
use Rattle.host_store.specs.declared.kind.Interface.TheVariants.{P3}
use Rattle.wasi_causes.specs.Udp.{OfUdp, RefusedOfUdp, HasUdpInProgress, HasNoUdpBind, KeepsNoRemote, WatchesUdp, udp_create_entry, writable_entry, with_udp_record, new_udp, UdpCreateRefusal, CreatesUdp, CreatesUdpFor, CreateStands, CreateStandsFor, KnowsUdpBound, UdpBindRefusal, BindsUdp, UdpBindStands, FinishesUdpBind, UdpLocalRefusal, TellsUdpLocal, TellsUdpRemote, UdpGetRefusal, GetsUdpOption, UdpSetRefusal, SetsUdpOption, GivesBy, MakesOneHandle}

-- == what holds whatever the reply is
-- a start is refused so exactly where an operation is in progress
abbrev pub Conflicts : Machine → ℕ → Reply → Type 0
Conflicts m handle r = (r ≡ reply.Err word.ConcurrencyConflict) ↔ HasOperationInProgress (record_at m handle)

-- and so is that of a UDP socket
abbrev pub UdpConflicts : Machine → ℕ → Reply → Type 0
UdpConflicts m handle r = (r ≡ reply.Err word.ConcurrencyConflict) ↔ HasUdpInProgress (open_udp_at m handle)

-- only where this is allowed anything is asked, or left
abbrev pub OnlyWhere : Bool → Machine → List Entry → Machine → Type 0
OnlyWhere allowed m es after = allowed ≡ false → Quiet m es after

-- it is ready, and nothing was asked
abbrev pub ReadyAtOnce : Machine → List Entry → Reply → Machine → Type 0
ReadyAtOnce m es r after = (r ≡ reply.Ok (truth_fields true)) × Quiet m es after

-- What a turn leaves: the handles and the pending call as they were, each lookup as it was or as it was told, each pipe as it was, each
-- socket, and the streams of each connection that has them; and who asks in it.
pub record Turns (m : Machine) (es : List Entry) (r : Reply) (after : Machine) : Type 0 where
  pub ok : r ≡ reply.Ok no_fields
  pub asked : (e : Entry) → Has es e → IsOfJob m e.op
  pub handles : after.table ≡ m.table
  pub pending : after.store.standing ≡ m.store.standing
  pub lookups : (place : ℕ) (l : Lookup) → lookup_at after.store.records place ≡ Some l → LookedOn m place es l
  pub sockets : (place : ℕ) → IsSome (tcp2_at m.store.records place) → IsSome (tcp2_at after.store.records place)
  pub opens : (place : ℕ) → IsSome (open_at m.store.records place) → IsSome (open_at after.store.records place)
  pub streams : (place : ℕ) → IsSome (streams_in (tcp2_at m.store.records place)) → IsSome (streams_in (tcp2_at after.store.records place))
  pub pipes : (place : ℕ) → (input_pipe_at after.store.records place ≡ input_pipe_at m.store.records place) × (output_pipe_at after.store.records place ≡ output_pipe_at m.store.records place)

-- a poll of a call that blocks continues it
abbrev pub BlockedGoesOn : List WasiSocketsCtx → Machine → ℕ → List Entry → Reply → Machine → Type 0
BlockedGoesOn contexts m n es r after = (c : ℕ) (ids : Ids) (call : BlockingCall) → m.store.standing ≡ Some (standing_as ids (standing.Blocking call)) → ids.line ≡ n → IsShort call → BlocksAs contexts (nothing_stands m) c ids call es r after

-- a cancel finds no call exactly where none is pending under its number, and is done exactly where one is; one that stands beside
-- others is given up then
abbrev pub Cancels : Machine → ℕ → List Entry → Reply → Machine → Type 0
Cancels m n es r after = ((r ≡ reply.NoSuchCall) ↔ (stands_under m.store n ≡ false)) × ((r ≡ reply.Ok no_fields) ↔ (stands_under m.store n ≡ true)) × (IsBeside m n → BesideCancelled m n es after)

-- one reply comes of this and of nothing else; or some of these things stay
abbrev pub Always : List WasiSocketsCtx → Machine → ℕ → Step → List Entry → Reply → Machine → Type 0
Always contexts m line (step.Call c (guest.Tcp (tcp_call.Create family))) es r after = let ctx = context_at contexts c in OnlyWhere ctx.tcp (with_room m ctx) es after
Always contexts m line (step.Call c (guest.Tcp (tcp_call.StartBind s n a))) es r after = is_network (kind_at m.table n) ≡ true → Conflicts m s r
Always contexts m line (step.Call c (guest.Tcp (tcp_call.FinishBind s))) es r after = (es ≡ []) × ((r ≡ reply.Err word.NotInProgress) ↔ HasNoBindInProgress (record_at m s))
Always contexts m line (step.Call c (guest.Tcp (tcp_call.StartConnect s n a))) es r after = is_network (kind_at m.table n) ≡ true → Conflicts m s r
Always contexts m line (step.Call c (guest.Tcp (tcp_call.FinishConnect s))) es r after = (r ≡ reply.Err word.NotInProgress) ↔ HasNoConnectInProgress (record_at m s)
Always contexts m line (step.Call c (guest.Tcp (tcp_call.StartListen s))) es r after = Conflicts m s r
Always contexts m line (step.Call c (guest.Tcp (tcp_call.FinishListen s))) es r after = (es ≡ []) × ((r ≡ reply.Err word.NotInProgress) ↔ HasNoListenInProgress (record_at m s))
Always contexts m line (step.Call c (guest.Tcp (tcp_call.IsListening s))) es r after = Quiet m es after
Always contexts m line (step.Call c (guest.Tcp (tcp_call.AddressFamily s))) es r after = Quiet m es after
Always contexts m line (step.Call c (guest.Tcp (tcp_call.Get s option))) es r after = after ≡ m
Always contexts m line (step.Call c (guest.Pipe (pipe_call.Contents output))) es r after = Quiet m es after
Always contexts m line (step.Call c (guest.Stream (stream_call.Read input len))) es r after = PlainRead m input es r
Always contexts m line (step.Call c (guest.Stream (stream_call.Skip input len))) es r after = m.store.standing ≡ None → Skips contexts m line c input len es r after
Always contexts m line (step.Call c (guest.Stream (stream_call.CheckWrite output))) es r after = PlainCheck m output es r after
Always contexts m line (step.Call c (guest.Stream (stream_call.Write output bytes))) es r after = ((r ≡ reply.Trap NotPermitted) ↔ IsSomeAnd (output_streams m output) (λ s. IsUnpermitted s.writer (length bytes))) × PastCapacity m output (length bytes) r × PlainWrite m output es r
Always contexts m line (step.Call c (guest.Stream (stream_call.WriteZeroes output len))) es r after = m.store.standing ≡ None → Answered contexts m line (step.Call c (guest.Stream (stream_call.Write output (zeros len)))) es r after
Always contexts m line (step.Call c (guest.Stream (stream_call.Flush output))) es r after = PlainFlush m output es r after
Always contexts m line (step.Call c (guest.Stream (stream_call.Splice to from len))) es r after = m.store.standing ≡ None → Splices contexts m line c to from len es r after
Always contexts m line (step.Call c (guest.Stream (stream_call.BlockingRead input len))) es r after = m.store.standing ≡ None → BlocksAs contexts m c (first_ids line) (blocking.Read input len) es r after
Always contexts m line (step.Call c (guest.Stream (stream_call.BlockingSkip input len))) es r after = m.store.standing ≡ None → BlocksAs contexts m c (first_ids line) (blocking.Skip input len) es r after
Always contexts m line (step.Call c (guest.Stream (stream_call.BlockingWrite output bytes))) es r after = m.store.standing ≡ None → BeginsToWrite contexts m c (first_ids line) output (length bytes) bytes es r after
Always contexts m line (step.Call c (guest.Stream (stream_call.BlockingZeroes output len))) es r after = m.store.standing ≡ None → BeginsToWrite contexts m c (first_ids line) output len (zeros len) es r after
Always contexts m line (step.Call c (guest.Stream (stream_call.BlockingFlush output))) es r after = m.store.standing ≡ None → BlocksAs contexts m c (first_ids line) (blocking.Flush output) es r after
Always contexts m line (step.Call c (guest.Stream (stream_call.BlockingSplice to from len))) es r after = m.store.standing ≡ None → BlocksAs contexts m c (first_ids line) (blocking.Splice to from len) es r after
Always contexts m line (step.Call c (guest.Pollable (pollable_call.Block pollable))) es r after = m.store.standing ≡ None → BlocksOn contexts m c (first_ids line) pollable First es r after
Always contexts m line (step.Call c (guest.Pollable (pollable_call.PollList pollables))) es r after = BeginsToWait m line pollables es r after
Always contexts m line (step.Cancel n) es r after = Cancels m n es r after
Always contexts m line (step.Call c (guest.Pollable (pollable_call.Ready p))) es r after = (WatchesIdle m p → ReadyAtOnce m es r after) × (WatchesUdp m p → ReadyAtOnce m es r after) × (WatchesPlain m p → ReadyAtOnce m es r after) × ((place : ℕ) → WatchesOutgoing m p place → (r ≡ reply.Ok (truth_fields (outgoing_ready (open_at m.store.records place)))) × Quiet m es after) × ((place : ℕ) → WatchesIncoming m p place → r ≡ reply.Ok (truth_fields false) → IsReceiving (open_at after.store.records place)) × ((place : ℕ) → WatchesLookup m p place → (r ≡ reply.Ok (truth_fields (lookup_ready (lookup_at m.store.records place)))) × Quiet m es after)
Always contexts m line (step.Call c (guest.Pollable (pollable_call.Drop h))) es r after = ((r ≡ reply.Trap HasChildren) ↔ HasLiveChildren m h) × AsksOnce line (kind_at m.table h) es
Always contexts m line (step.Call c (guest.Tcp (tcp_call.Shutdown s how))) es r after = (r ≡ reply.Err word.InvalidState) ↔ HasNoStreams (record_at m s)
Always contexts m line (step.Call c (guest.Udp (udp_call.Create family))) es r after = OnlyWhere (context_at contexts c).udp m es after
Always contexts m line (step.Call c (guest.Udp (udp_call.StartBind s n a))) es r after = is_network (kind_at m.table n) ≡ true → UdpConflicts m s r
Always contexts m line (step.Call c (guest.Udp (udp_call.FinishBind s))) es r after = (es ≡ []) × ((r ≡ reply.Err word.NotInProgress) ↔ HasNoUdpBind (open_udp_at m s))
Always contexts m line (step.Call c (guest.Udp (udp_call.RemoteAddress s))) es r after = Quiet m es after × ((r ≡ reply.Err word.InvalidState) ↔ KeepsNoRemote (open_udp_at m s))
Always contexts m line (step.Call c (guest.Udp (udp_call.AddressFamily s))) es r after = Quiet m es after
Always contexts m line (step.Call c (guest.Udp (udp_call.Stream s remote))) es r after = ((r ≡ reply.Trap StreamsAlive) ↔ HasUdpStreams (open_udp_at m s)) × (m.store.standing ≡ None → PendingHandleIsLive after)
Always contexts m line (step.Call c (guest.Udp (udp_call.CheckSend s))) es r after = es ≡ []
Always contexts m line (step.Call c (guest.Udp (udp_call.Send s datagrams))) es r after = (r ≡ reply.Trap NotPermitted) ↔ IsSomeAnd (outgoing_in m s) (λ out. out.permit < length datagrams)
Always contexts m line (step.Call c (guest.Udp (udp_call.Get s option))) es r after = after ≡ m
Always contexts m line (step.Call c (guest.Udp (udp_call.Set s setting))) es r after = after ≡ m
Always contexts m line (step.Call c (guest.Names (name_call.Resolve n name))) es r after = OnlyWhere (context_at contexts c).ip_name_lookup m es after × (is_network (kind_at m.table n) ≡ true → RefusesNames (context_at contexts c) name r)
Always contexts m line (step.Call c (guest.Names (name_call.ResolveNext h))) es r after = TellsNext (found_lookup m h) es r
Always contexts m line (step.Call c (guest.Names (name_call.NetworkErrorCode e))) es r after = Quiet m es after
Always contexts m line (step.Call c (guest.P3Tcp (p3_tcp_call.Create family))) es r after = OnlyWhere (context_at contexts c).tcp m es after
Always contexts m line (step.Call c (guest.P3Tcp (p3_tcp_call.IsListening s))) es r after = Quiet m es after
Always contexts m line (step.Call c (guest.P3Tcp (p3_tcp_call.AddressFamily s))) es r after = Quiet m es after
Always contexts m line (step.Call c (guest.P3Tcp (p3_tcp_call.Get s option))) es r after = after ≡ m
Always contexts m line (step.Call c (guest.P3Tcp (p3_tcp_call.Result h))) es r after = (es ≡ []) × ((r ≡ reply.Unfilled) ↔ IsUnfilled m h) × (r ≡ reply.Trap HasChildren → HasLiveChildren m h × IsSome (result3_at m h))
Always contexts m line (step.Call c (guest.P3Udp (p3_udp_call.Create family))) es r after = OnlyWhere (context_at contexts c).udp m es after
Always contexts m line (step.Call c (guest.P3Udp (p3_udp_call.RemoteAddress s))) es r after = Quiet m es after
Always contexts m line (step.Call c (guest.P3Udp (p3_udp_call.AddressFamily s))) es r after = Quiet m es after
Always contexts m line (step.Call c (guest.P3Udp (p3_udp_call.Get s option))) es r after = after ≡ m
Always contexts m line (step.Call c (guest.P3Udp (p3_udp_call.Set s setting))) es r after = after ≡ m
Always contexts m line (step.Call c (guest.P3Names (p3_name_call.Resolve name))) es r after = OnlyWhere (context_at contexts c).ip_name_lookup m es after × RefusesNames (context_at contexts c) name r
Always contexts m line step.Turn es r after = Turns m es r after
Always contexts m line (step.Poll n) es r after = ((r ≡ reply.NoSuchCall) ↔ (stands_under m.store n ≡ false)) × (stands_as m.store.standing n ≡ true → (r ≡ reply.Pending n) ⊎ (after.store.standing ≡ None)) × BlockedGoesOn contexts m n es r after × (IsBeside m n → BesidePolled m n es r after)
Always contexts m line _ es r after = ⊤

-- == done
-- The connection was taken, and its three handles are the next ones.
pub record Accepts (m : Machine) (line handle : ℕ) (es : List Entry) (fields : List Field) (after : Machine) : Type 0 where
  pub numbers : fields ≡ triple_fields m.table.next (m.table.next + 1) (m.table.next + 2)
  pub takes : AcceptsAt m handle → OfRecord m handle (λ place r. AcceptTakes m (own_of line) line handle place r es after)

-- bytes were read, or none; the machine is as it was, but that a pipe has given what was read of it
abbrev pub Reads : Machine → ℕ → ℕ → ℕ → List Entry → List Field → Machine → Type 0
Reads m line input len es (field.Bytes [] ∷ []) after = (OfStreams m (input_at m input) (λ place r s. ReadsNone (own_of line) len s.reader es) × (after ≡ m)) ⊎ TakesNothing m input len es after
Reads m line input len es (field.Bytes (b ∷ bytes) ∷ []) after = (OfStreams m (input_at m input) (λ place r s. ReadsTold (own_of line) len s.reader (b ∷ bytes) es) × (after ≡ m)) ⊎ TakesFront m input len (b ∷ bytes) es after
Reads m line input len es _ after = ⊥

-- so many bytes may be written
abbrev pub Permitted : Machine → ℕ → ℕ → List Entry → List Field → Type 0
Permitted m line output es (field.Number n ∷ []) = OfStreams m (output_at m output) (λ place r s. Permits (own_of line) s.writer (most_of m.store r) n es) ⊎ IsSomeAnd (plain_output_at m output) (λ o. PermitsPlain m o n)
Permitted m line output es _ = ⊥

-- A pollable is made, with the next number, and was marked.
pub record Subscribes (m : Machine) (line handle : ℕ) (es : List Entry) (fields : List Field) (after : Machine) : Type 0 where
  pub number : fields ≡ number_fields m.table.next
  pub marked : IsSomeAnd (watched_by (kind_at m.table handle)) (λ w. es ≡ pollable_mark m (own_of line) handle w ∷ [])
  pub made : IsSomeAnd (watched_by (kind_at m.table handle)) (λ w. after ≡ record m { table = with_handle m.table (kind.Pollable w) (Some handle) })

-- it is ready or it isn't
abbrev pub Looks : Machine → ℕ → ℕ → List Entry → List Field → Type 0
Looks m line pollable es (field.True ∷ []) = ⊤
Looks m line pollable es (field.False ∷ []) = (WatchesDatagrams m pollable → ⊥) → WatchesConnect m pollable → WatchesAccept m pollable → OfWatched m pollable (λ w r. IsUnready (own_of line) r es w) ⊎ LookupWaits m pollable es
Looks m line pollable es _ = ⊥

abbrev pub Done : List WasiSocketsCtx → Machine → ℕ → Step → List Entry → List Field → Machine → Type 0
Done contexts m line (step.Call c (guest.Tcp (tcp_call.Accept s))) es fields after = Accepts m line s es fields after
Done contexts m line (step.Call c (guest.Tcp (tcp_call.Get s option))) es fields after = OfRecord m s (λ place r. GetsOption (own_of line) option r fields es)
Done contexts m line (step.Call c (guest.Tcp (tcp_call.Set s setting))) es fields after = (fields ≡ no_fields) × OfRecord m s (λ place r. SetsChosen m (own_of line) (chosen setting) place r es after)
Done contexts m line (step.Call c (guest.Stream (stream_call.Read input len))) es fields after = Reads m line input len es fields after
Done contexts m line (step.Call c (guest.Stream (stream_call.CheckWrite output))) es fields after = Permitted m line output es fields
Done contexts m line (step.Call c (guest.Stream (stream_call.Write output bytes))) es fields after = IfSome (plain_output_at m output) (λ o. WritesPlain m o bytes after)
Done contexts m line (step.Call c (guest.Stream (stream_call.Flush output))) es fields after = Quiet m es after
Done contexts m line (step.Call c (guest.Pipe (pipe_call.In bytes))) es fields after = MakesPlain m line (kind.PlainInput (input.Pipe (length m.store.records))) (with_record_more m.store (InputPipe bytes)) es fields after
Done contexts m line (step.Call c (guest.Pipe (pipe_call.Out capacity))) es fields after = MakesPlain m line (kind.PlainOutput (output.Pipe (length m.store.records))) (with_record_more m.store (OutputPipe (no_contents capacity))) es fields after
Done contexts m line (step.Call c (guest.Pipe pipe_call.Sink)) es fields after = MakesPlain m line (kind.PlainOutput output.Sink) m.store es fields after
Done contexts m line (step.Call c (guest.Pipe pipe_call.ClosedIn)) es fields after = MakesPlain m line (kind.PlainInput input.Closed) m.store es fields after
Done contexts m line (step.Call c (guest.Pipe pipe_call.ClosedOut)) es fields after = MakesPlain m line (kind.PlainOutput output.Closed) m.store es fields after
Done contexts m line (step.Call c (guest.Pipe (pipe_call.Contents output))) es fields after = OfOutputPipe m output (λ place pipe. fields ≡ bytes_fields pipe.held)
Done contexts m line (step.Cancel n) es fields after = (IsSomeAnd m.store.standing (λ s. CancelsBy m es after s.call) × (after.store.standing ≡ None) × (after.table ≡ m.table)) ⊎ BesideCancelled m n es after
Done contexts m line (step.Call c (guest.Pollable (pollable_call.Subscribe h))) es fields after = Subscribes m line h es fields after
Done contexts m line (step.Call c (guest.Pollable (pollable_call.Ready p))) es fields after = Looks m line p es fields
Done contexts m line (step.Call c (guest.Pollable (pollable_call.Drop h))) es fields after = (after.table ≡ without_handle m.table h) × Gone m line h (kind_at m.table h) es after
Done contexts m line (step.Call c (guest.Tcp (tcp_call.Shutdown s how))) es fields after = OfStreams m (socket_at m s) (λ place r st. (es ≡ shutdown_entries (own_of line) how st) × (after ≡ putting m place (with_streams r (shut_down how st))))
Done contexts m line (step.Call c (guest.Udp (udp_call.Create family))) es fields after = CreatesUdp m (own_of line) (context_at contexts c) family es fields after
Done contexts m line (step.Call c (guest.Udp (udp_call.StartBind s n a))) es fields after = OfUdp m s (λ place o. BindsUdp m (own_of line) place o a es after)
Done contexts m line (step.Call c (guest.Udp (udp_call.FinishBind s))) es fields after = OfUdp m s (λ place o. FinishesUdpBind m place o after)
Done contexts m line (step.Call c (guest.Udp (udp_call.LocalAddress s))) es fields after = OfUdp m s (λ place o. TellsUdpLocal m (own_of line) place o es fields after)
Done contexts m line (step.Call c (guest.Udp (udp_call.RemoteAddress s))) es fields after = OfUdp m s (λ place o. TellsUdpRemote o fields)
Done contexts m line (step.Call c (guest.Udp (udp_call.AddressFamily s))) es fields after = OfUdp m s (λ place o. fields ≡ family_fields o.inner.family)
Done contexts m line (step.Call c (guest.Udp (udp_call.Get s option))) es fields after = OfUdp m s (λ place o. GetsUdpOption (own_of line) (udp_opt option) o fields es)
Done contexts m line (step.Call c (guest.Udp (udp_call.Set s setting))) es fields after = OfUdp m s (λ place o. SetsUdpOption (own_of line) setting o es)
Done contexts m line (step.Call c (guest.Udp (udp_call.Stream s remote))) es fields after = MadeBoth m s fields after × (OfUdp m s (λ place o. HasNewStreams place after) × OfUdp m s (λ place o. MakesStreams m (own_of line) s place o remote es after))
Done contexts m line (step.Call c (guest.Udp (udp_call.Receive s most))) es fields after = ReceivesSome most fields
Done contexts m line (step.Call c (guest.Udp (udp_call.Send s datagrams))) es fields after = SendsSome datagrams fields × (0 < length datagrams → IsSpent after s)
Done contexts m line (step.Call c (guest.Udp (udp_call.CheckSend s))) es fields after = OfOutgoing m (outgoing_at m s) (λ place o out. PermitsSend m place o out fields after)
Done contexts m line (step.Call c (guest.Names (name_call.Resolve n name))) es fields after = Resolves m (own_of line) (context_at contexts c) n name es fields after
Done contexts m line (step.Call c (guest.Names (name_call.ResolveNext h))) es fields after = OfLookup m h (λ place l. HandsOut m place l fields after)
Done contexts m line (step.Call c (guest.Names (name_call.NetworkErrorCode e))) es fields after = fields ≡ field.Absent ∷ []
Done contexts m line (step.Call c (guest.P3Tcp (p3_tcp_call.Get s option))) es fields after = OfTcp3 m s (λ place r. GetsOption (own_of line) option r fields es)
Done contexts m line (step.Call c (guest.P3Tcp (p3_tcp_call.Set s setting))) es fields after = (fields ≡ no_fields) × OfTcp3 m s (λ place r. SetsChosen m (own_of line) (chosen setting) place r es after)
Done contexts m line (step.Call c (guest.P3Udp (p3_udp_call.Create family))) es fields after = CreatesUdpFor P3 m (own_of line) (context_at contexts c) family es fields after
Done contexts m line (step.Call c (guest.P3Tcp (p3_tcp_call.Bind s a))) es fields after = OfTcp3 m s (λ place r. Binds m (own_of line) place r a es after)
Done contexts m line (step.Call c (guest.P3Tcp (p3_tcp_call.Connect s a))) es fields after = OfTcp3 m s (λ place r. Connects m (own_of line) place r a es after)
Done contexts m line (step.Call c (guest.P3Tcp (p3_tcp_call.Listen s))) es fields after = OfTcp3 m s (λ place r. Listens m (own_of line) s place r es fields after)
Done contexts m line (step.Call c (guest.P3Tcp (p3_tcp_call.Accept s remaining))) es fields after = OfListener m s (λ place r. ByListener r (λ l. AcceptGave m line s remaining place r l es fields after))
Done contexts m line (step.Call c (guest.P3Tcp (p3_tcp_call.Receive s))) es fields after = OfTcp3 m s (λ place r. MakesEnd m (own_of line) Receive s place r es fields after)
Done contexts m line (step.Call c (guest.P3Tcp (p3_tcp_call.Send s))) es fields after = OfTcp3 m s (λ place r. MakesEnd m (own_of line) Send s place r es fields after)
Done contexts m line (step.Call c (guest.P3Tcp (p3_tcp_call.Read h len))) es fields after = OfEnd (receive3_at m h) (λ end. EndReads m (own_of line) len end es fields after)
Done contexts m line (step.Call c (guest.P3Tcp (p3_tcp_call.Write h bytes))) es fields after = OfEnd (send3_at m h) (λ end. EndWrites m (own_of line) bytes end es fields after)
Done contexts m line (step.Call c (guest.P3Tcp (p3_tcp_call.Result h))) es fields after = WentWell m h es after
Done contexts m line (step.Call c (guest.P3Udp (p3_udp_call.Connect s a))) es fields after = OfUdp3 m s (λ place o. ConnectsUdp m (own_of line) place o a es after)
Done contexts m line (step.Call c (guest.P3Udp (p3_udp_call.Send s d))) es fields after = OfUdp3 m s (λ place o. SendsOne m (own_of line) place o d es after)
Done contexts m line (step.Call c (guest.P3Udp (p3_udp_call.Receive s))) es fields after = OfUdp3 m s (λ place o. ReceivesOne m (own_of line) place o es fields after)
Done contexts m line (step.Call c (guest.P3Udp (p3_udp_call.Bind s a))) es fields after = OfUdp3 m s (λ place o. binds.BindsUdp m (own_of line) place o a es after)
Done contexts m line (step.Call c (guest.P3Udp (p3_udp_call.Disconnect s))) es fields after = OfUdp3 m s (λ place o. Disconnects m (own_of line) place o es after)
Done contexts m line (step.Call c (guest.P3Udp (p3_udp_call.LocalAddress s))) es fields after = OfUdp3 m s (λ place o. TellsUdpLocal m (own_of line) place o es fields after)
Done contexts m line (step.Call c (guest.P3Udp (p3_udp_call.RemoteAddress s))) es fields after = OfUdp3 m s (λ place o. TellsUdpRemote o fields)
Done contexts m line (step.Call c (guest.P3Udp (p3_udp_call.AddressFamily s))) es fields after = OfUdp3 m s (λ place o. fields ≡ family_fields o.inner.family)
Done contexts m line (step.Call c (guest.P3Udp (p3_udp_call.Get s option))) es fields after = OfUdp3 m s (λ place o. GetsUdpOption (own_of line) (udp_opt option) o fields es)
Done contexts m line (step.Call c (guest.P3Udp (p3_udp_call.Set s setting))) es fields after = OfUdp3 m s (λ place o. SetsUdpOption (own_of line) setting o es)
Done contexts m line (step.Poll n) es fields after = IsSomeAnd m.store.standing (λ s. GivesBy m fields after s.call) ⊎ (IsBeside m n × IsSomeAnd (beside_of m.store n) (λ b. BesideGives fields b.call))
Done contexts m line (step.Call c (guest.P3Names (p3_name_call.Resolve name))) es fields after = FindsAddresses m (own_of line) (context_at contexts c) name es fields after
Done contexts m line s es fields after = ⊤

-- == refused
-- Why the finish of a connect is refused.
pub record FinishRefused (m : Machine) (handle : ℕ) (es : List Entry) (w : CodeWord) (after : Machine) : Type 0 where
  pub none : w ≡ word.NotInProgress → Quiet m es after
  pub cause : ConnectsAt m handle → FinishesAt m handle → RefusedOf m handle (FinishRefusal m) es w after

abbrev pub Refused : List WasiSocketsCtx → Machine → ℕ → Step → List Entry → CodeWord → Machine → Type 0
Refused contexts m line (step.Call c (guest.Tcp (tcp_call.Create family))) es w after = let ctx = context_at contexts c in CreateRefusal (own_of line) ctx family es w × (after ≡ with_room m ctx)
Refused contexts m line (step.Call c (guest.Tcp (tcp_call.StartBind s n a))) es w after = RefusedBind m (own_of line) s a es w after × ((after ≡ m) ⊎ ((w ≡ word.InvalidState) × KnowsBound m s after))
Refused contexts m line (step.Call c (guest.Tcp (tcp_call.FinishBind s))) es w after = after ≡ m
Refused contexts m line (step.Call c (guest.Tcp (tcp_call.StartConnect s n a))) es w after = RefusedConnect m (own_of line) s a es w after × ((after ≡ m) ⊎ ((w ≡ word.InvalidArgument) × KnowsBound m s after))
Refused contexts m line (step.Call c (guest.Tcp (tcp_call.FinishConnect s))) es w after = FinishRefused m s es w after
Refused contexts m line (step.Call c (guest.Tcp (tcp_call.StartListen s))) es w after = (ListensLateAt m s → RefusedListen m (own_of line) s es w after) × ((after ≡ m) ⊎ (KnowsBound m s after ⊎ OfRecord m s (λ place r. after ≡ closed_by_listen m place r)))
Refused contexts m line (step.Call c (guest.Tcp (tcp_call.FinishListen s))) es w after = after ≡ m
Refused contexts m line (step.Call c (guest.Tcp (tcp_call.Accept s))) es w after = AcceptsAt m s → RefusedAccept m line s es w after
Refused contexts m line (step.Call c (guest.Tcp (tcp_call.LocalAddress s))) es w after = RefusedOf m s (LocalRefusal m (own_of line)) es w after × ((after ≡ m) ⊎ KnowsBound m s after)
Refused contexts m line (step.Call c (guest.Tcp (tcp_call.RemoteAddress s))) es w after = RefusedOf m s (RemoteRefusal m (own_of line)) es w after × (after ≡ m)
Refused contexts m line (step.Call c (guest.Tcp (tcp_call.Get s option))) es w after = RefusedGet m (own_of line) s option es w after
Refused contexts m line (step.Call c (guest.Tcp (tcp_call.Set s setting))) es w after = RefusedSet m (own_of line) s setting es w after
Refused contexts m line (step.Call c (guest.Tcp (tcp_call.Shutdown s how))) es w after = Quiet m es after
Refused contexts m line (step.Call c (guest.Udp (udp_call.Create family))) es w after = UdpCreateRefusal m (own_of line) (context_at contexts c) family es w after
Refused contexts m line (step.Call c (guest.Udp (udp_call.StartBind s n a))) es w after = RefusedOfUdp m s (λ place o. UdpBindRefusal m (own_of line) place o a) es w after × ((after ≡ m) ⊎ ((w ≡ word.InvalidState) × KnowsUdpBound m s after))
Refused contexts m line (step.Call c (guest.Udp (udp_call.FinishBind s))) es w after = after ≡ m
Refused contexts m line (step.Call c (guest.Udp (udp_call.LocalAddress s))) es w after = RefusedOfUdp m s (UdpLocalRefusal m (own_of line)) es w after × ((after ≡ m) ⊎ KnowsUdpBound m s after)
Refused contexts m line (step.Call c (guest.Udp (udp_call.Get s option))) es w after = OfUdp m s (λ place o. UdpGetRefusal (own_of line) (udp_opt option) o es w)
Refused contexts m line (step.Call c (guest.Udp (udp_call.Set s setting))) es w after = OfUdp m s (λ place o. UdpSetRefusal (own_of line) setting o es w)
Refused contexts m line (step.Call c (guest.Udp (udp_call.Receive s most))) es w after = OfIncoming m (incoming_at m s) (λ place o inc. UdpReceiveRefusal m (next_name (first_ids line)) place o inc es w after)
Refused contexts m line (step.Call c (guest.Udp (udp_call.Send s datagrams))) es w after = OfOutgoing m (outgoing_at m s) (λ place o out. UdpSendRefusal m (next_name (first_ids line)) place datagrams o out es w after) × IsSpent after s
Refused contexts m line (step.Call c (guest.Udp (udp_call.Stream s remote))) es w after = RefusedOfUdp m s (λ place o. UdpStreamRefusal m (own_of line) place o remote) es w after
Refused contexts m line (step.Call c (guest.Names (name_call.Resolve n name))) es w after = ResolveRefusal (own_of line) (context_at contexts c) name es w × (after ≡ m)
Refused contexts m line (step.Call c (guest.Names (name_call.ResolveNext h))) es w after = after ≡ m
Refused contexts m line (step.Call c (guest.P3Tcp (p3_tcp_call.Create family))) es w after = P3CreateRefusal (own_of line) (context_at contexts c) family es w × (after ≡ m)
Refused contexts m line (step.Call c (guest.P3Tcp (p3_tcp_call.LocalAddress s))) es w after = P3LocalRefusal m (own_of line) s es w after × ((after ≡ m) ⊎ KnowsTcp3Bound m s after)
Refused contexts m line (step.Call c (guest.P3Tcp (p3_tcp_call.RemoteAddress s))) es w after = P3RemoteRefusal m (own_of line) s es w × (after ≡ m)
Refused contexts m line (step.Call c (guest.P3Tcp (p3_tcp_call.Get s option))) es w after = P3RefusedGet m (own_of line) s option es w after
Refused contexts m line (step.Call c (guest.P3Tcp (p3_tcp_call.Set s setting))) es w after = P3RefusedSet m (own_of line) s setting es w after
Refused contexts m line (step.Call c (guest.P3Udp (p3_udp_call.Create family))) es w after = P3UdpCreateRefusal m (own_of line) (context_at contexts c) family es w after
Refused contexts m line (step.Call c (guest.P3Tcp (p3_tcp_call.Bind s a))) es w after = P3BindRefusal m (own_of line) s a es w after
Refused contexts m line (step.Call c (guest.P3Tcp (p3_tcp_call.Connect s a))) es w after = P3ConnectRefusal m (own_of line) s a es w after
Refused contexts m line (step.Call c (guest.P3Tcp (p3_tcp_call.Listen s))) es w after = P3ListenRefusal m (own_of line) s es w after
Refused contexts m line (step.Call c (guest.P3Tcp (p3_tcp_call.Accept s remaining))) es w after = AcceptRefusal m s es w after
Refused contexts m line (step.Call c (guest.P3Tcp (p3_tcp_call.Result h))) es w after = WentIll m h es w after
Refused contexts m line (step.Call c (guest.P3Udp (p3_udp_call.Connect s a))) es w after = UdpConnectRefusal m (own_of line) s a es w after
Refused contexts m line (step.Call c (guest.P3Udp (p3_udp_call.Send s d))) es w after = P3SendRefusal m (own_of line) s d es w after
Refused contexts m line (step.Call c (guest.P3Udp (p3_udp_call.Receive s))) es w after = P3ReceiveRefusal m (own_of line) s es w after
Refused contexts m line (step.Call c (guest.P3Udp (p3_udp_call.Bind s a))) es w after = P3UdpBindRefusal m (own_of line) s a es w after
Refused contexts m line (step.Call c (guest.P3Udp (p3_udp_call.Disconnect s))) es w after = P3DisconnectRefusal m (own_of line) s es w after
Refused contexts m line (step.Call c (guest.P3Udp (p3_udp_call.LocalAddress s))) es w after = P3UdpLocalRefusal m (own_of line) s es w after × ((after ≡ m) ⊎ KnowsUdp3Bound m s after)
Refused contexts m line (step.Call c (guest.P3Udp (p3_udp_call.RemoteAddress s))) es w after = OfUdp3 m s (λ place o. o.inner.remote ≡ None)
Refused contexts m line (step.Call c (guest.P3Udp (p3_udp_call.Get s option))) es w after = P3UdpGetRefusal m (own_of line) s (udp_opt option) es w
Refused contexts m line (step.Call c (guest.P3Udp (p3_udp_call.Set s setting))) es w after = P3UdpSetRefusal m (own_of line) s setting es w
Refused contexts m line (step.Call c (guest.P3Names (p3_name_call.Resolve name))) es w after = ResolveRefusal (own_of line) (context_at contexts c) name es w × (after ≡ m)
Refused contexts m line (step.Poll n) es w after = ((PendingCallsFit m → FailureLeaves m n es w after) ⊎ IsBeside m n) × (after.table ≡ m.table)
Refused contexts m line s es w after = ⊤

-- == the ends of a stream's call
abbrev pub Ends : Machine → ℕ → Step → List Entry → Machine → Type 0
Ends m line (step.Call c (guest.Stream (stream_call.Read input len))) es after = OfStreams m (input_at m input) (λ place r s. ReadsEnd (own_of line) len s.reader es × (after ≡ closing_reader m place r s)) ⊎ EndsPlain m input es after
Ends m line (step.Call c (guest.Stream (stream_call.CheckWrite output))) es after = OfStreams m (output_at m output) (λ place r s. CheckFails error.Closed s.writer es × (after ≡ closing_writer m place r s error.Closed)) ⊎ EndsCheck m output es after
Ends m line (step.Call c (guest.Stream (stream_call.Write output bytes))) es after = OfStreams m (output_at m output) (λ place r s. WriteFails (own_of line) error.Closed s.writer es × (after ≡ closing_writer m place r s error.Closed)) ⊎ EndsOutput m output es after
Ends m line (step.Call c (guest.Stream (stream_call.Flush output))) es after = (OfStreams m (output_at m output) (λ place r s. IsGivenUp s.writer) × Quiet m es after) ⊎ EndsOutput m output es after
Ends m line (step.Poll n) es after = StreamCallStands m
Ends m line s es after = ⊤

abbrev pub Fails : Machine → ℕ → Step → List Entry → CodeWord → ℕ → Machine → Type 0
Fails m line (step.Call c (guest.Stream (stream_call.Read input len))) es w handle after = OfStreams m (input_at m input) (λ place r s. FailsWith m (own_of line) input (ReadFails (own_of line) len s.reader) es w handle × (after ≡ with_error (closing_reader m place r s)))
Fails m line (step.Call c (guest.Stream (stream_call.CheckWrite output))) es w handle after =
    OfStreams m (output_at m output) (λ place r s. FailsWith m (own_of line) output (λ c before. CheckFails (error.LastOperationFailed c) s.writer before × (after ≡ with_error (closing_writer m place r s (error.LastOperationFailed c)))) es w handle)
Fails m line (step.Call c (guest.Stream (stream_call.Write output bytes))) es w handle after =
    OfStreams m (output_at m output) (λ place r s. FailsWith m (own_of line) output (λ c before. WriteFails (own_of line) (error.LastOperationFailed c) s.writer before × (after ≡ with_error (closing_writer m place r s (error.LastOperationFailed c)))) es w handle)
Fails m line (step.Call c (guest.Stream (stream_call.Flush output))) es w handle after = OfStreams m (output_at m output) (λ place r s. FailsWith m (own_of line) output (WasClosedWith s.writer) es w handle) × (after ≡ with_error m)
Fails m line (step.Poll n) es w handle after = StreamCallStands m
Fails m line s es w handle after = ⊤

-- == an end of 0.3
-- nothing has come to a listener that is polled, or the entry of an end's poll was answered pending
abbrev pub CancelsPoll : Machine → ℕ → Step → List Entry → Machine → Type 0
CancelsPoll m line (step.Call c (guest.P3Tcp (p3_tcp_call.Accept s remaining))) es after = OfListener m s (λ place r. ByListener r (λ l. NoneCame m line place r l es after))
CancelsPoll m line (step.Call c (guest.P3Tcp (p3_tcp_call.Read h len))) es after = OfEnd (receive3_at m h) (λ end. ReadGivesUp m (own_of line) len end es after)
CancelsPoll m line (step.Call c (guest.P3Tcp (p3_tcp_call.Write h bytes))) es after = OfEnd (send3_at m h) (λ end. WriteGivesUp m (own_of line) bytes end es after)
CancelsPoll m line s es after = ⊥

-- the end is closed, or its poll has closed it
abbrev pub IsOver : Machine → ℕ → Step → List Entry → Machine → Type 0
IsOver m line (step.Call c (guest.P3Tcp (p3_tcp_call.Read h len))) es after = OfEnd (receive3_at m h) (λ end. ReadEnds m (own_of line) len end es after)
IsOver m line (step.Call c (guest.P3Tcp (p3_tcp_call.Write h bytes))) es after = OfEnd (send3_at m h) (λ end. WriteEnds m (own_of line) bytes end es after)
IsOver m line s es after = ⊥

-- == pending
-- a call is pending under this number afterwards: a TCP connect, a lookup and a datagram of 0.3 beside others, and that of a poll where
-- it stood
abbrev pub PendsUnder : Step → ℕ → Machine → Type 0
PendsUnder (step.Call c (guest.P3Tcp (p3_tcp_call.Connect s a))) n after = IsSome (beside_of after.store n)
PendsUnder (step.Call c (guest.P3Names (p3_name_call.Resolve name))) n after = IsSome (beside_of after.store n)
PendsUnder (step.Call c (guest.P3Udp (p3_udp_call.Send s d))) n after = IsSome (beside_of after.store n)
PendsUnder (step.Call c (guest.P3Udp (p3_udp_call.Receive s))) n after = IsSome (beside_of after.store n)
PendsUnder (step.Poll k) n after = IsSomeAnd after.store.standing (λ call. call.ids.line ≡ n) ⊎ IsSome (beside_of after.store n)
PendsUnder s n after = IsSomeAnd after.store.standing (λ call. call.ids.line ≡ n)

abbrev pub Pends : List WasiSocketsCtx → Machine → ℕ → Step → List Entry → Machine → Type 0
Pends contexts m line (step.Call c (guest.Tcp (tcp_call.StartBind s n a))) es after = EndsPending (own_of line) es
Pends contexts m line (step.Call c (guest.Tcp (tcp_call.StartListen s))) es after = EndsPending (own_of line) es
Pends contexts m line (step.Call c (guest.Pollable (pollable_call.Drop h))) es after = (after.table ≡ without_handle m.table h) × (OutputWaits m (own_of line) (output_at m h) es ⊎ OutgoingWaits m (outgoing_at m h) es)
Pends contexts m line (step.Call c (guest.Udp (udp_call.Create family))) es after = CreateStands m line (own_of line) (context_at contexts c) family es after
Pends contexts m line (step.Call c (guest.P3Udp (p3_udp_call.Create family))) es after = CreateStandsFor P3 m line (own_of line) (context_at contexts c) family es after
Pends contexts m line (step.Call c (guest.P3Tcp (p3_tcp_call.Bind s a))) es after = OfTcp3 m s (λ place r. BindStands m line place r a es after)
Pends contexts m line (step.Call c (guest.P3Tcp (p3_tcp_call.Connect s a))) es after = OfTcp3 m s (λ place r. ConnectStands m line place r a es after)
Pends contexts m line (step.Call c (guest.P3Tcp (p3_tcp_call.Listen s))) es after = OfTcp3 m s (λ place r. ListenStands m line s place r es after)
Pends contexts m line (step.Call c (guest.P3Udp (p3_udp_call.Connect s a))) es after = OfUdp3 m s (λ place o. UdpConnectStands m line place o a es after)
Pends contexts m line (step.Call c (guest.P3Udp (p3_udp_call.Send s d))) es after = OfUdp3 m s (λ place o. SendStands m line place o d es after)
Pends contexts m line (step.Call c (guest.P3Udp (p3_udp_call.Receive s))) es after = OfUdp3 m s (λ place o. ReceiveStands m line place o es after)
Pends contexts m line (step.Call c (guest.P3Names (p3_name_call.Resolve name))) es after = LookupStands m line (context_at contexts c) name es after
Pends contexts m line (step.Call c (guest.P3Udp (p3_udp_call.Bind s a))) es after = OfUdp3 m s (λ place o. binds.UdpBindStands m line place o a es after)
Pends contexts m line (step.Call c (guest.Udp (udp_call.StartBind s n a))) es after = OfUdp m s (λ place o. UdpBindStands m line (own_of line) place o a es after)
Pends contexts m line (step.Call c (guest.Udp (udp_call.Stream s remote))) es after = (after.table ≡ m.table) × OfUdp m s (λ place o. StreamsStand m line s place o remote es after)
Pends contexts m line (step.Poll n) es after = ((PendingCallsFit m → StandingWaits m (own_of n) es) ⊎ IsBeside m n) × (after.table ≡ m.table) × ((BlockingCallStands m → ⊥) → after.store.standing ≡ m.store.standing)
Pends contexts m line s es after = ⊤

-- == traps
-- the table is full, after the handles that the entries mark
abbrev pub FullAfter : Machine → List Entry → Machine → Type 0
FullAfter m es after = (is_full after.table ≡ true) × (after.table.next ≡ m.table.next + marks_in es)

-- what a create of a TCP socket leaves then: the network socket and its record
abbrev pub LeavesSocket : Machine → ℕ → WasiSocketsCtx → SocketAddressFamily → List Entry → Machine → Type 0
LeavesSocket m line ctx family es after =
    (is_full m.table ≡ true) × (es ≡ entry (own_of line) (call.TcpCreate ctx.name family) told.Done ∷ []) × (after ≡ record m { store = with_record m.store (new_socket (own_of line) ctx.name family) })

-- and that of a UDP socket, once the network socket may be used
abbrev pub LeavesUdpSocket : Machine → ℕ → WasiSocketsCtx → SocketAddressFamily → List Entry → Machine → Type 0
LeavesUdpSocket m line ctx family es after =
    (is_full m.table ≡ true) × (es ≡ udp_create_entry (own_of line) ctx family told.Done ∷ writable_entry (own_of line) told.Done ∷ []) × (after ≡ with_udp_record m (new_udp (own_of line) ctx family))

-- what a call that makes a handle leaves then
abbrev pub LeftFull : List WasiSocketsCtx → Machine → ℕ → Step → List Entry → Machine → Type 0
LeftFull contexts m line (step.Call c (guest.Tcp (tcp_call.Create family))) es after = let ctx = context_at contexts c in LeavesSocket (with_room m ctx) line ctx family es after
LeftFull contexts m line (step.Call c (guest.P3Tcp (p3_tcp_call.Create family))) es after = LeavesSocket m line (context_at contexts c) family es after
LeftFull contexts m line (step.Call c (guest.Udp (udp_call.Create family))) es after = LeavesUdpSocket m line (context_at contexts c) family es after
LeftFull contexts m line (step.Call c (guest.P3Tcp (p3_tcp_call.Listen s))) es after = OfTcp3 m s (λ place r. ListensUnnamed m (own_of line) place r es after)
LeftFull contexts m line (step.Call c (guest.P3Tcp (p3_tcp_call.Accept s remaining))) es after = OfListener m s (λ place r. ByListener r (λ l. TakesUnnamed m line place r l es after))
LeftFull contexts m line (step.Call c (guest.P3Tcp (p3_tcp_call.Receive s))) es after = OfTcp3 m s (λ place r. LacksRoomForEnd m (own_of line) Receive s place r es after)
LeftFull contexts m line (step.Call c (guest.P3Tcp (p3_tcp_call.Send s))) es after = OfTcp3 m s (λ place r. LacksRoomForEnd m (own_of line) Send s place r es after)
LeftFull contexts m line (step.Call c (guest.P3Udp (p3_udp_call.Create family))) es after = LeavesUdpSocket m line (context_at contexts c) family es after
LeftFull contexts m line (step.Call c (guest.Udp (udp_call.Stream s remote))) es after = IsSomeAnd (udp_socket_at m s) (λ place. LacksRoomForBoth m.table place s)
LeftFull contexts m line (step.Call c (guest.Names (name_call.Resolve n name))) es after = LosesLookup m (own_of line) name es after
LeftFull contexts m line (step.Call c (guest.Pipe (pipe_call.In bytes))) es after = Quiet m es after
LeftFull contexts m line (step.Call c (guest.Pipe (pipe_call.Out capacity))) es after = Quiet m es after
LeftFull contexts m line (step.Call c (guest.Pipe pipe_call.Sink)) es after = Quiet m es after
LeftFull contexts m line (step.Call c (guest.Pipe pipe_call.ClosedIn)) es after = Quiet m es after
LeftFull contexts m line (step.Call c (guest.Pipe pipe_call.ClosedOut)) es after = Quiet m es after
LeftFull contexts m line (step.Poll n) es after = ((is_full m.table ≡ true) × IsSomeAnd m.store.standing (λ s. MakesOneHandle s.call)) ⊎ (IsSomeAnd m.store.standing (λ s. LacksRoomForStreams m s.call) ⊎ StreamCallStands m)
LeftFull contexts m line s es after = ⊤

-- where a handle is missed nothing was asked, and the machine is as it was; a poll leaves nothing pending: that is said where the
-- handle of pending datagram streams is live; of a splice it is said where its input, if it is one, is there, since the look at
-- its output comes before; and of a wait for several pollables where what each of them watches is there, since the looks at others do
abbrev pub InputIsThere : Machine → ℕ → Type 0
InputIsThere m from = is_readable (kind_at m.table from) ≡ true → MissesInput m from → ⊥

abbrev pub LaterPartIsThere : Machine → Step → Type 0
LaterPartIsThere m (step.Call c (guest.Stream (stream_call.Splice to from len))) = InputIsThere m from
LaterPartIsThere m (step.Call c (guest.Stream (stream_call.BlockingSplice to from len))) = InputIsThere m from
LaterPartIsThere m (step.Call c (guest.Pollable (pollable_call.PollList pollables))) = WatchedAreThere m pollables
LaterPartIsThere m s = ⊤

abbrev pub LeavesMissing : Machine → Step → List Entry → Machine → Type 0
LeavesMissing m (step.Poll n) es after = PendingHandleIsLive m → (es ≡ []) × (after ≡ left_missing m (step.Poll n))
LeavesMissing m (step.Call c (guest.Stream (stream_call.Splice to from len))) es after = InputIsThere m from → Quiet m es after
LeavesMissing m (step.Call c (guest.Stream (stream_call.BlockingSplice to from len))) es after = InputIsThere m from → Quiet m es after
LeavesMissing m (step.Call c (guest.Pollable (pollable_call.PollList pollables))) es after = WatchedAreThere m pollables → Quiet m es after
LeavesMissing m s es after = (es ≡ []) × (after ≡ left_missing m s)

abbrev pub Traps : List WasiSocketsCtx → Machine → ℕ → Step → List Entry → TrapKind → Machine → Type 0
Traps contexts m line s es NoSuchHandle after = MissesHandle m s × LeavesMissing m s es after
Traps contexts m line s es HasChildren after = TakesOut s × Quiet m es after
Traps contexts m line s es Full after = MakesHandle s × FullAfter m es after × LeftFull contexts m line s es after
Traps contexts m line s es NotPermitted after = (IsWrite s ⊎ IsUdpSend s) × Quiet m es after
Traps contexts m line s es StreamsAlive after = IsUdpStream s × Quiet m es after
Traps contexts m line s es Capacity after = IsWrite s × Quiet m es after
Traps contexts m line s es TooLong after = IsBlockingWrite s × Quiet m es after
Traps contexts m line s es EmptyList after = IsEmptyWait s × Quiet m es after
Traps contexts m line s es _ after = ⊥

-- == the table: what the step of this line was answered, what it replies, and the machine afterwards
abbrev pub Replies : List WasiSocketsCtx → Machine → ℕ → Step → List Entry → Reply → Machine → Type 0
Replies contexts m line s es (reply.Ok fields) after = AreLike (kinds_of s) fields × Done contexts m line s es fields after
Replies contexts m line s es (reply.Err w) after = MayRefuse s w × Refused contexts m line s es w after
Replies contexts m line s es reply.Closed after = IsStreamCall s × Ends m line s es after
Replies contexts m line s es (reply.Failed w handle) after = (IsStreamCall s × IsCodeWord w) × Fails m line s es w handle after
Replies contexts m line s es (reply.Trap kind) after = Traps contexts m line s es kind after
Replies contexts m line s es (reply.Pending n) after = (MayStand m line s n × PendsUnder s n after) × Pends contexts m line s es after
Replies contexts m line s es reply.Cancelled after = GivesUp s × CancelsPoll m line s es after
Replies contexts m line s es reply.Dropped after = IsEndPoll s × IsOver m line s es after
Replies contexts m line s es reply.Unfilled after = IsResultStep s × Quiet m es after
Replies contexts m line s es reply.NoSuchCall after = (IsPoll s ⊎ IsCancel s) × Quiet m es after
Replies contexts m line s es _ after = ⊥

abbrev pub Outcome : List WasiSocketsCtx → Machine → ℕ → Step → List Entry → Reply → Machine → Type 0
Outcome contexts m line s es r after = Always contexts m line s es r after × Replies contexts m line s es r after
