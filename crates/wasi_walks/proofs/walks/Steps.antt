-- A pending call continues; each step is made of moves, and so is a line while a call is pending.
use Rattle.wasi_walks.proofs.Words.{Answer, Err, Give, InProgress, IsBacklogSet, List, Machine, None, Ok, Option, Records, Result, Some, Standing}
use Rattle.wasi_walks.proofs.Words.{StandingCall, GuestCall, Step, Stop, TcpSetting, TheBacklog, WasiSocketsCtx, asks_while, call_of, call_place}
use Rattle.wasi_walks.proofs.Words.{chosen, context_at, false, get_option_asks, go_on, inl, is_bind}
use Rattle.wasi_walks.proofs.Words.{is_guest_call, is_held_up, is_listen, kind_at, own_of, refl}
use Rattle.wasi_walks.proofs.Words.{resume_call, resumed, socket_at, step_asks, subst, sym, true, unstood}
use Rattle.wasi_walks.proofs.Words.{watched_by, with_store, ℕ, ◌≡◌}
use Rattle.wasi_world.specs.declared.ids.Ids.{Ids}
use Rattle.wasi_addr.specs.Clamp.{clamped_backlog}
use Rattle.wasi_world.specs.declared.call.Opt.{Opt}
use Rattle.socket_common.specs.Options.{value_set}
use Rattle.wasi_steps.specs.Settings.{AnOption}
use Rattle.wasi_walks.specs.Licence.{IsSetTo, SetsOption, SetsBacklog}
use Rattle.std.specs.Prelude.{⊤, ◌⊎◌}
use Rattle.wasi_walks.proofs.walks.Writes.{may, AsLet}
use Rattle.wasi_walks.proofs.Words.{ap}
use Rattle.wasi_walks.proofs.walks.Here.{ConnectStands, takes_none}
use Rattle.wasi_walks.proofs.walks.Moves.{MakesRoom, ToConnect, CallsHandles, Here, IsStreamCall, NoStartStands, OfStreams, RecallsCall, IsSettled, Own, Unused, ANetwork, Spends, Used, Leaves, RecallsConnect, RecallsListen, RecallsStreams, Resumes, Unstands}
use Rattle.wasi_walks.proofs.walks.Law.{BeginsWrites, Law, Walks, give, and_then, by_if, move, gives, mark, create, from}
use Rattle.wasi_walks.proofs.walks.Sockets.{get_walks}
use Rattle.wasi_walks.proofs.walks.Streams.{subscribe_walks, turn_walks}
use Rattle.wasi_walks.proofs.walks.Releases.{drop_output_walks}
use Rattle.wasi_walks.proofs.walks.Drops.{drop_walks}
use Rattle.wasi_walks.proofs.walks.States.{At, Listens, Over, OverIn, OverWith, udp_record, Put, Starts, socket_record, stands_so, none_stands}
use Rattle.wasi_walks.proofs.walks.SocketSteps.{finish_started_walks, local_address_walks, shutdown_at_walks, start_connect_walks, start_bind_walks, looked_walks, set_chosen_walks, remote_address_walks, on_socket, finish_connect_walks, as_left}
use Rattle.wasi_walks.proofs.walks.ListenSteps.{accept_on_walks, relisten_walks, start_listen_walks}
use Rattle.wasi_walks.proofs.walks.P3Streams.{p3_read_walks, p3_receive_walks, p3_result_walks, p3_send_walks, p3_write_walks}
use Rattle.wasi_machine.specs.Machine.{slot_reply}
use Rattle.wasi_walks.proofs.walks.P3Listens.{p3_accept_walks, p3_listen_walks, p3_relisten_walks}
use Rattle.wasi_records.specs.Records.{tcp2_at, open_at, udp2_at}
use Rattle.wasi_host.specs.declared.pending.Outcome.{Outcome}
use Rattle.host_store.specs.Machine.{udp_socket_at, outgoing_at, lookup_number}
use Rattle.wasi_host.specs.Pending.{gone_on, answered_on, handle_outcome, outcome_of, streams_on}
use Rattle.host_store.specs.Standing.{allowed_answer, standing_as}
use Rattle.wasi_steps.specs.Settings.{udp_opt, udp_chosen}
use Rattle.wasi_walks.proofs.walks.Datagrams.{Streaming, stream_walks, streams_again}
use Rattle.wasi_walks.proofs.walks.Receives.{receive_walks}
use Rattle.wasi_walks.proofs.walks.Lookups.{next_address_walks, resolve_walks}
use Rattle.wasi_walks.proofs.walks.Sends.{check_send_walks, drop_outgoing_walks, send_walks}
use Rattle.wasi_walks.proofs.walks.Udp.{on_udp, udp_local_at_walks, udp_get_at_walks, udp_set_at_walks, start_udp_bind_walks, finish_udp_bind_walks, Polling, polled_walks, create_udp_walks}
use Rattle.wasi_walks.proofs.walks.P3Udp.{p3_disconnect_walks, p3_udp_get_walks, p3_udp_local_walks, p3_udp_set_walks}
use Rattle.host_store.specs.BaseStops.{BaseStop}
use Rattle.udp_records.specs.declared.udp.UdpRecord.{UdpRecord}
use Rattle.wasi_walks.proofs.Words.{Asks, append-nil, first_ids, handles_of, inr, ◌∙◌, ◌∷◌, []}
use Rattle.wasi_streams.specs.Streams.{zeros}
use Rattle.host_store.specs.declared.kind.Kind.TheVariants.{PlainInput, PlainOutput}
use Rattle.host_store.specs.declared.kind.PlainInput.TheVariants as plain_input
use Rattle.host_store.specs.declared.kind.PlainOutput.TheVariants as plain_output
use Rattle.wasi_walks.proofs.walks.Blocking.{WritesNone, blocking_flush_walks, blocking_read_walks, blocking_skip_walks, blocking_splice_walks, blocking_write_walks, blocking_zeroes_walks, unblock_walks}
use Rattle.wasi_walks.proofs.walks.Calls.{Calling, calls_over, check_asks_walks, flushed_asks_walks, read_asks_walks, skip_asks_walks, write_asks_walks}
use Rattle.wasi_host.specs.declared.polling.Look.TheVariants.{First}
use Rattle.wasi_walks.proofs.walks.Polling.{block_walks, looks_begin, poll_asks_walks, ready_asks_walks}
use Rattle.host_tcp.specs.Creates.{code_told, same_told}
use Rattle.wasi_p3.specs.Tcp as p3
use Rattle.wasi_walks.proofs.walks.Binds.{p3_bind_walks, p3_udp_bind_walks, rebind_walks, udp_rebind_walks}
use Rattle.host_store.specs.Beside.{beside_of}
use Rattle.wasi_walks.proofs.walks.Beside.{resume_beside_walks}
use Rattle.wasi_walks.proofs.walks.Connects.{p3_connect_walks}
use Rattle.wasi_walks.proofs.walks.Resolves.{p3_resolve_walks}
use Rattle.wasi_walks.proofs.walks.UdpConnects.{p3_udp_connect_walks, udp_reconnect_walks}
use Rattle.wasi_walks.proofs.walks.P3Steps.{p3_get_walks, p3_local_walks, p3_remote_walks, p3_set_walks}
use Rattle.wasi_walks.proofs.walks.Moves.{AwaitsCreate, Interface, P2, P3, Recalled}
use Rattle.wasi_walks.proofs.walks.SocketDatagrams.{p3_udp_receive_walks, p3_udp_send_walks}
use Rattle.wasi_walks.proofs.walks.Cancels.{cancel_walks}
use Rattle.wasi_walks.proofs.walks.Pipes.{input_pipe_walks, output_pipe_walks, plain_walks}
use Rattle.wasi_walks.proofs.walks.Splices.{splice_walks}
use Rattle.wasi_steps.specs.declared.guest_call.TcpCall.{TcpCall}
use Rattle.wasi_steps.specs.declared.guest_call.UdpCall.{UdpCall}
use Rattle.wasi_steps.specs.declared.guest_call.NameCall.{NameCall}
use Rattle.wasi_steps.specs.declared.guest_call.StreamCall.{StreamCall}
use Rattle.wasi_steps.specs.declared.guest_call.PipeCall.{PipeCall}
use Rattle.wasi_steps.specs.declared.guest_call.PollableCall.{PollableCall}
use Rattle.wasi_steps.specs.declared.guest_call.P3TcpCall.{P3TcpCall}
use Rattle.wasi_steps.specs.declared.guest_call.P3UdpCall.{P3UdpCall}
use Rattle.wasi_steps.specs.declared.guest_call.P3NameCall.{P3NameCall}

-- it makes no handle, and is no listen
abbrev MakesNoHandle : StandingCall → Type 0
MakesNoHandle (StandingCall.Listen place marks) = ⊥
MakesNoHandle (StandingCall.UdpCreate place face) = ⊥
MakesNoHandle (StandingCall.UdpConnect place handle) = ⊥
MakesNoHandle (StandingCall.UdpConnect3 place) = ⊥
MakesNoHandle (StandingCall.Blocking call) = ⊥
MakesNoHandle _ = ⊤

-- the pending call writes nothing after it asked
abbrev ContinuesSimply : StandingCall → Type 0
ContinuesSimply (StandingCall.Blocking call) = WritesNone call
ContinuesSimply _ = ⊤

abbrev ResumesSimply : Option Standing → Type 0
ResumesSimply None = ⊤
ResumesSimply (Some s) = ContinuesSimply s.call

-- nor does the step, which is done beside this pending call
abbrev IsSimpleAt : Option Standing → Step → Type 0
IsSimpleAt o (Step.Call ctx (GuestCall.Stream (StreamCall.Splice output input len))) = ⊥
IsSimpleAt o (Step.Call ctx (GuestCall.Stream (StreamCall.BlockingWrite output bytes))) = ⊥
IsSimpleAt o (Step.Call ctx (GuestCall.Stream (StreamCall.BlockingZeroes output len))) = ⊥
IsSimpleAt o (Step.Call ctx (GuestCall.Stream (StreamCall.BlockingSplice output input len))) = ⊥
IsSimpleAt o (Step.Poll n) = ResumesSimply o
IsSimpleAt o _ = ⊤

-- The line writes nothing after it asked: it is no splice, no write that blocks, and no poll of one. While a call is pending every
-- guest call is busy.
abbrev pub IsSimple : Option Standing → Step → Type 0
IsSimple None s = IsSimpleAt None s
IsSimple (Some c) (Step.Poll n) = ContinuesSimply c.call
IsSimple (Some c) _ = ⊤

-- what writes after it asked needs a law that lets it
abbrev MayContinue : {contexts : List WasiSocketsCtx} {line : ℕ} {origin : Step} → Law contexts line origin → StandingCall → Type 0
MayContinue law call = BeginsWrites law ⊎ ContinuesSimply call

-- what a drop leaves is the machine's store
dropped_so : (m : Machine) (done : Answer (Unit {0}) × Records) → (gone_on (with_store m (allowed_answer done))).1 ≡ record m { store = done.1 }
dropped_so m (answer, store) = refl

module _ {contexts : List WasiSocketsCtx} {line : ℕ} {origin : Step} {law : Law contexts line origin} where
  -- == a pending call continues
  module _ (ids : Ids) (m : Machine) (quiet : NoStartStands m.store.standing) where
    -- what was answered, and nothing is worked on any more
    gone_on_walks : (place : ℕ) (done : Result (Answer (Unit {0})) Stop × Records) → Walks law (Put ids.line m place done) OverWith (Give (gone_on (with_store m done)))
    gone_on_walks place (Ok answer, store) = gives _ (Leaves _)
    gone_on_walks place (Err why, store) = gives _ (Leaves _)

    answered_on_walks : {A : Type 0} (gives : Answer A → Answer Outcome) (face : Interface) (done : Result (Answer A) BaseStop × Machine) → Walks law (Over done.1) OverWith (Give (answered_on gives face done))
    answered_on_walks gives face done = give _

    -- of the record of a place
    bound_on_walks : (face : Interface) (place : ℕ) (done : Result (Answer (Unit {0})) BaseStop × Records) → Walks law (Put ids.line m place done) OverWith (Give (answered_on outcome_of face (with_store m done)))
    bound_on_walks face place done = gives _ (Leaves _)

    -- a call that makes no handle works on the record of its place
    go_on_walks : (call : StandingCall) → MakesNoHandle call → Walks law (At ids.line m (call_place call) Used) OverWith (go_on m ids call)
    go_on_walks (StandingCall.Bind place face) k = and_then (rebind_walks m ids quiet face place) (bound_on_walks face place)
    go_on_walks (StandingCall.Listen place marks) k = absurd k
    go_on_walks (StandingCall.DropOutput place) k = and_then (drop_output_walks ids place m quiet (tcp2_at m.store.records place) refl) (λ done. gone_on_walks place (allowed_answer done))
    go_on_walks (StandingCall.UdpBind place face) k = and_then (udp_rebind_walks m ids quiet face place) (bound_on_walks face place)
    go_on_walks (StandingCall.DropOutgoing place) k = drop_outgoing_walks ids m place quiet (λ done. gone_on (with_store m (allowed_answer done))) (dropped_so m)
    go_on_walks (StandingCall.UdpCreate place face) k = absurd k
    go_on_walks (StandingCall.UdpConnect place handle) k = absurd k
    go_on_walks (StandingCall.UdpConnect3 place) k = absurd k
    go_on_walks (StandingCall.Blocking call) k = absurd k

    -- a listen works under the handle that its listener gets
    listened_walks : (done : Result (Answer (Unit {0})) Stop × Records) → Walks law (OverIn m done) OverWith (Give (gone_on (with_store m done)))
    listened_walks (Ok answer, store) = give _
    listened_walks (Err why, store) = give _

    listen_goes_on : (place : ℕ) (marks : Option ℕ) → Walks law (Listens ids.line m marks place Used) OverWith (go_on m ids (StandingCall.Listen place marks))
    listen_goes_on place None = and_then (relisten_walks m ids place quiet (tcp2_at m.store.records place) refl) listened_walks
    listen_goes_on place (Some handle) = and_then (p3_relisten_walks m ids place handle quiet) (answered_on_walks handle_outcome P3)

    streamed_walks : (done : Result (Answer (ℕ × ℕ)) Stop × Machine) → Walks law (Over done.1) OverWith (Give (streams_on done))
    streamed_walks (Ok answer, m) = give _
    streamed_walks (Err why, m) = give _

    streams_go_on : (place handle : ℕ) → Walks law (Streaming ids.line m place handle (ToConnect place)) OverWith (go_on m ids (StandingCall.UdpConnect place handle))
    streams_go_on place handle = and_then (streams_again ids m place handle quiet) streamed_walks

    connect_goes_on : (place : ℕ) → Walks law (At ids.line m place (ToConnect place)) OverWith (go_on m ids (StandingCall.UdpConnect3 place))
    connect_goes_on place = and_then (udp_reconnect_walks m ids quiet place) (bound_on_walks P3 place)

    create_goes_on : origin ≡ Step.Poll ids.line → m.store.standing ≡ None → (place : ℕ) (face : Interface) → Walks law (Polling face m place (udp2_at m.store.records place)) OverWith (go_on m ids (StandingCall.UdpCreate place face))
    create_goes_on is idle place face = and_then (polled_walks face m place ids (inr is) idle (udp2_at m.store.records place) refl) (answered_on_walks handle_outcome face)

  resumed_walks : (done : Result (Answer Outcome) Stop × Machine) → Walks law (Over done.1) OverWith (Give (resumed done))
  resumed_walks (Ok answer, m) = give _
  resumed_walks (Err why, m) = give _

  -- the call is taken out, and continues
  taken_walks : (m : Machine) (ids : Ids) (call : StandingCall) → origin ≡ Step.Poll ids.line → MayContinue law call → m.store.standing ≡ Some (standing_as ids call) → Walks law (Starts m Unused) OverWith (go_on (record m { store = unstood m.store }) ids call)
  taken_walks m ids (StandingCall.UdpCreate place face) is lets e = by_record (udp2_at m.store.records place) refl
    where
      now : Machine
      now = record m { store = unstood m.store }

      goes : Walks law (Polling face now place (udp2_at m.store.records place)) OverWith (go_on now ids (StandingCall.UdpCreate place face))
      goes = create_goes_on ids now tt is refl place face

      none : (p : ℕ) → ConnectStands m.store.standing p → Unused ≡ ToConnect p
      none = takes_none m.store.standing ids (StandingCall.UdpCreate place face) Unused e tt

      by_record : (u : Option UdpRecord) → udp2_at m.store.records place ≡ u → Walks law (Starts m Unused) OverWith (go_on now ids (StandingCall.UdpCreate place face))
      by_record (Some (UdpRecord.Creating create)) g = move (AwaitsCreate _ place face create (Recalled ids e) g) (move (Unstands _ none) (move (Spends _ refl) (from (ap (Polling face now place) g) goes)))
      by_record (Some (UdpRecord.Open o)) g = move (Unstands _ none) (move (Spends _ refl) (from (ap (Polling face now place) g) goes))
      by_record (Some (UdpRecord.Closed side)) g = move (Unstands _ none) (move (Spends _ refl) (from (ap (Polling face now place) g) goes))
      by_record None g = move (Unstands _ none) (move (Spends _ refl) (from (ap (Polling face now place) g) goes))
  taken_walks m ids (StandingCall.Blocking call) is lets e = move (RecallsCall _ ids call e) (move (Unstands _ (takes_none m.store.standing ids (StandingCall.Blocking call) Unused e tt)) (move (Spends _ refl) (unblock_walks ids (record m { store = unstood m.store }) call lets)))
  taken_walks m ids (StandingCall.UdpConnect place handle) is lets e = move (Resumes _ (standing_as ids (StandingCall.UdpConnect place handle)) e tt) (move (RecallsStreams _ ids place handle e refl) (move (Unstands _ (λ p k. ap (λ (x : ℕ). ToConnect x) (subst (λ (o : Option Standing). ConnectStands o p) e k))) (streams_go_on ids (record m { store = unstood m.store }) tt place handle)))
  taken_walks m ids (StandingCall.UdpConnect3 place) is lets e = move (Resumes _ (standing_as ids (StandingCall.UdpConnect3 place)) e tt) (move (RecallsConnect _ ids place e refl) (move (Unstands _ (λ p k. ap (λ (x : ℕ). ToConnect x) (subst (λ (o : Option Standing). ConnectStands o p) e k))) (connect_goes_on ids (record m { store = unstood m.store }) tt place)))
  taken_walks m ids (StandingCall.DropOutgoing place) is lets e = move (Resumes _ (standing_as ids (StandingCall.DropOutgoing place)) e tt) (move (Unstands _ (takes_none m.store.standing ids (StandingCall.DropOutgoing place) Unused e tt)) (move (Spends _ refl) (go_on_walks ids (record m { store = unstood m.store }) tt (StandingCall.DropOutgoing place) tt)))
  taken_walks m ids (StandingCall.Bind place face) is lets e = move (Resumes _ (standing_as ids (StandingCall.Bind place face)) e tt) (move (Unstands _ (takes_none m.store.standing ids (StandingCall.Bind place face) Unused e tt)) (move (Spends _ refl) (go_on_walks ids (record m { store = unstood m.store }) tt (StandingCall.Bind place face) tt)))
  taken_walks m ids (StandingCall.Listen place marks) is lets e = move (Resumes _ (standing_as ids (StandingCall.Listen place marks)) e tt) (move (RecallsListen _ ids place marks e) (move (Unstands _ (takes_none m.store.standing ids (StandingCall.Listen place marks) Unused e tt)) (move (Spends _ refl) (listen_goes_on ids (record m { store = unstood m.store }) tt place marks))))
  taken_walks m ids (StandingCall.DropOutput place) is lets e = move (Resumes _ (standing_as ids (StandingCall.DropOutput place)) e tt) (move (Unstands _ (takes_none m.store.standing ids (StandingCall.DropOutput place) Unused e tt)) (move (Spends _ refl) (go_on_walks ids (record m { store = unstood m.store }) tt (StandingCall.DropOutput place) tt)))
  taken_walks m ids (StandingCall.UdpBind place face) is lets e = move (Resumes _ (standing_as ids (StandingCall.UdpBind place face)) e tt) (move (Unstands _ (takes_none m.store.standing ids (StandingCall.UdpBind place face) Unused e tt)) (move (Spends _ refl) (go_on_walks ids (record m { store = unstood m.store }) tt (StandingCall.UdpBind place face) tt)))

  pub resume_walks : (m : Machine) (n : ℕ) → origin ≡ Step.Poll n → (o : Option Standing) → call_of m.store.standing n ≡ o → BeginsWrites law ⊎ ResumesSimply m.store.standing → Walks law (Starts m Unused) OverWith (resume_call m n o)
  resume_walks m n is None e lets = resume_beside_walks m n is (beside_of m.store n) refl
  resume_walks m n is (Some s) e lets =
      let stands = (stands_so m.store.standing n s e).0 in
      let its : origin ≡ Step.Poll s.ids.line = is ∙ ap (λ (i : ℕ). Step.Poll i) (sym (stands_so m.store.standing n s e).1) in
      and_then (taken_walks m s.ids s.call its (elim lets [ inl begins ↦ inl begins | inr simple ↦ inr (subst ResumesSimply stands simple) ]) stands) resumed_walks

  -- == the calls on streams of a line
  -- the line's own handles, where nothing is written, or where that was begun
  pub calls : {A : Type 0} {own : Own} {m : Machine} {end : A → Here} {asks : Asks A} → IsStreamCall origin → NoStartStands m.store.standing → Walks law (Calling line (handles_of origin) None own m) end asks → Walks law (Starts m own) end asks
  calls is q w = move (CallsHandles _ OfStreams is q) w

  pub begun_calls : {A : Type 0} {m : Machine} {end : A → Here} {asks : Asks A} → IsStreamCall origin → NoStartStands m.store.standing → Walks law (Calling line (handles_of origin) None Used m) end asks → Walks law (Starts m Unused) end asks
  begun_calls is q w = calls is q (move (Spends _ refl) w)

-- what a set sets, by what its setting chooses
option_set : (c s : ℕ) (setting : TcpSetting) (option : Opt) (value : ℕ) → chosen setting ≡ AnOption option value → IsSetTo option (value_set option value) (Step.Call c (GuestCall.Tcp (TcpCall.Set s setting)))
option_set c s setting option value e = subst (SetsOption option (value_set option value)) (sym e) (refl, refl)

backlog_set : (c s : ℕ) (setting : TcpSetting) (value : ℕ) → chosen setting ≡ TheBacklog value → IsBacklogSet (clamped_backlog value) (Step.Call c (GuestCall.Tcp (TcpCall.Set s setting)))
backlog_set c s setting value e = subst (SetsBacklog (clamped_backlog value)) (sym e) refl

p3_option_set : (c s : ℕ) (setting : TcpSetting) (option : Opt) (value : ℕ) → chosen setting ≡ AnOption option value → IsSetTo option (value_set option value) (Step.Call c (GuestCall.P3Tcp (P3TcpCall.Set s setting)))
p3_option_set c s setting option value e = subst (SetsOption option (value_set option value)) (sym e) (refl, refl)

p3_backlog_set : (c s : ℕ) (setting : TcpSetting) (value : ℕ) → chosen setting ≡ TheBacklog value → IsBacklogSet (clamped_backlog value) (Step.Call c (GuestCall.P3Tcp (P3TcpCall.Set s setting)))
p3_backlog_set c s setting value e = subst (SetsBacklog (clamped_backlog value)) (sym e) refl

-- what is finished is no bind in progress
bind_settles : (doing : InProgress) → is_bind doing ≡ true → IsSettled doing
bind_settles (InProgress.Binding op) e = absurd (cc)
bind_settles _ e = tt

listen_settles : (doing : InProgress) → is_listen doing ≡ true → IsSettled doing
listen_settles (InProgress.Binding op) e = absurd (cc)
listen_settles _ e = tt

-- each step is made of moves; where a guest calls, nothing is pending
pub step_walks : {contexts : List WasiSocketsCtx} (line : ℕ) (s : Step) {law : Law contexts line s} → (m : Machine) → BeginsWrites law ⊎ IsSimpleAt m.store.standing s → (is_guest_call s ≡ true → m.store.standing ≡ None) → Walks law (Starts m (may m s)) OverWith (step_asks contexts m line s)
step_walks line (Step.Call c (GuestCall.Names NameCall.Network)) m b f = move (Spends _ refl) (and_then (and_then (mark (ANetwork c refl)) (λ made. give _)) (λ done. give _))
step_walks {contexts} line (Step.Call c (GuestCall.Tcp (TcpCall.Create family))) m b f = move (MakesRoom _ c family (context_at contexts c) refl) (and_then (create same_told code_told P2 (context_at contexts c) family (refl, refl, refl) refl refl refl) (λ done. give _))
step_walks line (Step.Call c (GuestCall.Tcp (TcpCall.StartBind s n a))) m b f = and_then (start_bind_walks m s n a (inl refl) refl (none_stands (f refl))) (λ done. give _)
step_walks line (Step.Call c (GuestCall.Tcp (TcpCall.FinishBind s))) m b f = as_left (finish_started_walks m is_bind bind_settles (socket_at m s))
step_walks line (Step.Call c (GuestCall.Tcp (TcpCall.StartConnect s n a))) m b f = and_then (start_connect_walks m s n a (inl refl) refl) (λ done. give _)
step_walks line (Step.Call c (GuestCall.Tcp (TcpCall.FinishConnect s))) m b f = and_then (finish_connect_walks c s m (inl refl) refl) (λ done. give _)
step_walks line (Step.Call c (GuestCall.Tcp (TcpCall.StartListen s))) m b f = and_then (start_listen_walks m s (socket_at m s) refl (inl refl) tt tt (none_stands (f refl))) (λ done. give _)
step_walks line (Step.Call c (GuestCall.Tcp (TcpCall.FinishListen s))) m b f = as_left (finish_started_walks m is_listen listen_settles (socket_at m s))
step_walks line (Step.Call c (GuestCall.Tcp (TcpCall.Accept s))) m b f = and_then (accept_on_walks c s m (socket_at m s) refl (inl refl) refl) (λ done. give _)
step_walks line (Step.Call c (GuestCall.Tcp (TcpCall.LocalAddress s))) m b f = and_then (local_address_walks m s (inl refl)) (λ done. give _)
step_walks line (Step.Call c (GuestCall.Tcp (TcpCall.RemoteAddress s))) m b f = and_then (remote_address_walks m s (inl refl)) (λ done. give _)
step_walks line (Step.Call c (GuestCall.Tcp (TcpCall.IsListening s))) m b f = gives _ (Spends _ refl)
step_walks line (Step.Call c (GuestCall.Tcp (TcpCall.AddressFamily s))) m b f = gives _ (Spends _ refl)
step_walks line (Step.Call c (GuestCall.Tcp (TcpCall.Get s option))) m b f = and_then (on_socket m s (socket_at m s) (inl refl) (socket_record (kind_at m.table s)) (λ place. looked_walks m place (λ x. get_option_asks (own_of line) x option) (tcp2_at m.store.records place) refl (λ r here. get_walks here refl r option refl refl))) (λ done. give _)
step_walks line (Step.Call c (GuestCall.Tcp (TcpCall.Set s setting))) m b f = and_then (set_chosen_walks m s (socket_at m s) (chosen setting) (inl refl) (socket_record (kind_at m.table s)) (option_set c s setting) (backlog_set c s setting)) (λ done. give _)
step_walks line (Step.Call c (GuestCall.Tcp (TcpCall.Shutdown s how))) m b f = and_then (on_socket m s (socket_at m s) (inl refl) (socket_record (kind_at m.table s)) (λ place. shutdown_at_walks m place how (tcp2_at m.store.records place) refl)) (λ done. give _)
step_walks {contexts} line (Step.Call c (GuestCall.P3Tcp (P3TcpCall.Create family))) m b f = and_then (create p3.handle_told p3.code_told P3 (context_at contexts c) family (refl, refl, refl) refl refl refl) (λ done. give _)
step_walks line (Step.Call c (GuestCall.P3Tcp (P3TcpCall.Bind s a))) m b f = and_then (p3_bind_walks m s a (inl refl) refl (none_stands (f refl))) (λ done. give _)
step_walks line (Step.Call c (GuestCall.P3Tcp (P3TcpCall.Connect s a))) m b f = and_then (p3_connect_walks m s a (inl refl) refl) (λ done. give _)
step_walks line (Step.Call c (GuestCall.P3Tcp (P3TcpCall.Listen s))) m b f = and_then (p3_listen_walks m s (inl refl) tt tt refl (none_stands (f refl))) (λ done. give _)
step_walks line (Step.Call c (GuestCall.P3Tcp (P3TcpCall.Accept listener remaining))) m b f = and_then (p3_accept_walks m c listener remaining (inl refl) refl) (λ done. give _)
step_walks line (Step.Call c (GuestCall.P3Tcp (P3TcpCall.Receive s))) m b f = and_then (p3_receive_walks m c s refl) (λ done. give _)
step_walks line (Step.Call c (GuestCall.P3Tcp (P3TcpCall.Send s))) m b f = and_then (p3_send_walks m c s refl) (λ done. give _)
step_walks line (Step.Call c (GuestCall.P3Tcp (P3TcpCall.Read end len))) m b f = and_then (p3_read_walks m end len (inl refl) (f refl)) (λ done. give _)
step_walks line (Step.Call c (GuestCall.P3Tcp (P3TcpCall.Write end bytes))) m b f = and_then (p3_write_walks m c end bytes (inl refl) refl (f refl)) (λ done. give _)
step_walks line (Step.Call c (GuestCall.P3Tcp (P3TcpCall.Result slot))) m b f = p3_result_walks (λ done. (slot_reply done.0, done.1)) (λ done. refl) m slot (f refl)
step_walks line (Step.Call c (GuestCall.P3Tcp (P3TcpCall.LocalAddress s))) m b f = and_then (p3_local_walks m s (inl refl)) (λ done. give _)
step_walks line (Step.Call c (GuestCall.P3Tcp (P3TcpCall.RemoteAddress s))) m b f = and_then (p3_remote_walks m s (inl refl)) (λ done. give _)
step_walks line (Step.Call c (GuestCall.P3Tcp (P3TcpCall.IsListening s))) m b f = gives _ (Spends _ refl)
step_walks line (Step.Call c (GuestCall.P3Tcp (P3TcpCall.AddressFamily s))) m b f = gives _ (Spends _ refl)
step_walks line (Step.Call c (GuestCall.P3Tcp (P3TcpCall.Get s option))) m b f = and_then (p3_get_walks m s option (inl refl) refl) (λ done. give _)
step_walks line (Step.Call c (GuestCall.P3Tcp (P3TcpCall.Set s setting))) m b f = and_then (p3_set_walks m s (chosen setting) (inl refl) (p3_option_set c s setting) (p3_backlog_set c s setting)) (λ done. give _)
step_walks {contexts} line (Step.Call c (GuestCall.P3Udp (P3UdpCall.Create family))) m b f = and_then (and_then (create_udp_walks P3 m (context_at contexts c) family (refl, refl, refl) (f refl)) (λ done. give _)) (λ done. give _)
step_walks line (Step.Call c (GuestCall.P3Udp (P3UdpCall.Bind s a))) m b f = and_then (p3_udp_bind_walks m s a (inl refl) refl (none_stands (f refl))) (λ done. give _)
step_walks line (Step.Call c (GuestCall.P3Udp (P3UdpCall.Connect s a))) m b f = and_then (p3_udp_connect_walks m s a (inl refl) refl (none_stands (f refl))) (λ done. give _)
step_walks line (Step.Call c (GuestCall.P3Udp (P3UdpCall.Disconnect s))) m b f = and_then (p3_disconnect_walks m s (inl refl) tt) (λ done. give _)
step_walks line (Step.Call c (GuestCall.P3Udp (P3UdpCall.Send s d))) m b f = and_then (p3_udp_send_walks m c s d refl (inl refl)) (λ done. give _)
step_walks line (Step.Call c (GuestCall.P3Udp (P3UdpCall.Receive s))) m b f = and_then (p3_udp_receive_walks m c s refl (inl refl)) (λ done. give _)
step_walks line (Step.Call c (GuestCall.P3Udp (P3UdpCall.LocalAddress s))) m b f = and_then (p3_udp_local_walks m s (inl refl)) (λ done. give _)
step_walks line (Step.Call c (GuestCall.P3Udp (P3UdpCall.RemoteAddress s))) m b f = gives _ (Spends _ refl)
step_walks line (Step.Call c (GuestCall.P3Udp (P3UdpCall.AddressFamily s))) m b f = gives _ (Spends _ refl)
step_walks line (Step.Call c (GuestCall.P3Udp (P3UdpCall.Get s option))) m b f = and_then (p3_udp_get_walks m s (udp_opt option) (inl refl) refl) (λ done. give _)
step_walks line (Step.Call c (GuestCall.P3Udp (P3UdpCall.Set s setting))) m b f = and_then (p3_udp_set_walks m s (udp_chosen setting).0 (udp_chosen setting).1 (inl refl) (refl, refl)) (λ done. give _)
step_walks line (Step.Call c (GuestCall.P3Names (P3NameCall.Resolve name))) m b f = and_then (p3_resolve_walks m c name refl) (λ done. give _)
step_walks {contexts} line (Step.Call c (GuestCall.Udp (UdpCall.Create family))) m b f = and_then (and_then (create_udp_walks P2 m (context_at contexts c) family (refl, refl, refl) (f refl)) (λ done. give _)) (λ done. give _)
step_walks line (Step.Call c (GuestCall.Udp (UdpCall.StartBind s n a))) m b f = and_then (start_udp_bind_walks m s n a (inl refl) refl (none_stands (f refl))) (λ done. give _)
step_walks line (Step.Call c (GuestCall.Udp (UdpCall.FinishBind s))) m b f = as_left (finish_udp_bind_walks m (udp_socket_at m s))
step_walks line (Step.Call c (GuestCall.Udp (UdpCall.LocalAddress s))) m b f = and_then (on_udp m s (udp_socket_at m s) (inl refl) (udp_record (kind_at m.table s)) (λ place. udp_local_at_walks m place (open_at m.store.records place) refl)) (λ done. give _)
step_walks line (Step.Call c (GuestCall.Udp (UdpCall.RemoteAddress s))) m b f = gives _ (Spends _ refl)
step_walks line (Step.Call c (GuestCall.Udp (UdpCall.AddressFamily s))) m b f = gives _ (Spends _ refl)
step_walks line (Step.Call c (GuestCall.Udp (UdpCall.Get s option))) m b f = and_then (on_udp m s (udp_socket_at m s) (inl refl) (udp_record (kind_at m.table s)) (λ place. udp_get_at_walks m place (udp_opt option) refl (open_at m.store.records place) refl)) (λ done. give _)
step_walks line (Step.Call c (GuestCall.Udp (UdpCall.Set s setting))) m b f = and_then (on_udp m s (udp_socket_at m s) (inl refl) (udp_record (kind_at m.table s)) (λ place. udp_set_at_walks m place (udp_chosen setting).0 (udp_chosen setting).1 (refl, refl) (open_at m.store.records place) refl)) (λ done. give _)
step_walks line (Step.Call c (GuestCall.Udp (UdpCall.Stream s remote))) m b f = and_then (stream_walks m c s remote (udp_socket_at m s) refl refl (inl refl) (none_stands (f refl))) (λ done. give _)
step_walks line (Step.Call c (GuestCall.Udp (UdpCall.Receive incoming most))) m b f = and_then (receive_walks tt m c incoming most refl (inl refl)) (λ done. give _)
step_walks line (Step.Call c (GuestCall.Udp (UdpCall.CheckSend outgoing))) m b f = as_left (check_send_walks m (outgoing_at m outgoing))
step_walks line (Step.Call c (GuestCall.Udp (UdpCall.Send outgoing ds))) m b f = and_then (send_walks m c outgoing ds refl (inl refl)) (λ done. give _)
step_walks line (Step.Call c (GuestCall.Names (NameCall.Resolve network name))) m b f = and_then (resolve_walks m (f refl) c network name refl) (λ done. give _)
step_walks line (Step.Call c (GuestCall.Names (NameCall.ResolveNext lookup))) m b f = as_left (next_address_walks m (lookup_number m lookup))
step_walks line (Step.Call c (GuestCall.Names (NameCall.NetworkErrorCode e))) m b f = gives _ (Spends _ refl)
step_walks line (Step.Call c (GuestCall.Stream (StreamCall.Read input len))) m b f = and_then (begun_calls tt (none_stands (f refl)) (calls_over (read_asks_walks m input (inl refl) len))) (λ done. give _)
step_walks line (Step.Call c (GuestCall.Stream (StreamCall.CheckWrite output))) m b f = and_then (begun_calls tt (none_stands (f refl)) (calls_over (check_asks_walks m output (inl refl)))) (λ done. give _)
step_walks line (Step.Call c (GuestCall.Stream (StreamCall.Write output bytes))) m b f = and_then (calls tt (none_stands (f refl)) (calls_over (write_asks_walks m output (inl refl) bytes (AsLet refl)))) (λ done. give _)
step_walks line (Step.Call c (GuestCall.Stream (StreamCall.Flush output))) m b f = and_then (begun_calls tt (none_stands (f refl)) (calls_over (flushed_asks_walks m output (inl refl)))) (λ done. give _)
step_walks line (Step.Call c (GuestCall.Pollable (PollableCall.Subscribe s))) m b f = and_then (subscribe_walks c s m (watched_by (kind_at m.table s)) refl refl) (λ done. give _)
step_walks line (Step.Call c (GuestCall.Pollable (PollableCall.Ready p))) m b f = ready_asks_walks m (none_stands (f refl)) p (inl refl) tt tt _
step_walks line (Step.Call c (GuestCall.Pollable (PollableCall.Block p))) {law = law} m b f = and_then (looks_begin tt (none_stands (f refl)) (block_walks law line (p ∷ []) First (refl, (λ q k. k), tt) p refl m 1)) (λ done. give _)
step_walks line (Step.Call c (GuestCall.Pollable (PollableCall.PollList ps))) m b f = and_then (looks_begin tt (none_stands (f refl)) (poll_asks_walks tt m ps (sym (append-nil ps)))) (λ done. give _)
step_walks line (Step.Call c (GuestCall.Pollable (PollableCall.Drop this))) m b f = and_then (drop_walks m this (kind_at m.table this) (inl refl) refl (f refl)) (λ done. give _)
step_walks line (Step.Call c (GuestCall.Pipe (PipeCall.In bytes))) m b f = and_then (input_pipe_walks m bytes tt) (λ done. give _)
step_walks line (Step.Call c (GuestCall.Pipe (PipeCall.Out capacity))) m b f = and_then (output_pipe_walks m capacity tt) (λ done. give _)
step_walks line (Step.Call c (GuestCall.Pipe (PipeCall.Contents output))) m b f = gives _ (Spends _ refl)
step_walks line (Step.Call c (GuestCall.Pipe PipeCall.Sink)) m b f = and_then (plain_walks m (PlainOutput plain_output.Sink) tt tt) (λ done. give _)
step_walks line (Step.Call c (GuestCall.Pipe PipeCall.ClosedIn)) m b f = and_then (plain_walks m (PlainInput plain_input.Closed) tt tt) (λ done. give _)
step_walks line (Step.Call c (GuestCall.Pipe PipeCall.ClosedOut)) m b f = and_then (plain_walks m (PlainOutput plain_output.Closed) tt tt) (λ done. give _)
step_walks line (Step.Call c (GuestCall.Stream (StreamCall.Skip input len))) m b f = and_then (begun_calls tt (none_stands (f refl)) (calls_over (skip_asks_walks m input (inl refl) len))) (λ done. give _)
step_walks line (Step.Call c (GuestCall.Stream (StreamCall.WriteZeroes output len))) m b f = and_then (calls tt (none_stands (f refl)) (calls_over (write_asks_walks m output (inl refl) (zeros len) (AsLet refl)))) (λ done. give _)
step_walks line (Step.Call c (GuestCall.Stream (StreamCall.Splice output input len))) m (inl begins) f = and_then (begun_calls tt (none_stands (f refl)) (splice_walks begins output input (inl refl) (inr (inl refl)) m len)) (λ done. give _)
step_walks line (Step.Call c (GuestCall.Stream (StreamCall.Splice output input len))) m (inr none) f = absurd none
step_walks line (Step.Call c (GuestCall.Stream (StreamCall.BlockingRead input len))) m b f = and_then (begun_calls tt (none_stands (f refl)) (blocking_read_walks (first_ids line) input len m)) (λ done. give _)
step_walks line (Step.Call c (GuestCall.Stream (StreamCall.BlockingSkip input len))) m b f = and_then (begun_calls tt (none_stands (f refl)) (blocking_skip_walks (first_ids line) input len m)) (λ done. give _)
step_walks line (Step.Call c (GuestCall.Stream (StreamCall.BlockingWrite output bytes))) m (inl begins) f = and_then (begun_calls tt (none_stands (f refl)) (blocking_write_walks (first_ids line) output begins m bytes)) (λ done. give _)
step_walks line (Step.Call c (GuestCall.Stream (StreamCall.BlockingWrite output bytes))) m (inr none) f = absurd none
step_walks line (Step.Call c (GuestCall.Stream (StreamCall.BlockingZeroes output len))) m (inl begins) f = and_then (begun_calls tt (none_stands (f refl)) (blocking_zeroes_walks (first_ids line) output begins m len)) (λ done. give _)
step_walks line (Step.Call c (GuestCall.Stream (StreamCall.BlockingZeroes output len))) m (inr none) f = absurd none
step_walks line (Step.Call c (GuestCall.Stream (StreamCall.BlockingFlush output))) m b f = and_then (begun_calls tt (none_stands (f refl)) (blocking_flush_walks (first_ids line) output m)) (λ done. give _)
step_walks line (Step.Call c (GuestCall.Stream (StreamCall.BlockingSplice output input len))) m (inl begins) f = and_then (begun_calls tt (none_stands (f refl)) (blocking_splice_walks (first_ids line) begins output input len m)) (λ done. give _)
step_walks line (Step.Call c (GuestCall.Stream (StreamCall.BlockingSplice output input len))) m (inr none) f = absurd none
step_walks line (Step.Cancel n) m b f = and_then (cancel_walks m n (call_of m.store.standing n) refl) (λ done. give _)
step_walks line Step.Turn m b f = and_then (turn_walks m) (λ done. give _)
step_walks line (Step.Poll n) m b f = and_then (resume_walks m n refl (call_of m.store.standing n) refl b) (λ done. give _)

-- what a line may begin to write: nothing, while a call is pending
abbrev pub may_while : Machine → Step → Option Standing → Own
may_while m s None = may m s
may_while m s (Some c) = Unused

-- what is done while a call is pending
goes_on : {contexts : List WasiSocketsCtx} (line : ℕ) (s : Step) {law : Law contexts line s} (m : Machine) (c : Standing) → m.store.standing ≡ Some c → BeginsWrites law ⊎ IsSimple (Some c) s → is_held_up m.store s ≡ false → Walks law (Starts m Unused) OverWith (step_asks contexts m line s)
goes_on line Step.Turn m c e b g = step_walks line Step.Turn m (inr tt) (λ guest. absurd (cc))
goes_on line (Step.Cancel n) m c e b g = step_walks line (Step.Cancel n) m (inr tt) (λ guest. absurd (cc))
goes_on line (Step.Poll n) m c e b g = step_walks line (Step.Poll n) m (elim b [ inl begins ↦ inl begins | inr simple ↦ inr (subst ResumesSimply (sym e) simple) ]) (λ guest. absurd (cc))
goes_on line _ m c e b g = absurd (cc)

line_walks : {contexts : List WasiSocketsCtx} (line : ℕ) (s : Step) {law : Law contexts line s} (m : Machine) (standing : Option Standing) → BeginsWrites law ⊎ IsSimple standing s → m.store.standing ≡ standing → Walks law (Starts m (may_while m s standing)) OverWith (asks_while contexts m line s standing)
line_walks line s m None b e = step_walks line s m (elim b [ inl begins ↦ inl begins | inr simple ↦ inr (subst (λ (o : Option Standing). IsSimpleAt o s) (sym e) simple) ]) (λ guest. e)
line_walks line s m (Some c) b e = by_if (is_held_up m.store s) (λ busy. gives _ (Spends _ refl)) (λ other. goes_on line s m c e b other)

-- a line, under a law that lets writes begin
pub machine_walks : {contexts : List WasiSocketsCtx} (line : ℕ) (s : Step) {law : Law contexts line s} → BeginsWrites law → (m : Machine) (standing : Option Standing) → m.store.standing ≡ standing → Walks law (Starts m (may_while m s standing)) OverWith (asks_while contexts m line s standing)
machine_walks line s begins m standing e = line_walks line s m standing (inl begins) e

-- and one that writes nothing after it asked, under any law
pub simple_walks : {contexts : List WasiSocketsCtx} (line : ℕ) (s : Step) {law : Law contexts line s} (m : Machine) (standing : Option Standing) → IsSimple standing s → m.store.standing ≡ standing → Walks law (Starts m (may_while m s standing)) OverWith (asks_while contexts m line s standing)
simple_walks line s m standing simple e = line_walks line s m standing (inr simple) e
