-- Each step is answered as its table says, and which replies it may give.
use Rattle.wasi_causes.proofs.Words.{◌≡◌, ◌≢◌, ℕ, Bool, true, List, [], Option, Some, None, refl, subst, ◌⊎◌, inl, inr, ◌+◌, ◌∷◌, ◌++◌, append-nil, append_assoc, false, sym, ◌∙◌, ◌↔◌, IsSome, is_some, first_state, Machine, Standing, Answered, IsQuiet, MissesHandle, is_guest_call, step_asks, asks_while, run, is_trap, truth_fields, IsFailure, MayStand, CodeWord, Field, Reply, Step, Give, Left, Entry, TrapKind, WasiSocketsCtx}
use Rattle.wasi_causes.proofs.Ending.{drop, shutdown}
use Rattle.wasi_causes.proofs.Machine.{subscribe, ready}
use Rattle.wasi_causes.proofs.Resumes.{poll}
use Rattle.wasi_causes.proofs.sockets.Makes.{network, create, finish_connect_row, accept}
use Rattle.wasi_causes.proofs.sockets.Questions.{get, set, local_address_row, remote_address_row, is_listens, family}
use Rattle.wasi_causes.proofs.sockets.P3Binds.{p3_tcp_bind, p3_udp_bind}
use Rattle.wasi_causes.proofs.sockets.P3UdpConnects.{p3_udp_connect}
use Rattle.wasi_causes.proofs.sockets.P3Datagrams.{p3_udp_receive, p3_udp_send}
use Rattle.wasi_causes.proofs.sockets.P3Listens.{p3_tcp_listen}
use Rattle.wasi_causes.proofs.sockets.P3Accepts.{p3_accept}
use Rattle.wasi_causes.proofs.sockets.P3Ends.{p3_receive, p3_send}
use Rattle.wasi_causes.proofs.sockets.P3Results.{p3_result}
use Rattle.wasi_causes.proofs.streams.EndPolls.{p3_read, p3_write}
use Rattle.wasi_causes.proofs.sockets.P3Connects.{p3_tcp_connect}
use Rattle.wasi_causes.proofs.sockets.P3Udp.{p3_udp_disconnect, p3_udp_family, p3_udp_get, p3_udp_local_address, p3_udp_remote_address, p3_udp_set}
use Rattle.wasi_causes.proofs.sockets.Tcp3.{p3_address_family, p3_create, p3_get, p3_is_listening, p3_local_address, p3_remote_address, p3_set}
use Rattle.wasi_causes.proofs.sockets.Starts.{finish_bind, finish_listen, start_bind, start_connect, start_listen}
use Rattle.wasi_causes.proofs.sockets.Udp.{udp_finish_bind, udp_local_address, udp_remote_address, udp_family, udp_get, udp_set}
use Rattle.wasi_causes.proofs.sockets.UdpBinds.{udp_start_bind}
use Rattle.wasi_causes.proofs.sockets.UdpCreates.{p3_udp_create, udp_create}
use Rattle.wasi_causes.proofs.udp_streams.Sends.{udp_check_send, udp_send}
use Rattle.wasi_causes.proofs.udp_streams.Receives.{udp_receive}
use Rattle.wasi_causes.proofs.udp_streams.Streams.{udp_stream}
use Rattle.wasi_causes.proofs.resolving.Begins.{resolve}
use Rattle.wasi_causes.proofs.resolving.P3Resolves.{p3_resolve}
use Rattle.wasi_causes.proofs.resolving.Hands.{network_error_code, resolve_next}
use Rattle.wasi_causes.proofs.pollables.Steps.{block, poll_list}
use Rattle.wasi_causes.proofs.streams.Halves.{read, check_write, write, flush}
use Rattle.wasi_causes.proofs.streams.Turns.{turn}
use Rattle.wasi_causes.proofs.streams.Makes.{closed_in, closed_out, pipe_contents, pipe_in, pipe_out, sink}
use Rattle.wasi_causes.proofs.streams.Cancels.{cancel}
use Rattle.wasi_causes.proofs.streams.Splices.{skip, splice, write_zeroes}
use Rattle.wasi_causes.proofs.streams.BlockingSteps.{blocking_flush, blocking_read, blocking_skip, blocking_splice, blocking_write, blocking_zeroes}
use Rattle.wasi_causes.proofs.tables.Meets.{Meets, ends, widen, branch, met, chain, shifted}
use Rattle.wasi_causes.proofs.tables.Routes.{Says}
use Rattle.wasi_causes.specs.Outcomes.{LaterPartIsThere, Outcome, PendsUnder, Quiet, IsStreamCall, MayRefuse, MayMiss, MayTrap, MayWait, may_answer, EachMayAnswer, LeavesMissing, Looks, Traps}
use Rattle.wasi_causes.specs.Datagrams.{PendingHandleIsLive}
use Rattle.wasi_walks.specs.Waiting.{IsPoll, left_missing}
use Rattle.std.specs.Prelude.{◌||◌, ◌&&◌, not, IsSomeAnd}
use Rattle.host_store.specs.Beside.{beside_of, stands_under}
use Rattle.host_store.specs.Standing.{standing_as, stands_as}
use Rattle.host_store.specs.declared.store.StandingCall.{StandingCall}
use Rattle.wasi_world.specs.declared.ids.Ids.{Ids}
use Rattle.wasi_causes.proofs.Beside.{polls_itself}
use Rattle.host_store.specs.Store.{Records}
use Rattle.wasi_machine.specs.Machine.{is_held_up, polls_beside}
use Rattle.wasi_steps.specs.Steps.{context_of}
use Rattle.wasi_steps.specs.declared.reply.Field.TheVariants as field
use Rattle.wasi_steps.specs.declared.reply.Reply.TheVariants as reply
use Rattle.wasi_steps.specs.declared.guest_call.GuestCall.TheVariants as guest
use Rattle.wasi_steps.specs.declared.guest_call.TcpCall.TheVariants as tcp_call
use Rattle.wasi_steps.specs.declared.guest_call.UdpCall.TheVariants as udp_call
use Rattle.wasi_steps.specs.declared.guest_call.NameCall.TheVariants as name_call
use Rattle.wasi_steps.specs.declared.guest_call.StreamCall.TheVariants as stream_call
use Rattle.wasi_steps.specs.declared.guest_call.PipeCall.TheVariants as pipe_call
use Rattle.wasi_steps.specs.declared.guest_call.PollableCall.TheVariants as pollable_call
use Rattle.wasi_steps.specs.declared.guest_call.P3TcpCall.TheVariants as p3_tcp_call
use Rattle.wasi_steps.specs.declared.guest_call.P3UdpCall.TheVariants as p3_udp_call
use Rattle.wasi_steps.specs.declared.guest_call.P3NameCall.TheVariants as p3_name_call
use Rattle.wasi_steps.specs.declared.step.Step.TheVariants as step
use Rattle.wasi_world.specs.declared.outcome.TrapKind.TheVariants as trap

module _ (contexts : List WasiSocketsCtx) (m : Machine) (line : ℕ) where
  rows : (s : Step) → Meets (Says contexts m line s) [] (step_asks contexts m line s)
  rows (step.Call c (guest.Names name_call.Network)) = network contexts m line c
  rows (step.Call c (guest.Tcp (tcp_call.Create family))) = create contexts m line c family
  rows (step.Call c (guest.Tcp (tcp_call.StartBind s n a))) = start_bind contexts m line c s n a
  rows (step.Call c (guest.Tcp (tcp_call.FinishBind s))) = finish_bind contexts m line c s
  rows (step.Call c (guest.Tcp (tcp_call.StartConnect s n a))) = start_connect contexts m line c s n a
  rows (step.Call c (guest.Tcp (tcp_call.FinishConnect s))) = finish_connect_row contexts m line c s
  rows (step.Call c (guest.Tcp (tcp_call.StartListen s))) = start_listen contexts m line c s
  rows (step.Call c (guest.Tcp (tcp_call.FinishListen s))) = finish_listen contexts m line c s
  rows (step.Call c (guest.Tcp (tcp_call.Accept s))) = accept contexts m line c s
  rows (step.Call c (guest.Tcp (tcp_call.LocalAddress s))) = local_address_row contexts m line c s
  rows (step.Call c (guest.Tcp (tcp_call.RemoteAddress s))) = remote_address_row contexts m line c s
  rows (step.Call c (guest.Tcp (tcp_call.IsListening s))) = is_listens contexts m line c s
  rows (step.Call c (guest.Tcp (tcp_call.AddressFamily s))) = family contexts m line c s
  rows (step.Call c (guest.Tcp (tcp_call.Get s option))) = get contexts m line c s option
  rows (step.Call c (guest.Tcp (tcp_call.Set s setting))) = set contexts m line c s setting
  rows (step.Call c (guest.Tcp (tcp_call.Shutdown s how))) = shutdown contexts m line c s how
  rows (step.Call c (guest.Udp (udp_call.Create family))) = udp_create contexts m line c family
  rows (step.Call c (guest.Udp (udp_call.StartBind s n a))) = udp_start_bind contexts m line c s n a
  rows (step.Call c (guest.Udp (udp_call.FinishBind s))) = udp_finish_bind contexts m line c s
  rows (step.Call c (guest.Udp (udp_call.LocalAddress s))) = udp_local_address contexts m line c s
  rows (step.Call c (guest.Udp (udp_call.RemoteAddress s))) = udp_remote_address contexts m line c s
  rows (step.Call c (guest.Udp (udp_call.AddressFamily s))) = udp_family contexts m line c s
  rows (step.Call c (guest.Udp (udp_call.Stream s remote))) = udp_stream contexts m line c s remote
  rows (step.Call c (guest.Udp (udp_call.Receive incoming most))) = udp_receive contexts m line c incoming most
  rows (step.Call c (guest.Udp (udp_call.CheckSend outgoing))) = udp_check_send contexts m line c outgoing
  rows (step.Call c (guest.Udp (udp_call.Send outgoing ds))) = udp_send contexts m line c outgoing ds
  rows (step.Call c (guest.Udp (udp_call.Get s option))) = udp_get contexts m line c s option
  rows (step.Call c (guest.Udp (udp_call.Set s setting))) = udp_set contexts m line c s setting
  rows (step.Call c (guest.Names (name_call.Resolve network name))) = resolve contexts m line c network name
  rows (step.Call c (guest.Names (name_call.ResolveNext lookup))) = resolve_next contexts m line c lookup
  rows (step.Call c (guest.Names (name_call.NetworkErrorCode e))) = network_error_code contexts m line c e
  rows (step.Call c (guest.Stream (stream_call.Read input len))) = read contexts m line c input len
  rows (step.Call c (guest.Stream (stream_call.CheckWrite output))) = check_write contexts m line c output
  rows (step.Call c (guest.Stream (stream_call.Write output bytes))) = write contexts m line c output bytes
  rows (step.Call c (guest.Stream (stream_call.Flush output))) = flush contexts m line c output
  rows (step.Call c (guest.Pipe (pipe_call.In bytes))) = pipe_in contexts m line c bytes
  rows (step.Call c (guest.Pipe (pipe_call.Out capacity))) = pipe_out contexts m line c capacity
  rows (step.Call c (guest.Pipe (pipe_call.Contents output))) = pipe_contents contexts m line c output
  rows (step.Call c (guest.Pipe pipe_call.Sink)) = sink contexts m line c
  rows (step.Call c (guest.Pipe pipe_call.ClosedIn)) = closed_in contexts m line c
  rows (step.Call c (guest.Pipe pipe_call.ClosedOut)) = closed_out contexts m line c
  rows (step.Call c (guest.Stream (stream_call.Skip input len))) = skip contexts m line c input len
  rows (step.Call c (guest.Stream (stream_call.WriteZeroes output len))) = write_zeroes contexts m line c output len
  rows (step.Call c (guest.Stream (stream_call.Splice to from len))) = splice contexts m line c to from len
  rows (step.Call c (guest.Stream (stream_call.BlockingRead input len))) = blocking_read contexts m line c input len
  rows (step.Call c (guest.Stream (stream_call.BlockingSkip input len))) = blocking_skip contexts m line c input len
  rows (step.Call c (guest.Stream (stream_call.BlockingWrite output bytes))) = blocking_write contexts m line c output bytes
  rows (step.Call c (guest.Stream (stream_call.BlockingZeroes output len))) = blocking_zeroes contexts m line c output len
  rows (step.Call c (guest.Stream (stream_call.BlockingFlush output))) = blocking_flush contexts m line c output
  rows (step.Call c (guest.Stream (stream_call.BlockingSplice to from len))) = blocking_splice contexts m line c to from len
  rows (step.Call c (guest.Pollable (pollable_call.Block p))) = block contexts m line c p
  rows (step.Call c (guest.Pollable (pollable_call.PollList ps))) = poll_list contexts m line c ps
  rows (step.Cancel n) = cancel contexts m line n
  rows (step.Call c (guest.Pollable (pollable_call.Subscribe h))) = subscribe contexts m line c h
  rows (step.Call c (guest.Pollable (pollable_call.Ready p))) = ready contexts m line c p
  rows (step.Call c (guest.Pollable (pollable_call.Drop h))) = drop contexts m line c h
  rows (step.Call c (guest.P3Tcp (p3_tcp_call.Create family))) = p3_create contexts m line c family
  rows (step.Call c (guest.P3Tcp (p3_tcp_call.LocalAddress s))) = p3_local_address contexts m line c s
  rows (step.Call c (guest.P3Tcp (p3_tcp_call.RemoteAddress s))) = p3_remote_address contexts m line c s
  rows (step.Call c (guest.P3Tcp (p3_tcp_call.IsListening s))) = p3_is_listening contexts m line c s
  rows (step.Call c (guest.P3Tcp (p3_tcp_call.AddressFamily s))) = p3_address_family contexts m line c s
  rows (step.Call c (guest.P3Tcp (p3_tcp_call.Get s option))) = p3_get contexts m line c s option
  rows (step.Call c (guest.P3Tcp (p3_tcp_call.Set s setting))) = p3_set contexts m line c s setting
  rows (step.Call c (guest.P3Udp (p3_udp_call.Create family))) = p3_udp_create contexts m line c family
  rows (step.Call c (guest.P3Tcp (p3_tcp_call.Bind s a))) = p3_tcp_bind contexts m line c s a
  rows (step.Call c (guest.P3Tcp (p3_tcp_call.Connect s a))) = p3_tcp_connect contexts m line c s a
  rows (step.Call c (guest.P3Udp (p3_udp_call.Bind s a))) = p3_udp_bind contexts m line c s a
  rows (step.Call c (guest.P3Tcp (p3_tcp_call.Listen s))) = p3_tcp_listen contexts m line c s
  rows (step.Call c (guest.P3Tcp (p3_tcp_call.Accept s remaining))) = p3_accept contexts m line c s remaining
  rows (step.Call c (guest.P3Tcp (p3_tcp_call.Receive s))) = p3_receive contexts m line c s
  rows (step.Call c (guest.P3Tcp (p3_tcp_call.Send s))) = p3_send contexts m line c s
  rows (step.Call c (guest.P3Tcp (p3_tcp_call.Read h len))) = p3_read contexts m line c h len
  rows (step.Call c (guest.P3Tcp (p3_tcp_call.Write h bytes))) = p3_write contexts m line c h bytes
  rows (step.Call c (guest.P3Tcp (p3_tcp_call.Result h))) = p3_result contexts m line c h
  rows (step.Call c (guest.P3Udp (p3_udp_call.Connect s a))) = p3_udp_connect contexts m line c s a
  rows (step.Call c (guest.P3Udp (p3_udp_call.Send s d))) = p3_udp_send contexts m line c s d
  rows (step.Call c (guest.P3Udp (p3_udp_call.Receive s))) = p3_udp_receive contexts m line c s
  rows (step.Call c (guest.P3Udp (p3_udp_call.Disconnect s))) = p3_udp_disconnect contexts m line c s
  rows (step.Call c (guest.P3Udp (p3_udp_call.LocalAddress s))) = p3_udp_local_address contexts m line c s
  rows (step.Call c (guest.P3Udp (p3_udp_call.RemoteAddress s))) = p3_udp_remote_address contexts m line c s
  rows (step.Call c (guest.P3Udp (p3_udp_call.AddressFamily s))) = p3_udp_family contexts m line c s
  rows (step.Call c (guest.P3Udp (p3_udp_call.Get s option))) = p3_udp_get contexts m line c s option
  rows (step.Call c (guest.P3Udp (p3_udp_call.Set s setting))) = p3_udp_set contexts m line c s setting
  rows (step.Call c (guest.P3Names (p3_name_call.Resolve name))) = p3_resolve contexts m line c name
  rows step.Turn = turn m contexts line
  rows (step.Poll n) = poll contexts m line n

  -- an exclusive call is pending, and the step is a call of a guest, or polls a call beside others
  abbrev pub IsHeldUp : Step → Type 0
  IsHeldUp s = IsSome m.store.standing × (IsSome (context_of s) ⊎ (polls_beside m.store s ≡ true))

  -- A step is busy while it is held up; else its answer is its own.
  pub data Answers (s : Step) : List Entry → Reply → Machine → Type 0 where
    IsBusy : IsHeldUp s → Answers s [] reply.Busy m
    IsItsOwn : (es : List Entry) (r : Reply) (after : Machine) → (IsHeldUp s → ⊥) → Outcome contexts m line s es r after → Answers s es r after

  held_by : (o : Option ℕ) (beside : Bool) → (is_some o || beside) ≡ true → IsSome o ⊎ (beside ≡ true)
  held_by None beside e = inr e
  held_by (Some c) beside e = inl refl

  not_held : (o : Option ℕ) (beside : Bool) → (is_some o || beside) ≡ false → IsSome o ⊎ (beside ≡ true) → ⊥
  not_held None beside e (inl guest) = absurd (cc)
  not_held None beside e (inr polls) = absurd (cc)
  not_held (Some c) beside e held = absurd (cc)

  -- what is no call of a guest and polls no call beside others isn't held up
  pub other_free : (s : Step) → context_of s ≡ None → polls_beside m.store s ≡ false → IsHeldUp s → ⊥
  other_free s none beside h = elim h.1 [ inl guest ↦ (let k : IsSome {T = ℕ} None = rw none at guest in cc) | inr polls ↦ (cc) ]

  -- so is a poll of the exclusive call
  pub itself_free : (n : ℕ) → stands_as m.store.standing n ≡ true → IsHeldUp (step.Poll n) → ⊥
  itself_free n stands = other_free (step.Poll n) refl (rw stands refl)

  pub own_free : (ids : Ids) (call : StandingCall) → m.store.standing ≡ Some (standing_as ids call) → IsHeldUp (step.Poll ids.line) → ⊥
  own_free ids call stands = other_free (step.Poll ids.line) refl (polls_itself m ids call stands)

  pub by_standing : (s : Step) (o : Option Standing) → m.store.standing ≡ o → Meets (λ es done. Answers s es done.0 done.1) [] (asks_while contexts m line s o)
  by_standing s None e = widen (λ es done row. IsItsOwn es done.0 done.1 (λ h. let stands : IsSome {T = Standing} None = rw e at h.0 in cc) row) (rows s)
  by_standing s (Some call) e =
      branch (is_held_up m.store s) (λ held. ends (IsBusy (rw e refl, held_by (context_of s) (polls_beside m.store s) held)))
      (λ other. widen (λ es done row. IsItsOwn es done.0 done.1 (λ h. not_held (context_of s) (polls_beside m.store s) other h.1) row) (rows s))

  pub answers : (s : Step) (es : List Entry) (r : Reply) (after : Machine) → Answered contexts m line s es r after → Answers s es r after
  answers s es r after w = met {a = (r, after)} (by_standing s m.store.standing refl) w

  -- == of an answer
  module _ (s : Step) where
    of_either : (P : List Entry → Reply → Machine → Type 0) → (IsHeldUp s → P [] reply.Busy m) → ((es : List Entry) (r : Reply) (after : Machine) → (IsHeldUp s → ⊥) → Outcome contexts m line s es r after → P es r after)
        → (es : List Entry) (r : Reply) (after : Machine) → Answers s es r after → P es r after
    of_either P busy own _ _ _ (IsBusy held) = busy held
    of_either P busy own _ _ _ (IsItsOwn es r after free row) = own es r after free row

    pub of_answer : (P : List Entry → Reply → Machine → Type 0) → P [] reply.Busy m → ((es : List Entry) (r : Reply) (after : Machine) → Outcome contexts m line s es r after → P es r after)
        → (es : List Entry) (r : Reply) (after : Machine) → Answered contexts m line s es r after → P es r after
    of_answer P busy own es r after w = of_either P (λ held. busy) (λ es r after free row. own es r after row) es r after (answers s es r after w)

    pub its_own : (es : List Entry) (r : Reply) (after : Machine) → Answered contexts m line s es r after → r ≢ reply.Busy → Outcome contexts m line s es r after
    its_own es r after w other = of_answer (λ es r after. r ≢ reply.Busy → Outcome contexts m line s es r after) (λ no. absurd (no refl)) (λ es r after row no. row) es r after w other

    pub unheld : (IsHeldUp s → ⊥) → (es : List Entry) (r : Reply) (after : Machine) → Answered contexts m line s es r after → Outcome contexts m line s es r after
    unheld none es r after w = of_either (λ es r after. Outcome contexts m line s es r after) (λ held. absurd (none held)) (λ es r after free row. row) es r after (answers s es r after w)

    pub while_free : m.store.standing ≡ None → (es : List Entry) (r : Reply) (after : Machine) → Answered contexts m line s es r after → Outcome contexts m line s es r after
    while_free free = unheld (λ h. let stands : IsSome {T = Standing} None = rw free at h.0 in cc)

    no_row : (es : List Entry) (r : Reply) (after : Machine) → Outcome contexts m line s es r after → r ≢ reply.Busy
    no_row es r after row e = (subst (λ (x : Reply). Outcome contexts m line s es x after) e row).1

  pub busy_exactly : (s : Step) (es : List Entry) (r : Reply) (after : Machine) → Answered contexts m line s es r after → (r ≡ reply.Busy) ↔ IsHeldUp s
  busy_exactly s es r after w =
      of_either s (λ es r after. (r ≡ reply.Busy) ↔ IsHeldUp s) (λ held. (λ e. held, λ h. refl)) (λ es r after free row. (λ e. absurd (no_row s es r after row e), λ h. absurd (free h))) es r after (answers s es r after w)

  pub busy_is_quiet : (s : Step) (es : List Entry) (after : Machine) → Answered contexts m line s es reply.Busy after → Quiet m es after
  busy_is_quiet s es after w = of_answer s (λ es r after. r ≡ reply.Busy → Quiet m es after) (λ e. (refl, refl)) (λ es r after row e. absurd (no_row s es r after row e)) es reply.Busy after w refl

misses : (m : Machine) (s : Step) → MissesHandle m s → MayMiss s
misses m (step.Call ctx (guest.Names name_call.Network)) h = h
misses m (step.Call ctx (guest.Tcp (tcp_call.Create _))) h = h
misses m (step.Call ctx (guest.Udp (udp_call.Create _))) h = h
misses m (step.Call ctx (guest.P3Udp (p3_udp_call.Create _))) h = h
misses m (step.Call ctx (guest.P3Tcp (p3_tcp_call.Create _))) h = h
misses m (step.Call ctx (guest.P3Names (p3_name_call.Resolve _))) h = h
misses m (step.Call ctx (guest.Pipe (pipe_call.In _))) h = h
misses m (step.Call ctx (guest.Pipe (pipe_call.Out _))) h = h
misses m (step.Call ctx (guest.Pipe pipe_call.Sink)) h = h
misses m (step.Call ctx (guest.Pipe pipe_call.ClosedIn)) h = h
misses m (step.Call ctx (guest.Pipe pipe_call.ClosedOut)) h = h
misses m (step.Cancel n) h = h
misses m step.Turn h = h
misses m _ h = tt

waits : (m : Machine) (line n : ℕ) (s : Step) → MayStand m line s n → MayWait line s n
waits m line n (step.Call ctx (guest.Tcp (tcp_call.StartBind socket _ a))) h = h
waits m line n (step.Call ctx (guest.Tcp (tcp_call.StartListen socket))) h = h
waits m line n (step.Call ctx (guest.Udp (udp_call.Create _))) h = h
waits m line n (step.Call ctx (guest.P3Tcp (p3_tcp_call.Bind _ _))) h = h
waits m line n (step.Call ctx (guest.P3Tcp (p3_tcp_call.Connect _ _))) h = h
waits m line n (step.Call ctx (guest.P3Udp (p3_udp_call.Create _))) h = h
waits m line n (step.Call ctx (guest.P3Udp (p3_udp_call.Bind _ _))) h = h
waits m line n (step.Call ctx (guest.P3Udp (p3_udp_call.Connect _ _))) h = h
waits m line n (step.Call ctx (guest.P3Tcp (p3_tcp_call.Listen _))) h = h
waits m line n (step.Call ctx (guest.P3Udp (p3_udp_call.Send _ _))) h = h
waits m line n (step.Call ctx (guest.P3Udp (p3_udp_call.Receive _))) h = h
waits m line n (step.Call ctx (guest.P3Names (p3_name_call.Resolve _))) h = h
waits m line n (step.Call ctx (guest.Udp (udp_call.StartBind socket _ a))) h = h
waits m line n (step.Call ctx (guest.Udp (udp_call.Stream socket remote))) h = h
waits m line n (step.Call ctx (guest.Pollable (pollable_call.Drop handle))) h = h.1
waits m line n (step.Call ctx (guest.Stream (stream_call.BlockingRead input len))) h = h
waits m line n (step.Call ctx (guest.Stream (stream_call.BlockingSkip input len))) h = h
waits m line n (step.Call ctx (guest.Stream (stream_call.BlockingWrite output bytes))) h = h
waits m line n (step.Call ctx (guest.Stream (stream_call.BlockingZeroes output len))) h = h
waits m line n (step.Call ctx (guest.Stream (stream_call.BlockingFlush output))) h = h
waits m line n (step.Call ctx (guest.Stream (stream_call.BlockingSplice to from len))) h = h
waits m line n (step.Call ctx (guest.Pollable (pollable_call.Block pollable))) h = h
waits m line n (step.Call ctx (guest.Pollable (pollable_call.PollList pollables))) h = h
waits m line n (step.Poll call) h = h
waits m line n _ h = absurd h

-- a call is pending under this number: the exclusive call, or one beside others
pub pends_under : (s : Step) (n : ℕ) (after : Machine) → PendsUnder s n after → IsSomeAnd after.store.standing (λ call. call.ids.line ≡ n) ⊎ IsSome (beside_of after.store n)
pends_under (step.Call c (guest.P3Tcp (p3_tcp_call.Connect socket a))) n after h = inr h
pends_under (step.Call c (guest.P3Names (p3_name_call.Resolve name))) n after h = inr h
pends_under (step.Call c (guest.P3Udp (p3_udp_call.Send socket d))) n after h = inr h
pends_under (step.Call c (guest.P3Udp (p3_udp_call.Receive socket))) n after h = inr h
pends_under (step.Poll k) n after h = h
pends_under _ n after h = inl h

some_is : (o : Option ℕ) → IsSome o → is_some o ≡ true
some_is None h = absurd (cc)
some_is (Some n) h = refl

-- a poll of a call beside others is a poll
polls : (store : Records) (s : Step) → polls_beside store s ≡ true → IsPoll s
polls store (step.Poll n) e = tt
polls store _ e = absurd (cc)

either_stands : (a b : Bool) → (not a && b) ≡ true → (a || b) ≡ false → ⊥
either_stands true b on off = cc
either_stands false b on off = cc

module _ (contexts : List WasiSocketsCtx) (m : Machine) (line : ℕ) where
  traps : (s : Step) (es : List Entry) (kind : TrapKind) (after : Machine) → Traps contexts m line s es kind after → MayTrap s kind
  traps s es trap.NoSuchHandle after h = misses m s h.0
  traps s es trap.HasChildren after h = h.0
  traps s es trap.Full after h = h.0
  traps s es trap.NotPermitted after h = h.0
  traps s es trap.StreamsAlive after h = h.0
  traps s es trap.Capacity after h = h.0
  traps s es trap.TooLong after h = h.0
  traps s es trap.EmptyList after h = h.0
  traps s es _ after h = absurd h

  busy_may : (s : Step) → IsSome (context_of s) ⊎ (polls_beside m.store s ≡ true) → (is_guest_call s ≡ true) ⊎ IsPoll s
  busy_may s (inl guest) = inl (some_is (context_of s) guest)
  busy_may s (inr beside) = inr (polls m.store s beside)

  -- a poll finds no call exactly where none is pending under its number; one that is busy finds one beside others
  pub polls_exactly : (n : ℕ) (es : List Entry) (r : Reply) (after : Machine) → Answered contexts m line (step.Poll n) es r after → (r ≡ reply.NoSuchCall) ↔ (stands_under m.store n ≡ false)
  polls_exactly n es r after w =
      of_either contexts m line (step.Poll n) (λ es r after. (r ≡ reply.NoSuchCall) ↔ (stands_under m.store n ≡ false)) (λ held. (λ e. absurd (cc), λ none. absurd (is_there held.1 none))) (λ es r after free row. row.0.0) es r after (answers contexts m line (step.Poll n) es r after w)
    where
      is_there : IsSome {T = ℕ} None ⊎ (polls_beside m.store (step.Poll n) ≡ true) → stands_under m.store n ≡ false → ⊥
      is_there (inl guest) none = cc
      is_there (inr beside) none = either_stands (stands_as m.store.standing n) (is_some (beside_of m.store n)) beside none

  by_row : (s : Step) (es : List Entry) (r : Reply) (after : Machine) → Outcome contexts m line s es r after → may_answer line s r
  by_row s es (reply.Ok fields) after row = row.1.0
  by_row s es (reply.Err w) after row = row.1.0
  by_row s es reply.Closed after row = row.1.0
  by_row s es (reply.Failed w handle) after row = row.1.0
  by_row s es (reply.Trap kind) after row = traps s es kind after row.1
  by_row s es (reply.Pending n) after row = waits m line n s row.1.0.0
  by_row s es reply.NoSuchCall after row = row.1.0
  by_row s es reply.Cancelled after row = row.1.0
  by_row s es reply.Dropped after row = row.1.0
  by_row s es reply.Unfilled after row = row.1.0
  by_row s es _ after row = absurd row.1

  may : {s : Step} {es : List Entry} {r : Reply} {after : Machine} → Answers contexts m line s es r after → may_answer line s r
  may {s} (IsBusy held) = busy_may s held.1
  may {s} (IsItsOwn es r after free row) = by_row s es r after row

  pub may_be : (s : Step) (es : List Entry) (r : Reply) (after : Machine) → Answered contexts m line s es r after → may_answer line s r
  may_be s es r after w = may (answers contexts m line s es r after w)

-- == of a run
module _ (contexts : List WasiSocketsCtx) where
  -- the replies so far come first, and then those of these lines
  adds : (replies : List Reply) (line : ℕ) (todo : List Step) (m : Machine) (es : List Entry) → Meets (λ es done. (more : List Reply) × (done.0 ≡ replies ++ more) × EachMayAnswer line todo more) es (run contexts replies m line todo)
  adds replies line [] m es = ends ([], sym (append-nil replies), tt)
  adds replies line (s ∷ todo) m es =
      chain (shifted es (by_standing contexts m line s m.store.standing refl)) (λ fs done k. branch (is_trap done.0) (λ trap. ends (done.0 ∷ [], refl, (may contexts m line k.row, tt)))
      (λ on. widen (λ gs d x. (done.0 ∷ x.0, x.1 ∙ append_assoc replies (done.0 ∷ []) x.0, (may contexts m line k.row, x.2))) (adds (replies ++ done.0 ∷ []) (line + 1) todo done.1 fs)))

  pub all_may_be : (steps : List Step) (log : List Entry) (replies : List Reply) (m : Machine) → Left (run contexts [] first_state 1 steps) log (Give (replies, m)) → EachMayAnswer 1 steps replies
  all_may_be steps log replies m w = let x = met (adds [] 1 steps first_state []) w in subst (EachMayAnswer 1 steps) (sym x.1) x.2

-- of a step that is refused with no word, and is no call of a stream
pub no_failure : (line : ℕ) (s : Step) → ((w : CodeWord) → MayRefuse s w → ⊥) → (IsStreamCall s → ⊥) → (r : Reply) → may_answer line s r → IsFailure r → ⊥
no_failure line s words stream (reply.Err w) h f = words w h
no_failure line s words stream reply.Closed h f = stream h
no_failure line s words stream (reply.Failed w handle) h f = stream h.0
no_failure line s words stream _ h f = f

-- == what is read off for a reader
-- where a handle is missed; a poll's, where that of pending datagram streams is live, a splice's, where its input is there, and that of
-- a wait for several pollables, where what they watch is
pub missing_left : (m : Machine) (s : Step) (es : List Entry) (after : Machine) → (IsPoll s → PendingHandleIsLive m) → LaterPartIsThere m s → LeavesMissing m s es after → (es ≡ []) × (after ≡ left_missing m s)
missing_left m (step.Poll n) es after live there h = h (live tt)
missing_left m (step.Call c (guest.Stream (stream_call.Splice to from len))) es after live there h = h there
missing_left m (step.Call c (guest.Stream (stream_call.BlockingSplice to from len))) es after live there h = h there
missing_left m (step.Call c (guest.Pollable (pollable_call.PollList ps))) es after live there h = h there
missing_left m _ es after live there h = h

pub trap_kinds : (contexts : List WasiSocketsCtx) (m : Machine) (line : ℕ) (s : Step) (es : List Entry) (kind : TrapKind) (after : Machine) → Traps contexts m line s es kind after → (kind ≡ trap.NoSuchHandle) ⊎ ((kind ≡ trap.HasChildren) ⊎ ((kind ≡ trap.Full) ⊎ ((kind ≡ trap.NotPermitted) ⊎ ((kind ≡ trap.StreamsAlive) ⊎ ((kind ≡ trap.Capacity) ⊎ ((kind ≡ trap.TooLong) ⊎ (kind ≡ trap.EmptyList)))))))
trap_kinds contexts m line s es trap.NoSuchHandle after h = inl refl
trap_kinds contexts m line s es trap.HasChildren after h = inr (inl refl)
trap_kinds contexts m line s es trap.Full after h = inr (inr (inl refl))
trap_kinds contexts m line s es trap.NotPermitted after h = inr (inr (inr (inl refl)))
trap_kinds contexts m line s es trap.StreamsAlive after h = inr (inr (inr (inr (inl refl))))
trap_kinds contexts m line s es trap.Capacity after h = inr (inr (inr (inr (inr (inl refl)))))
trap_kinds contexts m line s es trap.TooLong after h = inr (inr (inr (inr (inr (inr (inl refl))))))
trap_kinds contexts m line s es trap.EmptyList after h = inr (inr (inr (inr (inr (inr (inr refl))))))
trap_kinds contexts m line s es _ after h = absurd h

pub quiet_never : (contexts : List WasiSocketsCtx) (m : Machine) (line : ℕ) (s : Step) (es : List Entry) (w : CodeWord) (after : Machine) → IsQuiet s → Answered contexts m line s es (reply.Err w) after → ⊥
quiet_never contexts m line (step.Call c (guest.Tcp (tcp_call.IsListening handle))) es w after q h = may_be contexts m line (step.Call c (guest.Tcp (tcp_call.IsListening handle))) es (reply.Err w) after h
quiet_never contexts m line (step.Call c (guest.Tcp (tcp_call.AddressFamily handle))) es w after q h = may_be contexts m line (step.Call c (guest.Tcp (tcp_call.AddressFamily handle))) es (reply.Err w) after h
quiet_never contexts m line (step.Call c (guest.Udp (udp_call.AddressFamily handle))) es w after q h = may_be contexts m line (step.Call c (guest.Udp (udp_call.AddressFamily handle))) es (reply.Err w) after h
quiet_never contexts m line _ es w after q h = absurd q

pub quiet_stays : (contexts : List WasiSocketsCtx) (m : Machine) (line : ℕ) (s : Step) (es : List Entry) (r : Reply) (after : Machine) → IsQuiet s → Answered contexts m line s es r after → Quiet m es after
quiet_stays contexts m line (step.Call c (guest.Tcp (tcp_call.IsListening handle))) es r after q = of_answer contexts m line (step.Call c (guest.Tcp (tcp_call.IsListening handle))) (λ es r after. Quiet m es after) (refl, refl) (λ es r after row. row.0) es r after
quiet_stays contexts m line (step.Call c (guest.Tcp (tcp_call.AddressFamily handle))) es r after q = of_answer contexts m line (step.Call c (guest.Tcp (tcp_call.AddressFamily handle))) (λ es r after. Quiet m es after) (refl, refl) (λ es r after row. row.0) es r after
quiet_stays contexts m line (step.Call c (guest.Udp (udp_call.AddressFamily handle))) es r after q = of_answer contexts m line (step.Call c (guest.Udp (udp_call.AddressFamily handle))) (λ es r after. Quiet m es after) (refl, refl) (λ es r after row. row.0) es r after
quiet_stays contexts m line _ es r after q = absurd q

pub two_values : (m : Machine) (line pollable : ℕ) (es : List Entry) (fields : List Field) → Looks m line pollable es fields → (fields ≡ truth_fields true) ⊎ (fields ≡ truth_fields false)
two_values m line pollable es (field.True ∷ []) h = inl refl
two_values m line pollable es (field.False ∷ []) h = inr refl
two_values m line pollable es _ h = absurd h
