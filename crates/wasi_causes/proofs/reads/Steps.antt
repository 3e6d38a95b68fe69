-- Which steps ask for no bytes of a connection, and that their lines were told none.
use Rattle.wasi_causes.proofs.Words.{Allows, Answered, Ask, AskWrite, Asks, Bool, Call, Code, Entry, Err, ErrorValue, Give, Input, Left, List}
use Rattle.wasi_causes.proofs.Words.{Machine, Network, None, Ok, OpId, Option, Output, Records, Reply, Result, ShutdownType, Some, Standing, Step}
use Rattle.wasi_causes.proofs.Words.{Stop, StreamStop, Streams, Tcp2, TcpRecord, Told, WasiSocketsCtx, WriteState, [], accept_at, accepted_streams}
use Rattle.wasi_causes.proofs.Words.{ap, asks_while, call_of, check_write_asks, context_at, converted, false, first_ids, if◌then◌else◌, is_connect}
use Rattle.wasi_causes.proofs.Words.{is_network, is_nothing, kind_at, output_at, own_of, refl, shutdown_at, shutdown_on, side_at, socket_at}
use Rattle.wasi_causes.proofs.Words.{start_bind_at, start_bind_by, start_bind_on, start_connect_at, start_connect_by, start_connect_on}
use Rattle.wasi_causes.proofs.Words.{start_listen_at, start_listen_by, start_listen_on, step_asks, stream_at, stream_on, subst, true, with_socket}
use Rattle.wasi_causes.proofs.Words.{with_store, write_on, write_state_asks, writer_of, ℕ, ⊤, ◌==◌, ◌∙◌, ◌∷◌, ◌≡◌}
use Rattle.wasi_machine.specs.Machine.{is_held_up}
use Rattle.wasi_addr.specs.declared.address.IpSocketAddress.{IpSocketAddress}
use Rattle.wasi_world.specs.declared.call.Call.TheVariants as call
use Rattle.wasi_world.specs.declared.ids.Ids.{Ids}
use Rattle.wasi_streams.specs.StreamStop as stop
use Rattle.wasi_records.specs.Records.{tcp2_at}
use Rattle.host_store.specs.Block as line
use Rattle.host_store.specs.Block.{give as block_give, last as block_last}
use Rattle.host_store.specs.Lines.{done_by, finish_connect_of, in_store, makes, same_stop, storing, tabling}
use Rattle.host_store.specs.Limits.{most_of}
use Rattle.host_tcp.specs.Creates.{with_room}
use Rattle.host_store.specs.Machine.{with_table}
use Rattle.host_streams.specs.StreamCalls.{failed_made}
use Rattle.tcp_records.specs.Sockets.{poll_connect_asks}
use Rattle.wasi_addr.specs.declared.p2.ErrorCode.TheVariants.{NotInProgress}
use Rattle.host_tcp.specs.Creates.{code_told, same_told}
use Rattle.host_streams.specs.StreamCalls.{check_by, convert_asks, plain_output_at, write_by}
use Rattle.host_store.specs.declared.kind.PlainOutput.{PlainOutput}
use Rattle.wasi_p2.specs.Tcp.{accept_on, accepted_asks, finish_connect, make_streams}
use Rattle.wasi_steps.specs.declared.guest_call.GuestCall.TheVariants as guest
use Rattle.wasi_steps.specs.declared.guest_call.TcpCall.TheVariants as tcp_call
use Rattle.wasi_steps.specs.declared.guest_call.NameCall.TheVariants as name_call
use Rattle.wasi_steps.specs.declared.guest_call.StreamCall.TheVariants as stream_call
use Rattle.wasi_steps.specs.declared.guest_call.PollableCall.TheVariants as pollable_call
use Rattle.wasi_steps.specs.declared.step.Step.TheVariants as step
use Rattle.wasi_causes.specs.ToldBytes.{ReadsNothing, told_by, told_in}
use Rattle.wasi_causes.proofs.reads.Unread.{NoRead, Unasked, Unread, and_gives, and_then, by_if, calls, gives, looks_up}
use Rattle.wasi_causes.proofs.reads.Sockets.{accepts_on, begins_bind, begins_connect, begins_listen, checks, creates, marks, polls_connect, shuts_record, writes}
use Rattle.wasi_causes.proofs.reads.Handles.{OfNoStream, drops_taken, machine_turns, resumes}

-- == what a line was told
none_by : (side : OpId) (c : Call) (t : Told) → NoRead c → told_by side c t ≡ []
none_by side (call.Read sock size) t n = absurd n
none_by side _ t n = refl

module _ (side : OpId) {A : Type 0} where
  told_none : (asks : Asks A) (before es : List Entry) (rest : Asks A) → Allows Unasked (λ fs a. ⊤) before asks → Left asks es rest → told_in side es ≡ []
  told_none asks before [] rest h w = refl
  told_none (Give a) before (e ∷ es) rest h w = absurd w
  told_none (Ask op c next) before (e ∷ es) rest h w =
      let first : told_by side e.call e.answer ≡ [] = ap (λ (x : Call). told_by side x e.answer) w.0.1 ∙ none_by side c e.answer h.0 in
      rw first (told_none (next e.answer) _ es rest (h.1 e.answer w.0.2) w.1)
  told_none (AskWrite op sock bytes next) before (e ∷ es) rest h w =
      let first : told_by side e.call e.answer ≡ [] = ap (λ (x : Call). told_by side x e.answer) w.0.1 in
      rw first (told_none (next e.answer) _ es rest (h.1 e.answer w.0.2 w.1) w.2)

-- == calls of sockets
module _ (m : Machine) where
  bind_by : (ids : Ids) (place : ℕ) (a : IpSocketAddress) (r : TcpRecord) (free : Bool) → Unread (start_bind_by m.store ids place a r free)
  bind_by ids place a r true = and_gives _ (begins_bind (own_of ids.line) r a)
  bind_by ids place a r false = gives _

  bind_at : (ids : Ids) (place : ℕ) (a : IpSocketAddress) (o : Option TcpRecord) → Unread (start_bind_at m.store ids place a o)
  bind_at ids place a None = gives _
  bind_at ids place a (Some r) = bind_by ids place a r (is_nothing r.in_progress)

  bind_on : (ids : Ids) (a : IpSocketAddress) (o : Option ℕ) → Unread (start_bind_on m ids a o)
  bind_on ids a None = gives _
  bind_on ids a (Some place) = and_gives _ (bind_at ids place a (tcp2_at m.store.records place))

  connect_by : (own : OpId) (place : ℕ) (a : IpSocketAddress) (r : TcpRecord) (free : Bool) → Unread (start_connect_by m.store own place a r free)
  connect_by own place a r true = and_gives _ (begins_connect own r a)
  connect_by own place a r false = gives _

  connect_at : (own : OpId) (place : ℕ) (a : IpSocketAddress) (o : Option TcpRecord) → Unread (start_connect_at m.store own place a o)
  connect_at own place a None = gives _
  connect_at own place a (Some r) = connect_by own place a r (is_nothing r.in_progress)

  connect_on : (own : OpId) (a : IpSocketAddress) (o : Option ℕ) → Unread (start_connect_on m own a o)
  connect_on own a None = gives _
  connect_on own a (Some place) = and_gives _ (connect_at own place a (tcp2_at m.store.records place))

  listen_by : (ids : Ids) (place : ℕ) (r : TcpRecord) (free : Bool) → Unread (start_listen_by m.store ids place r free)
  listen_by ids place r true = and_gives _ (begins_listen (own_of ids.line) r)
  listen_by ids place r false = gives _

  listen_at : (ids : Ids) (place : ℕ) (o : Option TcpRecord) → Unread (start_listen_at m.store ids place o)
  listen_at ids place None = gives _
  listen_at ids place (Some r) = listen_by ids place r (is_nothing r.in_progress)

  listen_on : (ids : Ids) (o : Option ℕ) → Unread (start_listen_on m ids o)
  listen_on ids None = gives _
  listen_on ids (Some place) = and_gives _ (listen_at ids place (tcp2_at m.store.records place))

  shut_at : (own : OpId) (how : ShutdownType) (place : ℕ) (o : Option TcpRecord) → Unread (shutdown_at m.store own how place o)
  shut_at own how place None = gives _
  shut_at own how place (Some r) = and_gives _ (shuts_record own how r r.streams)

  shut_on : (own : OpId) (how : ShutdownType) (o : Option ℕ) → Unread (shutdown_on m own how o)
  shut_on own how None = gives _
  shut_on own how (Some place) = and_gives _ (shut_at own how place (tcp2_at m.store.records place))

  accepts_at : (ids : Ids) (place : ℕ) (o : Option TcpRecord) → Unread (accept_at m.store ids place o)
  accepts_at ids place None = gives _
  accepts_at ids place (Some r) = and_gives _ (accepts_on ids r r.listening)

makes_streams : (own : OpId) (socket place : ℕ) (side : Option OpId) (m : Machine) → Unread (make_streams own socket place side m)
makes_streams own socket place side m =
    calls same_stop tabling (λ input. line.goes_on (makes own (Output place) (Some socket) side) (λ output. block_give (input, output))) m (marks m.table own (Input place) (Some socket) side)
    (λ input n. calls same_stop tabling (λ output. block_give (input, output)) n (marks n.table own (Output place) (Some socket) side) (λ output k. gives _))

makes_all : (own : OpId) (place : ℕ) (side : Option OpId) (done : Result ℕ Stop × Machine) → Unread (accepted_streams own place side done)
makes_all own place side (Ok socket, m) = and_gives _ (makes_streams own socket place side m)
makes_all own place side (Err why, m) = gives _

accepted : (own : OpId) (listener : ℕ) (done : Result ℕ Stop × Machine) → Unread (accepted_asks own listener done)
accepted own listener (Ok place, m) =
    let side : Option OpId = side_at (tcp2_at m.store.records place) in
    and_then (marks m.table own (Tcp2 place) (Some listener) side) (λ made. makes_all own place side (with_table m made))
accepted own listener (Err why, m) = gives _

accepts : (m : Machine) (ids : Ids) (listener : ℕ) (o : Option ℕ) → Unread (accept_on m ids listener o)
accepts m ids listener None = gives _
accepts m ids listener (Some place) = and_then (accepts_at m ids place (tcp2_at m.store.records place)) (λ done. accepted (own_of ids.line) listener (with_store m done))

finishes : (place : ℕ) (store : Records) → Unread (finish_connect_of place store)
finishes place store =
    looks_up (λ r. line.goes_on (line.need (is_connect r.in_progress) (Code NotInProgress)) (λ t. block_last (done_by place r poll_connect_asks))) store (tcp2_at store.records place)
    (λ r. by_if (is_connect r.in_progress) _ _ (calls same_stop (λ s now. with_socket s place now) block_give store (polls_connect r) (λ a s. gives _)) (gives (Err (Code NotInProgress), store)))

connects : (own : OpId) (socket : ℕ) (m : Machine) → Unread (finish_connect own socket m)
connects own socket m =
    looks_up (λ place. line.goes_on (in_store (finish_connect_of place)) (λ t. line.goes_on (line.Read (λ n. side_at (tcp2_at n.store.records place))) (λ side. make_streams own socket place side))) m (socket_at m socket)
    (λ place. calls same_stop storing (λ t. line.goes_on (line.Read (λ n. side_at (tcp2_at n.store.records place))) (λ side. make_streams own socket place side)) m (finishes place m.store)
    (λ t n. makes_streams own socket place (side_at (tcp2_at n.store.records place)) n))

-- == calls of outputs
converts : (m : Machine) (own : OpId) (handle place : ℕ) (why : StreamStop) → Unread (convert_asks m own handle place why)
converts m own handle place (stop.Failed c) = and_gives (λ made. failed_made c (with_table m made)) (marks m.table own ErrorValue (Some handle) (side_at (tcp2_at m.store.records place)))
converts m own handle place stop.Closed = gives _
converts m own handle place (stop.Trap kind) = gives _

tells : {T : Type 0} (own : OpId) (handle place : ℕ) (done : Result T StreamStop × Machine) → Unread (converted own handle place done)
tells own handle place (Ok value, m) = gives _
tells own handle place (Err why, m) = and_gives _ (converts m own handle place why)

module _ {T : Type 0} (call : TcpRecord → WriteState → Asks (Result T StreamStop × WriteState)) (k : (r : TcpRecord) (w : WriteState) → Unread (call r w)) where
  writer_calls : (r : TcpRecord) (o : Option Streams) → Unread (writer_of r (call r) o)
  writer_calls r None = gives _
  writer_calls r (Some s) = and_gives _ (k r s.writer)

  record_calls : (store : Records) (place : ℕ) (o : Option TcpRecord) → Unread (stream_at store place (λ r. writer_of r (call r) r.streams) o)
  record_calls store place None = gives _
  record_calls store place (Some r) = and_gives _ (writer_calls r r.streams)

  calls_on : (m : Machine) (own : OpId) (handle : ℕ) (o : Option ℕ) → Unread (stream_on m own handle (λ r. writer_of r (call r) r.streams) o)
  calls_on m own handle None = gives _
  calls_on m own handle (Some place) = and_then (record_calls m.store place (tcp2_at m.store.records place)) (λ done. tells own handle place (with_store m done))

  writes_on : (m : Machine) (own : OpId) (handle : ℕ) (o : Option ℕ) → Unread (write_on m own handle (λ r. writer_of r (call r) r.streams) o)
  writes_on m own handle None = gives _
  writes_on m own handle (Some place) = and_then (and_gives _ (record_calls m.store place (tcp2_at m.store.records place))) (λ done. tells own handle place (with_store m done))

check_of : (m : Machine) (own : OpId) (output : ℕ) (o : Option PlainOutput) → Unread (check_by m own output o)
check_of m own output (Some plain) = gives _
check_of m own output None = calls_on (λ r. check_write_asks (most_of m.store r) own) (λ r. checks (most_of m.store r) own) m own output (output_at m output)

write_of : (m : Machine) (own : OpId) (output : ℕ) (bytes : List ℕ) (o : Option PlainOutput) → Unread (write_by m own output bytes o)
write_of m own output bytes (Some plain) = gives _
write_of m own output bytes None = writes_on (λ r w. write_state_asks own w bytes) (λ r w. writes own w bytes) m own output (output_at m output)

-- == steps
module _ (contexts : List WasiSocketsCtx) (m : Machine) (line : ℕ) where
  step_unread : (s : Step) → ReadsNothing s → Unread (step_asks contexts m line s)
  step_unread (step.Call ctx (guest.Names name_call.Network)) n = and_gives _ (and_gives _ (marks m.table (own_of line) Network None None))
  step_unread (step.Call ctx (guest.Tcp (tcp_call.Create family))) n = and_gives _ (creates same_told code_told Tcp2 (with_room m (context_at contexts ctx)) (own_of line) (context_at contexts ctx) family)
  step_unread (step.Call ctx (guest.Tcp (tcp_call.StartBind s network a))) n = and_gives _ (by_if (is_network (kind_at m.table network)) _ _ (bind_on m (first_ids line) a (socket_at m s)) (gives _))
  step_unread (step.Call ctx (guest.Tcp (tcp_call.FinishBind s))) n = gives _
  step_unread (step.Call ctx (guest.Tcp (tcp_call.StartConnect s network a))) n = and_gives _ (by_if (is_network (kind_at m.table network)) _ _ (connect_on m (own_of line) a (socket_at m s)) (gives _))
  step_unread (step.Call ctx (guest.Tcp (tcp_call.FinishConnect s))) n = and_gives _ (connects (own_of line) s m)
  step_unread (step.Call ctx (guest.Tcp (tcp_call.StartListen s))) n = and_gives _ (listen_on m (first_ids line) (socket_at m s))
  step_unread (step.Call ctx (guest.Tcp (tcp_call.FinishListen s))) n = gives _
  step_unread (step.Call ctx (guest.Tcp (tcp_call.Accept s))) n = and_gives _ (accepts m (first_ids line) s (socket_at m s))
  step_unread (step.Call ctx (guest.Tcp (tcp_call.Shutdown s how))) n = and_gives _ (shut_on m (own_of line) how (socket_at m s))
  step_unread (step.Call ctx (guest.Stream (stream_call.CheckWrite output))) n = and_gives _ (check_of m (own_of line) output (plain_output_at m output))
  step_unread (step.Call ctx (guest.Stream (stream_call.Write output bytes))) n = and_gives _ (write_of m (own_of line) output bytes (plain_output_at m output))
  step_unread (step.Call ctx (guest.Pollable (pollable_call.Drop h))) n = and_gives _ (drops_taken m (first_ids line) _)
  step_unread step.Turn n = and_gives _ (machine_turns m)
  step_unread _ n = absurd n

  -- a poll of a call that isn't of a stream
  module _ (free : (s : Standing) → m.store.standing ≡ Some s → OfNoStream s.call) (n : ℕ) where
    its_call : (o : Option Standing) → m.store.standing ≡ o → (s : Standing) → call_of o n ≡ Some s → OfNoStream s.call
    its_call None e s is = absurd (cc)
    its_call (Some x) e s is = by_number (x.ids.line == n) is
      where
        by_number : (b : Bool) → (if b then Some x else None) ≡ Some s → OfNoStream s.call
        by_number true q = let same : x ≡ s = cc in subst (λ (y : Standing). OfNoStream y.call) same (free x e)
        by_number false q = absurd (cc)

    poll_unread : Unread (step_asks contexts m line (step.Poll n))
    poll_unread = and_gives _ (resumes m n (call_of m.store.standing n) (its_call m.store.standing refl))

  -- while a call is pending
  while_unread : (s : Step) (o : Option Standing) → Unread (step_asks contexts m line s) → Unread (asks_while contexts m line s o)
  while_unread s None h = h
  while_unread s (Some c) h = by_if (is_held_up m.store s) _ _ (gives _) h

  told_nothing : (side : OpId) (s : Step) (es : List Entry) (r : Reply) (after : Machine) → Unread (step_asks contexts m line s) → Answered contexts m line s es r after → told_in side es ≡ []
  told_nothing side s es r after h w = told_none side (asks_while contexts m line s m.store.standing) [] es (Give (r, after)) ((while_unread s m.store.standing h).along []) w

  pub step_told : (s : Step) (es : List Entry) (r : Reply) (after : Machine) (side : OpId) → ReadsNothing s → Answered contexts m line s es r after → told_in side es ≡ []
  step_told s es r after side n w = told_nothing side s es r after (step_unread s n) w

  pub poll_told : (n : ℕ) (es : List Entry) (r : Reply) (after : Machine) (side : OpId) → ((s : Standing) → m.store.standing ≡ Some s → OfNoStream s.call) → Answered contexts m line (step.Poll n) es r after → told_in side es ≡ []
  poll_told n es r after side free w = told_nothing side (step.Poll n) es r after (poll_unread free n) w
