-- A subscription, and a look at a pollable.
use Rattle.wasi_causes.specs.Plain.{WatchesPlain}
use Rattle.wasi_records.specs.Records.{tcp2_at, open_at, lookup_at}
use Rattle.lookup_records.specs.NameLookup.{looks_on}
use Rattle.host_lookups.specs.NameLookupCalls.{lookup_ready}
use Rattle.wasi_causes.specs.Lookups.{WatchesLookup}
use Rattle.host_udp.specs.DatagramCalls.{begins_receive, outgoing_ready, ready_incoming_at, with_receive}
use Rattle.udp_records.specs.Receiving.{look_incoming, receives}
use Rattle.udp_records.specs.declared.udp.OpenUdp.{OpenUdp}
use Rattle.wasi_causes.specs.Datagrams.{IsOfDatagrams, IsReceiving, WatchesIncoming, WatchesOutgoing}
use Rattle.wasi_causes.proofs.Words.{AcceptWaits, AcceptWaitsOn, Accepting, AcceptsIn, Answer, Bool}
use Rattle.wasi_causes.proofs.Words.{ClosedBy, ConnectWaits, End, Entry, Err, Give}
use Rattle.wasi_causes.proofs.Words.{HasNoListener, HoldsAccept, InputWaits, IsIdleSocket}
use Rattle.wasi_causes.proofs.Words.{IsReady, IsUnready, Item, List}
use Rattle.wasi_causes.proofs.Words.{Listener, Listening, Machine, MissesRecord, NoSuchHandle, None, OfWatched}
use Rattle.wasi_causes.proofs.Words.{Ok, OpId, Operation, Option, Pollable, ReadState, Records, Result, Some}
use Rattle.wasi_causes.proofs.Words.{Stop, StreamStop, Streams, TcpRecord, TcpReceiveStream}
use Rattle.wasi_causes.proofs.Words.{TcpState, Told, Trap, Waits, WasiSocketsCtx, Watched, WatchesAccept, WatchesConnect, WatchesIdle, WriteState}
use Rattle.wasi_causes.proofs.Words.{WriteWaits, [], accept_name, ap, bind}
use Rattle.wasi_causes.proofs.Words.{connect_ended, entry, false, finish_in, first_ids, handle_reply}
use Rattle.wasi_causes.proofs.Words.{in_socket, inl, inr, is_connect, is_nothing, kind_at}
use Rattle.wasi_causes.proofs.Words.{marks_in, own_of, place_in}
use Rattle.wasi_causes.proofs.Words.{reader_ready_asks, ready_asks, ready_end, ready_on, refl}
use Rattle.wasi_causes.proofs.Words.{subscribe_asks, subscribe_on, subst}
use Rattle.wasi_causes.proofs.Words.{sym, told_ready, true, truth_reply, watch_of, watched_by, with_reader, with_store}
use Rattle.wasi_causes.proofs.Words.{with_writer, ℕ, ⊤, ◌∙◌, ◌∷◌, ◌≡◌, ◌⊎◌}
use Rattle.wasi_causes.proofs.operations.Accepts.{AcceptRow, accepts}
use Rattle.wasi_causes.proofs.operations.Polls.{EndsFor, connect_ends}
use Rattle.wasi_causes.proofs.streams.Halves.{LookRow, looks}
use Rattle.wasi_causes.proofs.tables.Meets.{Rows, Meets, ends, asks, onto, widen, granted, whatever}
use Rattle.wasi_causes.proofs.tables.Routes.{Replied, Says, put_store_same, makes, full_so}
use Rattle.wasi_causes.specs.Outcomes.{Always, Outcome, Quiet, ReadyAtOnce}
use Rattle.wasi_causes.proofs.Words.{not, Reply, truth_fields}
use Rattle.wasi_steps.specs.declared.reply.Reply.TheVariants as reply
use Rattle.wasi_jobs.specs.declared.job.HostJob.TheVariants.{Receive}
use Rattle.wasi_causes.proofs.udp_streams.Routes.{job_there}
use Rattle.wasi_causes.specs.Udp.{WatchesUdp}
use Rattle.wasi_host.specs.Pollables.{watched_side}
use Rattle.tcp_records.specs.Looks.{is_over, is_done, connect_looked, accept_looked, ready_listening, ready_idle, ready_socket_by, ready_reader, ready_writer}
use Rattle.host_store.specs.Readiness.{ready_record, ready_put, ready_at}
use Rattle.host_store.specs.declared.kind.Watched.TheVariants as watched
use Rattle.tcp_records.specs.declared.tcp_listening.Listening.TheVariants as listening
use Rattle.wasi_steps.specs.declared.guest_call.GuestCall.TheVariants as guest
use Rattle.wasi_steps.specs.declared.guest_call.PollableCall.TheVariants as pollable_call
use Rattle.wasi_steps.specs.declared.step.Step.TheVariants as step
use Rattle.wasi_tcp.specs.declared.listener.Accepting.TheVariants as accepting
use Rattle.wasi_tcp.specs.declared.reader.ReadState.TheVariants as reading
use Rattle.wasi_tcp.specs.declared.socket.TcpState.TheVariants as state
use Rattle.wasi_world.specs.declared.call.Call.TheVariants as call
use Rattle.wasi_world.specs.declared.call.Told.TheVariants as told
use Rattle.wasi_walks.specs.Answered.{ConnectsOn}
use Rattle.wasi_walks.specs.Missing.{MissesWatched}
use Rattle.wasi_world.specs.declared.outcome.Answer.TheVariants as answer

-- == a subscription
module _ (contexts : List WasiSocketsCtx) (m : Machine) (line c handle : ℕ) where
  on_subscribe : (o : Option Watched) → watched_by (kind_at m.table handle) ≡ o → Meets (Replied contexts m line (step.Call c (guest.Pollable (pollable_call.Subscribe handle))) handle_reply) [] (subscribe_on m (own_of line) handle o)
  on_subscribe None is = ends (tt, (is, (refl, refl)))
  on_subscribe (Some w) is =
      onto _ (makes m.table (own_of line) (Pollable w) (Some handle) (watched_side m.store w) (λ full. (tt, (tt, full_so m m [] full refl refl, tt)))
      (tt, ((tt, tt), record { number = refl; marked = rw is refl; made = rw is refl })))

  pub subscribe : Meets (Says contexts m line (step.Call c (guest.Pollable (pollable_call.Subscribe handle)))) [] (bind (subscribe_asks m (own_of line) handle) (λ done. Give (handle_reply done.0, done.1)))
  subscribe = onto _ (on_subscribe (watched_by (kind_at m.table handle)) refl)

-- it is of a TCP socket's record
abbrev IsOfTcp : Watched → Type 0
IsOfTcp (watched.Udp place) = ⊥
IsOfTcp (watched.Incoming place) = ⊥
IsOfTcp (watched.Outgoing place) = ⊥
IsOfTcp (watched.Lookup place) = ⊥
IsOfTcp watched.Plain = ⊥
IsOfTcp _ = ⊤

-- == a look at what is watched, in its record
module _ (line : ℕ) (r : TcpRecord) where
  abbrev its : OpId
  its = own_of line

  -- what isn't ready is no socket of which nothing is polled
  abbrev IsAtWork : Watched → Type 0
  IsAtWork w = IsIdleSocket w r → ⊥

  abbrev IsIdle : List Entry → TcpRecord → Watched → Type 0
  IsIdle es now w = IsIdleSocket w r → (es ≡ []) × (now ≡ r)

  -- why it isn't ready, where it connects by a connect and accepts by an accept
  abbrev IsUnreadySo : List Entry → Watched → Type 0
  IsUnreadySo es w = ConnectsOn r.inner.state → AcceptsIn r.listening → IsUnready its r es w

  abbrev RecordRow : Watched → Rows (Result Bool Stop × TcpRecord)
  RecordRow w es (Ok true, now) = IsIdle es now w
  RecordRow w es (Ok false, now) = IsAtWork w × IsUnreadySo es w
  RecordRow w es (Err (Trap NoSuchHandle), now) = MissesRecord w (Some r) × (es ≡ []) × (now ≡ r)
  RecordRow w es (Err _, now) = ⊥

  -- == a socket
  module _ (place : ℕ) where
    abbrev SocketRow : Rows (Result Bool Stop × TcpRecord)
    SocketRow = RecordRow (watched.Socket place)

    module _ (connects : is_connect r.in_progress ≡ true) where
      connecting : IsAtWork (watched.Socket place)
      connecting idle = let none = idle.0 in cc

      over : (es : List Entry) (now : TcpRecord) → IsIdle es now (watched.Socket place)
      over es now idle = absurd (connecting idle)

      ended : (op : Operation) → r.inner.state ≡ state.Connecting op → (es : List Entry) (end : End × List Item) → (ConnectsOn (state.Connecting op) → EndsFor op (ClosedBy op) es end) → SocketRow es (connect_looked r (in_socket r.inner (connect_ended op.who end)))
      ended op e es (Waits, items) h = (connecting, λ holds accepts. ConnectWaits place op connects e (h (rw e at holds)))
      ended op e es (_, items) h = over es _

      by_state : (st : TcpState) → r.inner.state ≡ st → Meets (λ es done. SocketRow es (connect_looked r (in_socket r.inner done))) [] (finish_in st)
      by_state (state.Connecting op) e = onto _ (widen (ended op e) (granted (connect_ends op)))
      by_state _ e = ends (over [] _)

    -- == a listener
    module _ (idle : is_nothing r.in_progress ≡ true) (l : Listener) (is : r.listening ≡ listening.Accepts l) where
      not_idle : (is_nothing r.in_progress ≡ false) ⊎ HasNoListener r.listening → ⊥
      not_idle (inl busy) = cc
      not_idle (inr none) = rw is at none

      accepting_on : IsAtWork (watched.Socket place)
      accepting_on i = not_idle i.1

      has_result : (es : List Entry) (now : TcpRecord) → IsIdle es now (watched.Socket place)
      has_result es now i = absurd (accepting_on i)

      waits_on : (es : List Entry) → (HoldsAccept l.side l.maker l.accept → AcceptWaits (accept_name line l.accept) es) → IsUnreadySo es (watched.Socket place)
      waits_on es h holds accepts = AcceptWaitsOn place l idle is (h (rw is at accepts))

      looked : (es : List Entry) (a : Accepting) → marks_in es ≡ 0 → AcceptRow line l es a → SocketRow es (accept_looked r (ready_end l a))
      looked es accepting.Idle none h = (accepting_on, waits_on es (λ own. absurd (h own)))
      looked es (accepting.Asking op) none h = (accepting_on, waits_on es h.1)
      looked es _ none h = has_result es _

    by_listening : (o : Listening) → is_nothing r.in_progress ≡ true → r.listening ≡ o → Meets SocketRow [] (ready_listening (first_ids line) r o)
    by_listening (listening.Accepts l) idle e = onto _ (accepts line l (ready_end l) (looked idle l e))
    by_listening _ idle e = ends (λ i. (refl, refl))

    by_nothing : (b : Bool) → is_nothing r.in_progress ≡ b → Meets SocketRow [] (ready_idle (first_ids line) r b)
    by_nothing true e = by_listening r.listening e refl
    by_nothing false e = ends (λ i. (refl, refl))

    by_progress : (b : Bool) → is_connect r.in_progress ≡ b → Meets SocketRow [] (ready_socket_by (first_ids line) r b)
    by_progress false e = by_nothing (is_nothing r.in_progress) refl
    by_progress true e = onto _ (onto _ (by_state e r.inner.state refl))

    -- == an input
    told_input : (s : Streams) (half : TcpReceiveStream) → r.streams ≡ Some s → s.reader ≡ reading.Open half → (t : Told) → IsReady t → RecordRow (watched.Input place) (entry its (call.ReadReady half.side) t ∷ []) (Ok (is_done (told_ready t)), with_reader r s (reading.Open half))
    told_input s half has e told.Done fits = λ i. absurd i
    told_input s half has e told.Pending fits = (λ i. i, λ holds accepts. InputWaits place s half has e refl)
    told_input s half has e _ fits = absurd fits

    by_reader : (s : Streams) (reader : ReadState) → r.streams ≡ Some s → s.reader ≡ reader → Meets (λ es done. RecordRow (watched.Input place) es (Ok (is_done done.0), with_reader r s done.1)) [] (reader_ready_asks its reader)
    unfolding bind
    by_reader s (reading.Open half) has e = asks (λ t fits. ends (told_input s half has e t fits))
    by_reader s reading.Closed has e = ends (λ i. absurd i)

    by_input : (o : Option Streams) → r.streams ≡ o → Meets (RecordRow (watched.Input place)) [] (ready_reader its r o)
    by_input None has = ends (has, refl, refl)
    by_input (Some s) has = onto _ (by_reader s s.reader has refl)

    -- == an output
    of_look : (s : Streams) → r.streams ≡ Some s → (es : List Entry) (looked : Result (Answer (Unit {0})) StreamStop × WriteState) → LookRow its s.writer es looked → RecordRow (watched.Output place) es (Ok (is_over looked.0), with_writer r s looked.1)
    of_look s has es (Ok answer.Pending, now) k = (λ i. i, λ holds accepts. WriteWaits place s has k)
    of_look s has es (_, now) k = λ i. absurd i

    by_output : (o : Option Streams) → r.streams ≡ o → Meets (RecordRow (watched.Output place)) [] (ready_writer its r o)
    by_output None has = ends (has, refl, refl)
    by_output (Some s) has = onto _ (widen (of_look s has) (looks its s.writer))

  looks_at : (w : Watched) → IsOfTcp w → Meets (RecordRow w) [] (ready_record its (first_ids line) w r)
  looks_at (watched.Udp place) tcp = absurd tcp
  looks_at (watched.Incoming place) tcp = absurd tcp
  looks_at (watched.Outgoing place) tcp = absurd tcp
  looks_at (watched.Lookup place) tcp = absurd tcp
  looks_at watched.Plain tcp = absurd tcp
  looks_at (watched.Socket place) tcp = by_progress place (is_connect r.in_progress) refl
  looks_at (watched.Input place) tcp = by_input place r.streams refl
  looks_at (watched.Output place) tcp = by_output place r.streams refl

-- == by the pollable
module _ (contexts : List WasiSocketsCtx) (m : Machine) (line c pollable : ℕ) where
  abbrev own : OpId
  own = own_of line

  abbrev ReadyRow : Rows (Result Bool Stop × Machine)
  ReadyRow es done = Outcome contexts m line (step.Call c (guest.Pollable (pollable_call.Ready pollable))) es (truth_reply done.0) done.1

  module _ (w : Watched) (is : watch_of (kind_at m.table pollable) ≡ Some w) (tcp : IsOfTcp w) where
    none_there : (u : Watched) → IsOfTcp u → MissesRecord u None
    none_there (watched.Udp place) of = absurd of
    none_there (watched.Incoming place) of = absurd of
    none_there (watched.Outgoing place) of = absurd of
    none_there (watched.Lookup place) of = absurd of
    none_there watched.Plain of = absurd of
    none_there (watched.Socket place) of = refl
    none_there (watched.Input place) of = refl
    none_there (watched.Output place) of = refl

    -- so nothing is said of datagram streams
    misses_so : (u : Watched) → IsOfTcp u → MissesRecord u (tcp2_at m.store.records (place_in u)) → MissesWatched m (Some u)
    misses_so (watched.Udp place) of none = absurd of
    misses_so (watched.Incoming place) of none = absurd of
    misses_so (watched.Outgoing place) of none = absurd of
    misses_so (watched.Lookup place) of none = absurd of
    misses_so watched.Plain of none = absurd of
    misses_so (watched.Socket place) of none = none
    misses_so (watched.Input place) of none = none
    misses_so (watched.Output place) of none = none

    not_udp : WatchesUdp m pollable → ⊥
    not_udp (place, at) = let same : w ≡ watched.Udp place = cc in subst IsOfTcp same tcp

    not_plain : WatchesPlain m pollable → ⊥
    not_plain at = let same : w ≡ watched.Plain = cc in subst IsOfTcp same tcp

    -- nor of datagram streams
    no_streams : (place : ℕ) → (watch_of (kind_at m.table pollable) ≡ Some (watched.Outgoing place)) ⊎ (watch_of (kind_at m.table pollable) ≡ Some (watched.Incoming place)) → ⊥
    no_streams place (inl at) = let same : w ≡ watched.Outgoing place = cc in subst IsOfTcp same tcp
    no_streams place (inr at) = let same : w ≡ watched.Incoming place = cc in subst IsOfTcp same tcp

    -- nor of lookups
    not_lookup : (place : ℕ) → WatchesLookup m pollable place → ⊥
    not_lookup place at = let same : w ≡ watched.Lookup place = cc in subst IsOfTcp same tcp

    -- so of what isn't a TCP socket's nothing is said
    said_of_none : (es : List Entry) (r : Reply) (after : Machine) → (WatchesIdle m pollable → ReadyAtOnce m es r after) → Always contexts m line (step.Call c (guest.Pollable (pollable_call.Ready pollable))) es r after
    said_of_none es r after idle = (idle, λ at. absurd (not_udp at), λ at. absurd (not_plain at), λ place at. absurd (no_streams place (inl at)), λ place at. absurd (no_streams place (inr at)), λ place at. absurd (not_lookup place at))

    the_record : {P : Watched → TcpRecord → Type 0} (on : OfWatched m pollable P) → tcp2_at m.store.records (place_in w) ≡ Some on.found
    the_record on = let p = on.watches in let same : on.watch ≡ w = cc in rw (sym same) on.at

    module _ (r : TcpRecord) (at : tcp2_at m.store.records (place_in w) ≡ Some r) where
      idle_too : WatchesIdle m pollable → IsIdleSocket w r
      idle_too idle =
          let p = idle.watches in
          let there = the_record idle in
          let same_watch : idle.watch ≡ w = cc in
          let same_record : idle.found ≡ r = cc in
          rw (sym same_watch, sym same_record) idle.holds

      put_again : (now : TcpRecord) → now ≡ r → record m { store = (ready_put m.store (place_in w) (Ok true, now)).1 } ≡ m
      put_again now e =
          ap (λ (x : TcpRecord). let left : Machine = record m { store = (ready_put m.store (place_in w) (Ok true, x)).1 } in left) e
          ∙ ap (λ (store : Records). let left : Machine = record m { store = store } in left) (put_store_same m.store (place_in w) r at)

      never_idle : (u : Watched) → MissesRecord u (Some r) → IsIdleSocket u r → ⊥
      never_idle (watched.Socket place) none i = cc
      never_idle _ none i = i

      holds : WatchesConnect m pollable → ConnectsOn r.inner.state
      holds connects = rw (is, at) at connects

      listens_so : WatchesAccept m pollable → AcceptsIn r.listening
      listens_so listens = rw (is, at) at listens

      said : (es : List Entry) (done : Result Bool Stop × TcpRecord) → RecordRow line r w es done → ReadyRow es (with_store m (ready_put m.store (place_in w) done))
      said es (Ok true, now) k = (said_of_none es _ _ (λ idle. let h = k (idle_too idle) in (refl, (h.0, put_again now h.1))), ((tt, tt), tt))
      said es (Ok false, now) k = (said_of_none es _ _ (λ idle. absurd (k.0 (idle_too idle))), ((tt, tt), λ no connects listens. inl (record { watch = w; found = r; watches = is; at = at; holds = k.1 (holds connects) (listens_so listens) })))
      said es (Err (Trap NoSuchHandle), now) k = (said_of_none es _ _ (λ idle. absurd (never_idle w k.0 (idle_too idle))), (rw is (misses_so w tcp (rw at k.0)), (k.1, put_again now k.2)))
      said es (Err _, now) k = absurd k

    by_record : (o : Option TcpRecord) → tcp2_at m.store.records (place_in w) ≡ o → Meets (λ es done. ReadyRow es (with_store m done)) [] (ready_at m.store own (first_ids line) w (place_in w) o)
    by_record None at = ends (said_of_none [] _ _ (λ idle. let there = the_record idle in absurd (cc)), (rw is (misses_so w tcp (rw at (none_there w tcp))), (refl, refl)))
    by_record (Some r) at = onto _ (widen (said r at) (looks_at line r w tcp))

  -- == of a datagram stream
  module _ (w : Watched) (is : watch_of (kind_at m.table pollable) ≡ Some w) (of : IsOfDatagrams (Some w)) where
    never_of_socket : (u : Watched) (r : TcpRecord) → IsOfDatagrams (Some u) → IsIdleSocket u r → ⊥
    never_of_socket (watched.Incoming place) r o i = i
    never_of_socket (watched.Outgoing place) r o i = i
    never_of_socket _ r o i = o

    not_idle_too : WatchesIdle m pollable → ⊥
    not_idle_too idle = let p = idle.watches in let same : w ≡ idle.watch = cc in never_of_socket idle.watch idle.found (subst (λ (u : Watched). IsOfDatagrams (Some u)) same of) idle.holds

    no_udp_too : WatchesUdp m pollable → ⊥
    no_udp_too (place, at) = let same : w ≡ watched.Udp place = cc in subst (λ (u : Watched). IsOfDatagrams (Some u)) same of

    no_plain_too : WatchesPlain m pollable → ⊥
    no_plain_too at = let same : w ≡ watched.Plain = cc in subst (λ (u : Watched). IsOfDatagrams (Some u)) same of

    no_lookup_too : (place : ℕ) → WatchesLookup m pollable place → ⊥
    no_lookup_too place at = let same : w ≡ watched.Lookup place = cc in subst (λ (u : Watched). IsOfDatagrams (Some u)) same of

    -- of the others nothing is said
    said_of_streams : (es : List Entry) (r : Reply) (after : Machine) → ((place : ℕ) → WatchesOutgoing m pollable place → (r ≡ reply.Ok (truth_fields (outgoing_ready (open_at m.store.records place)))) × Quiet m es after)
        → ((place : ℕ) → WatchesIncoming m pollable place → r ≡ reply.Ok (truth_fields false) → IsReceiving (open_at after.store.records place)) → Always contexts m line (step.Call c (guest.Pollable (pollable_call.Ready pollable))) es r after
    said_of_streams es r after outgoing incoming = (λ idle. absurd (not_idle_too idle), λ at. absurd (no_udp_too at), λ at. absurd (no_plain_too at), outgoing, incoming, λ place at. absurd (no_lookup_too place at))

    looked_datagrams : (es : List Entry) (b : Bool) (after : Machine) → Always contexts m line (step.Call c (guest.Pollable (pollable_call.Ready pollable))) es (reply.Ok (truth_fields b)) after → ReadyRow es (Ok b, after)
    looked_datagrams es true after always = (always, ((tt, tt), tt))
    looked_datagrams es false after always = (always, ((tt, tt), λ no. absurd (no (rw is of))))

  -- == an outgoing datagram stream
  module _ (place : ℕ) (is : watch_of (kind_at m.table pollable) ≡ Some (watched.Outgoing place)) where
    its_place : (p : ℕ) → WatchesOutgoing m pollable p → place ≡ p
    its_place p at = let same : watched.Outgoing place ≡ watched.Outgoing p = cc in cc

    by_outgoing : ReadyRow [] (Ok (outgoing_ready (open_at m.store.records place)), m)
    by_outgoing = looked_datagrams (watched.Outgoing place) is tt [] (outgoing_ready (open_at m.store.records place)) m (said_of_streams (watched.Outgoing place) is tt [] _ m (λ p at. (ap (λ (k : ℕ). reply.Ok (truth_fields (outgoing_ready (open_at m.store.records k)))) (its_place p at), (refl, refl))) (λ p at. absurd (cc)))

  -- == an incoming one
  module _ (place : ℕ) (is : watch_of (kind_at m.table pollable) ≡ Some (watched.Incoming place)) where
    none_outgoing : (p : ℕ) → WatchesOutgoing m pollable p → ⊥
    none_outgoing p at = cc

    same_place : (p : ℕ) → WatchesIncoming m pollable p → place ≡ p
    same_place p at = let same : watched.Incoming place ≡ watched.Incoming p = cc in cc

    still_receives : (o now : OpenUdp) → open_at m.store.records place ≡ Some o → (b : Bool) → receives now.incoming ≡ b → truth_reply (Ok (not b)) ≡ reply.Ok (truth_fields false) → IsReceiving (open_at (with_receive m.store place o now).records place)
    still_receives o now at true e same =
        subst IsReceiving (sym (job_there m.store place o now (Receive place) (begins_receive o now) at)) e
    still_receives o now at false e same = absurd (cc)

    by_incoming : (o : Option OpenUdp) → open_at m.store.records place ≡ o → Meets (λ es done. ReadyRow es (with_store m done)) [] (ready_incoming_at m.store (first_ids line) place o)
    by_incoming None at = ends (said_of_streams (watched.Incoming place) is tt [] _ m (λ p out. absurd (none_outgoing p out)) (λ p inc same. absurd (cc)), (rw is at, (refl, refl)))
    by_incoming (Some o) at = onto _ (widen (λ es now k. looked_datagrams (watched.Incoming place) is tt es (not (receives now.incoming)) (record m { store = with_receive m.store place o now })
        (said_of_streams (watched.Incoming place) is tt es _ _ (λ p out. absurd (none_outgoing p out)) (λ p inc same. subst (λ (k : ℕ). IsReceiving (open_at (with_receive m.store place o now).records k)) (same_place p inc) (still_receives o now at (receives now.incoming) refl (ap (λ (f : Bool). reply.Ok (truth_fields f)) refl ∙ same))))) (whatever (look_incoming (first_ids line) o o.incoming)))

  -- == a lookup
  module _ (place : ℕ) (is : watch_of (kind_at m.table pollable) ≡ Some (watched.Lookup place)) where
    not_idle_lookup : WatchesIdle m pollable → ⊥
    not_idle_lookup idle = let p = idle.watches in let same : idle.watch ≡ watched.Lookup place = cc in subst (λ (u : Watched). IsIdleSocket u idle.found) same idle.holds

    no_udp_lookup : WatchesUdp m pollable → ⊥
    no_udp_lookup (p, at) = cc

    its_lookup : (p : ℕ) → WatchesLookup m pollable p → place ≡ p
    its_lookup p at = let same : watched.Lookup place ≡ watched.Lookup p = cc in cc

    -- it is ready where it isn't in progress
    said_of_lookup : (b : Bool) → looks_on (lookup_at m.store.records place) ≡ b → Always contexts m line (step.Call c (guest.Pollable (pollable_call.Ready pollable))) [] (truth_reply (Ok (not b))) m
    said_of_lookup b e = (
      λ idle. absurd (not_idle_lookup idle),
      λ at. absurd (no_udp_lookup at),
      λ at. absurd (cc),
      λ p at. absurd (cc),
      λ p at. absurd (cc),
      λ p at. (ap (λ (on : Bool). reply.Ok (truth_fields (not on))) (sym e) ∙ ap (λ (k : ℕ). reply.Ok (truth_fields (lookup_ready (lookup_at m.store.records k)))) (its_lookup p at), (refl, refl)),
    )

    by_progress_of : (b : Bool) → looks_on (lookup_at m.store.records place) ≡ b → ReadyRow [] (Ok (not b), m)
    by_progress_of true e = (said_of_lookup true e, ((tt, tt), λ no connects listens. inr (record { place = place; watches = is; in_progress = e; quiet = refl })))
    by_progress_of false e = (said_of_lookup false e, ((tt, tt), tt))

  by_watch : (o : Option Watched) → watch_of (kind_at m.table pollable) ≡ o → Meets ReadyRow [] (ready_on m (first_ids line) o)
  by_watch None is = ends ((λ idle. let some = idle.watches in absurd (cc), λ at. let some = at.1 in absurd (cc), λ at. absurd (cc), λ place at. absurd (cc), λ place at. absurd (cc), λ place at. absurd (cc)), (rw is tt, (refl, refl)))
  by_watch (Some watched.Plain) is = ends ((λ idle. (refl, (refl, refl)), λ at. (refl, (refl, refl)), λ at. (refl, (refl, refl)), λ place at. absurd (cc), λ place at. absurd (cc), λ place at. absurd (cc)), ((tt, tt), tt))
  by_watch (Some (watched.Udp place)) is = ends ((λ idle. (refl, (refl, refl)), λ at. (refl, (refl, refl)), λ at. (refl, (refl, refl)), λ place at. absurd (cc), λ place at. absurd (cc), λ place at. absurd (cc)), ((tt, tt), tt))
  by_watch (Some (watched.Incoming place)) is = onto _ (by_incoming place is (open_at m.store.records place) refl)
  by_watch (Some (watched.Outgoing place)) is = ends (by_outgoing place is)
  by_watch (Some (watched.Lookup place)) is = ends (by_progress_of place is (looks_on (lookup_at m.store.records place)) refl)
  by_watch (Some (watched.Socket place)) is = onto _ (by_record (watched.Socket place) is tt (tcp2_at m.store.records place) refl)
  by_watch (Some (watched.Input place)) is = onto _ (by_record (watched.Input place) is tt (tcp2_at m.store.records place) refl)
  by_watch (Some (watched.Output place)) is = onto _ (by_record (watched.Output place) is tt (tcp2_at m.store.records place) refl)

  pub ready : Meets (Says contexts m line (step.Call c (guest.Pollable (pollable_call.Ready pollable)))) [] (bind (ready_asks m (first_ids line) pollable) (λ done. Give (truth_reply done.0, done.1)))
  ready = onto _ (by_watch (watch_of (kind_at m.table pollable)) refl)
