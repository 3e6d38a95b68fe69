-- Of the machines that runs lead to: what a socket connects by is a connect, what a listener accepts by an accept, what is
-- pending as a bind is a bind, as a listen a listen, and as a create a create; each live handle is of a record that is there, a
-- connect in progress may be finished, and a socket that does nothing yet doesn't listen.
use Rattle.wasi_records.specs.Records.{tcp2_at, udp2_at, open_at}
use Rattle.udp_records.specs.Udp.{open_of}
use Rattle.host_store.specs.declared.kind.Kind.TheVariants.{Tcp3, Udp2, Udp3, Listen3, Lookup, Incoming, Outgoing, PlainInput, PlainOutput, Network, ErrorValue, Receive3, Result3, Send3}
use Rattle.host_store.specs.Kinds.{lookup_of}
use Rattle.host_store.specs.Machine.{lookup_number}
use Rattle.wasi_walks.specs.Answered.{lookup_in}
use Rattle.wasi_causes.proofs.Beside.{none_of, not_both}
use Rattle.wasi_causes.proofs.Words.{eq-eqb, stands_as, ◌∙◌}
use Rattle.wasi_walks.specs.Missing.{BesideNothing, ExclusiveOnNothing}
use Rattle.wasi_walks.specs.Waiting.{call_over, left_by}
use Rattle.wasi_causes.specs.Lookups.{found_lookup}
use Rattle.udp_records.specs.declared.udp.OpenUdp.{OpenUdp}
use Rattle.udp_records.specs.declared.udp.UdpRecord.{UdpRecord}
use Rattle.udp_records.specs.declared.udp.UdpInProgress.{UdpInProgress}
use Rattle.wasi_causes.proofs.sockets.P3ListenPolls.{listen_polled_so}
use Rattle.wasi_causes.specs.P3Listens.{ListenPolled, ListenerAccepts}
use Rattle.tcp_records.specs.Holding.{has_listener}
use Rattle.wasi_walks.proofs.owners.Names.{listens_in}
use Rattle.wasi_walks.specs.Listens.{HasNoListener}
use Rattle.wasi_world.specs.Operation.{Operation}
use Rattle.wasi_causes.specs.Udp.{MakesOneHandle}
use Rattle.host_store.specs.Lines.{tcp_in}
use Rattle.host_store.specs.Kinds.{listen3_of}
use Rattle.host_store.specs.Machine.{listen3_at, tcp3_at}
use Rattle.wasi_walks.specs.Waiting.{IsCreating, IsUdpBinding}
use Rattle.tcp_records.specs.declared.tcp_binding.InProgress.TheVariants.{Binding}
use Rattle.wasi_causes.proofs.Words.{AcceptsAt, AcceptsIn, Allows, Answered, Bool, CodeWord, ConnectsAt, Entry}
use Rattle.wasi_causes.proofs.Words.{FinishRefusal, Full, Give, HasChildren, HoldsCall, IfSome, InProgress, Input, IsBinding, IsListening}
use Rattle.wasi_causes.proofs.Words.{IsOnNothing, IsSome, IsSomeAnd, Item, Kind, Left, List, Listening, Machine}
use Rattle.wasi_causes.proofs.Words.{NoSuchHandle, None, NotPermitted, Option, Output}
use Rattle.wasi_causes.proofs.Words.{Pollable, RefusedOf, Reply, Some, Standing, StandingCall}
use Rattle.wasi_causes.proofs.Words.{PendingCallsFit, Step, Tcp2, TcpRecord, TcpState, TrapKind, WasiSocketsCtx, Watched}
use Rattle.wasi_causes.proofs.Words.{WatchesAccept, WatchesConnect, [], ap, call_of}
use Rattle.wasi_causes.proofs.Words.{false, first_state}
use Rattle.wasi_causes.proofs.Words.{if◌then◌else◌, inl, inr, is_connect, is_full, kind_at, machine_asks}
use Rattle.wasi_causes.proofs.Words.{own_of, place_in, record_at, record_in, refl, run}
use Rattle.wasi_causes.proofs.Words.{socket_at, subst, sym, true}
use Rattle.wasi_causes.proofs.Words.{watch_of, watched_in, ◌∷◌}
use Rattle.wasi_causes.proofs.Words.{ℕ, ◌==◌, ◌≡◌, ◌⊎◌}
use Rattle.wasi_causes.proofs.tables.Steps.{its_own}
use Rattle.wasi_causes.specs.Outcomes.{InputIsThere, Traps}
use Rattle.wasi_causes.specs.Reached.{Finishes, MayFinish, ListensLate, HasRecord, HasUdpRecord, OfItsRecord}
use Rattle.tcp_records.specs.declared.tcp_listening.Listening.TheVariants as listening
use Rattle.host_store.specs.declared.store.StandingCall.TheVariants as standing
use Rattle.wasi_walks.proofs.fits.Law.{Fit}
use Rattle.wasi_walks.proofs.owners.Names.{held_udp}
use Rattle.wasi_causes.proofs.Fitted.{Fitted, none_lost}
use Rattle.wasi_walks.specs.Waiting.{left_beside}
use Rattle.wasi_walks.proofs.fits.Polls.{Anything}
use Rattle.wasi_walks.proofs.fits.Records.{FitListening, FitProgress, FitRecord, FitCall, FitUdpProgress}
use Rattle.wasi_walks.proofs.walks.Moves.{HasBinding, HasListen}
use Rattle.wasi_walks.proofs.walks.Runs.{run_ends}
use Rattle.wasi_walks.proofs.walks.States.{Over}
use Rattle.wasi_walks.proofs.walks.Steps.{may_while, machine_walks}
use Rattle.wasi_walks.specs.Answered.{AllOf, ConnectsOn}
use Rattle.wasi_walks.specs.Listens.{RefusedListen}
use Rattle.wasi_tcp.specs.Listen as listen
use Rattle.wasi_tcp.specs.Socket.{side_in}
use Rattle.wasi_walks.specs.Waiting.{IsAskLeft, IsAskOfListen, IsOfBound, StartsTold}
use Rattle.wasi_causes.proofs.Words.{HoldsConnect, wildcard}
use Rattle.wasi_steps.specs.declared.reply.Reply.TheVariants as reply
use Rattle.wasi_steps.specs.declared.guest_call.GuestCall.TheVariants as guest
use Rattle.wasi_steps.specs.declared.guest_call.TcpCall.TheVariants as tcp_call
use Rattle.wasi_steps.specs.declared.guest_call.PollableCall.TheVariants as pollable_call
use Rattle.wasi_steps.specs.declared.guest_call.P3TcpCall.TheVariants as p3_tcp_call
use Rattle.wasi_steps.specs.declared.step.Step.TheVariants as step
use Rattle.wasi_tcp.specs.declared.socket.TcpState.TheVariants as state
use Rattle.wasi_causes.proofs.Pending.{Holds, inputs_are_there, runs_hold, runs_keep_sockets}
use Rattle.wasi_world.specs.declared.ids.Ids.{Ids}
use Rattle.host_store.specs.declared.store.BlockingCall.{BlockingCall}
use Rattle.wasi_host.specs.Polling.{are_pollables}
use Rattle.host_store.specs.Standing.{standing_as}
use Rattle.wasi_causes.proofs.Watching.{runs_have_what_is_watched}
use Rattle.wasi_causes.proofs.pollables.Steps.{all_there}
use Rattle.wasi_causes.specs.Blocking.{IsCallOfStream, StreamCallStands}
use Rattle.wasi_causes.specs.PollableCalls.{WatchedAreThere}
use Rattle.host_store.specs.declared.kind.PlainInput.TheVariants as plain_input
use Rattle.host_store.specs.declared.kind.PlainOutput.TheVariants as plain_output
use Rattle.wasi_causes.proofs.Steady.{AsksToConnect, AsksToListen, Steady, runs_are_steady}
use Rattle.wasi_causes.proofs.BoundListens.{CallBound, StandsBound, begins_bound, runs_listen_bound}
use Rattle.wasi_causes.proofs.Derived.{held, listens_held, streams_held, OwnedIn, its_record, watched_record}
use Rattle.wasi_causes.proofs.Words.{streams_in}
use Rattle.host_store.specs.Kinds.{place_of}
use Rattle.wasi_causes.specs.Datagrams.{HasItsHandle, HasItsSocket, LacksRoomForStreams, PendingHandleIsLive}
use Rattle.wasi_world.specs.declared.outcome.TrapKind.TheVariants.{Capacity, StreamsAlive, EmptyList, TooLong}
use Rattle.wasi_walks.proofs.fits.Records.{FitConnecting}
use Rattle.wasi_walks.specs.Waiting.{IsUdpConnecting}

-- == of a record
accepts_so : (l : Listening) → FitListening l → AcceptsIn l
accepts_so (listening.Accepts l) h = h
accepts_so _ h = tt

-- what is left of a listen that was pending has no question for the local address
asks_left : (items : List Item) → listen.IsLeftOfListen items → StartsTold items → AllOf IsAskOfListen items → AllOf IsAskLeft items
asks_left _ (listen.BoundBefore backlog) told asks = absurd told
asks_left _ (listen.AddressTold a backlog) told asks = (tt, (tt, tt))
asks_left _ (listen.Unbound wildcard backlog) told asks = (tt, (tt, (tt, (tt, tt))))
asks_left _ (listen.BindChecked wildcard backlog) told asks = (tt, (tt, (tt, tt)))
asks_left _ (listen.Checked wildcard backlog) told asks = (tt, (tt, tt))
asks_left _ (listen.Bound backlog) told asks = (tt, tt)
asks_left _ (listen.ToClose c) told asks = absurd asks.0
asks_left _ listen.Ended told asks = tt

listens_so : (s : TcpState) (l : Listening) → FitListening l → AsksToListen s l → HasListen l → IsListening s l
listens_so s (listening.Begins op) h k told = (h, asks_left op.left h.left told k.0, k.1, ap side_in k.2)
listens_so s _ h k none = absurd none

connects_so : (s : TcpState) → HoldsConnect s → AsksToConnect s → ConnectsOn s
connects_so (state.Connecting op) h k = (h, k)
connects_so _ h k = tt

module _ (m : Machine) (P : TcpRecord → Type 0) (so : (place : ℕ) (r : TcpRecord) → tcp2_at m.store.records place ≡ Some r → P r) where
  at_place : (place : ℕ) (o : Option TcpRecord) → tcp2_at m.store.records place ≡ o → IfSome o P
  at_place place None at = tt
  at_place place (Some r) at = so place r at

  of_record : (o : Option ℕ) → IfSome (record_in m o) P
  of_record None = tt
  of_record (Some place) = at_place place (tcp2_at m.store.records place) refl

  of_watched : (o : Option Watched) → IfSome (watched_in m o) P
  of_watched None = tt
  of_watched (Some w) = at_place (place_in w) (tcp2_at m.store.records (place_in w)) refl

module _ (m : Machine) (f : Fit (Over m)) (i : Steady m.store.records) where
  binds_so : (r : TcpRecord) (doing : InProgress) → r.in_progress ≡ doing → FitRecord r → HasBinding doing → IsBinding doing
  binds_so r (Binding op) e k b = (subst (FitProgress r.inner.state) e k.2).1
  binds_so r _ e k b = absurd b

  by_call : (call : StandingCall) → FitCall m.store.records call → CallBound m.store.records call → HoldsCall m call
  by_call (standing.Bind place face) h b = subst (λ (o : Option TcpRecord). IfSome o (λ r. IsBinding r.in_progress)) (sym h.at) (binds_so h.was h.was.in_progress refl (f.records place h.was h.at) h.goes)
  by_call (standing.Listen place None) h b =
      let same : b.was ≡ h.was = (let p : Some b.was ≡ Some h.was = sym b.at ∙ h.at in cc) in
      subst (λ (o : Option TcpRecord). IfSome o (λ r. IsListening r.inner.state r.listening × IsOfBound r.listening)) (sym h.at) (
        listens_so h.was.inner.state h.was.listening (f.records place h.was h.at).1 (i place h.was h.at).2.1 h.goes,
        subst (λ (r : TcpRecord). IsOfBound r.listening) same (begins_bound b.was.listening b.goes),
      )
  by_call (standing.Listen place (Some handle)) h b =
      subst (λ (o : Option TcpRecord). IfSome o (λ r. IsListening r.inner.state r.listening)) (sym h.at)
      (listens_so h.was.inner.state h.was.listening (f.records place h.was h.at).1 (i place h.was h.at).2.1 h.goes)
  by_call (standing.DropOutput place) h b = tt
  by_call (standing.UdpCreate place face) h b = subst (λ (o : Option UdpRecord). IfSome o IsCreating) (sym h.at) (f.udps place (UdpRecord.Creating h.was) h.at)
  by_call (standing.UdpBind place face) h b =
      let bind : IsUdpBinding (UdpInProgress.Binding h.op) = (subst (FitUdpProgress h.was.inner.side) h.goes (f.udps place (UdpRecord.Open h.was) h.at).0).bind in
      subst (λ (o : Option OpenUdp). IfSome o (λ q. IsUdpBinding q.in_progress)) (sym (ap open_of h.at)) (subst IsUdpBinding (sym h.goes) bind)
  by_call (standing.UdpConnect place handle) h b =
      let connect : IsUdpConnecting (Some h.op) = (subst (FitConnecting h.was.inner.side) h.goes (f.udps place (UdpRecord.Open h.was) h.at).1).connect in
      subst (λ (o : Option OpenUdp). IfSome o (λ q. IsUdpConnecting q.connecting)) (sym (ap open_of h.at)) (subst IsUdpConnecting (sym h.goes) connect)
  by_call (standing.UdpConnect3 place) h b =
      let connect : IsUdpConnecting (Some h.op) = (subst (FitConnecting h.was.inner.side) h.goes (f.udps place (UdpRecord.Open h.was) h.at).1).connect in
      subst (λ (o : Option OpenUdp). IfSome o (λ q. IsUdpConnecting q.connecting)) (sym (ap open_of h.at)) (subst IsUdpConnecting (sym h.goes) connect)
  by_call (standing.DropOutgoing place) h b = tt
  by_call (standing.Blocking call) h b = tt

  stands_by : (o : Option Standing) → ((s : Standing) → o ≡ Some s → FitCall m.store.records s.call) → StandsBound m.store.records o → IfSome o (λ s. HoldsCall m s.call)
  stands_by None h b = tt
  stands_by (Some s) h b = by_call s.call (h s refl) b

-- what a handle needs of its record is more than that it is there
with_streams : (o : Option TcpRecord) → IsSome (streams_in o) → IsSome o
with_streams (Some r) s = refl
with_streams None s = s

with_open : (o : Option UdpRecord) → IsSome (open_of o) → IsSome o
with_open (Some u) s = refl
with_open None s = s

-- what has its handle is open
held_open : (o : Option OpenUdp) → IsSome (held_udp o) → IsSome o
held_open (Some o) s = refl
held_open None s = s

module _ (m : Machine) (i : OwnedIn m) where
  tcp_there : (place : ℕ) → IsSome (streams_in (tcp2_at m.store.records place)) → HasRecord m place
  tcp_there place names = with_streams (tcp2_at m.store.records place) names

  udp_there : (place : ℕ) → IsSome (held_udp (open_at m.store.records place)) → HasUdpRecord m place
  udp_there place names = with_open (udp2_at m.store.records place) (held_open (open_at m.store.records place) names)

  of_its_record : (handle : ℕ) (kind : Kind) → kind_at m.table handle ≡ Some kind → OfItsRecord m kind
  of_its_record handle (Tcp2 place) e = held (tcp2_at m.store.records place) (its_record m i handle place (Tcp2 place) e (inl refl))
  of_its_record handle (Tcp3 place) e = held (tcp2_at m.store.records place) (its_record m i handle place (Tcp3 place) e (inl refl))
  of_its_record handle (Input place) e = tcp_there place (streams_held (tcp2_at m.store.records place) (its_record m i handle place (Input place) e (inr (inl refl))))
  of_its_record handle (Output place) e = tcp_there place (streams_held (tcp2_at m.store.records place) (its_record m i handle place (Output place) e (inr (inl refl))))
  of_its_record handle (Udp2 place) e = udp_there place (its_record m i handle place (Udp2 place) e (inl refl))
  of_its_record handle (Udp3 place) e = udp_there place (its_record m i handle place (Udp3 place) e (inl refl))
  of_its_record handle (Listen3 place) e = listens_held (tcp2_at m.store.records place) (its_record m i handle place (Listen3 place) e (inr (inr refl)))
  of_its_record handle (Receive3 end) e = tt
  of_its_record handle (Send3 end) e = tt
  of_its_record handle (Result3 place) e = its_record m i handle place (Result3 place) e (inl refl)
  of_its_record handle (Incoming place) e = udp_there place (its_record m i handle place (Incoming place) e (inr (inl refl)))
  of_its_record handle (Outgoing place) e = udp_there place (its_record m i handle place (Outgoing place) e (inr (inl refl)))
  of_its_record handle (Lookup place) e = its_record m i handle place (Lookup place) e (inl refl)
  of_its_record handle (PlainInput (plain_input.Pipe place)) e = its_record m i handle place (PlainInput (plain_input.Pipe place)) e (inl refl)
  of_its_record handle (PlainOutput (plain_output.Pipe place)) e = its_record m i handle place (PlainOutput (plain_output.Pipe place)) e (inl refl)
  of_its_record handle (Pollable (Watched.Socket place)) e = held (tcp2_at m.store.records place) (watched_record m i handle place (Watched.Socket place) e refl)
  of_its_record handle (Pollable (Watched.Input place)) e = tcp_there place (streams_held (tcp2_at m.store.records place) (watched_record m i handle place (Watched.Input place) e refl))
  of_its_record handle (Pollable (Watched.Output place)) e = tcp_there place (streams_held (tcp2_at m.store.records place) (watched_record m i handle place (Watched.Output place) e refl))
  of_its_record handle (Pollable (Watched.Udp place)) e = udp_there place (watched_record m i handle place (Watched.Udp place) e refl)
  of_its_record handle (Pollable (Watched.Incoming place)) e = udp_there place (watched_record m i handle place (Watched.Incoming place) e refl)
  of_its_record handle (Pollable (Watched.Outgoing place)) e = udp_there place (watched_record m i handle place (Watched.Outgoing place) e refl)
  of_its_record handle (Pollable (Watched.Lookup place)) e = watched_record m i handle place (Watched.Lookup place) e refl
  of_its_record handle (Pollable Watched.Plain) e = tt
  of_its_record handle (PlainInput plain_input.Closed) e = tt
  of_its_record handle (PlainOutput plain_output.Sink) e = tt
  of_its_record handle (PlainOutput plain_output.Closed) e = tt
  of_its_record handle Network e = tt
  of_its_record handle ErrorValue e = tt

  -- a handle of a socket has its record
  is_no_socket : (handle : ℕ) → record_at m handle ≡ None → socket_at m handle ≡ None
  is_no_socket handle none = by_kind (kind_at m.table handle) refl none
    where
      by_kind : (o : Option Kind) → kind_at m.table handle ≡ o → record_in m (place_of o) ≡ None → place_of o ≡ None
      by_kind (Some (Tcp2 place)) e none = absurd (let there = of_its_record handle (Tcp2 place) e in cc)
      by_kind _ e none = refl

  -- and a handle of a lookup has it
  no_lookup_missing : (handle : ℕ) → found_lookup m handle ≡ None → lookup_number m handle ≡ None
  no_lookup_missing handle none = by_kind (kind_at m.table handle) refl none
    where
      by_kind : (o : Option Kind) → kind_at m.table handle ≡ o → lookup_in m (lookup_of o) ≡ None → lookup_of o ≡ None
      by_kind (Some (Lookup place)) e none = absurd (let there = of_its_record handle (Lookup place) e in cc)
      by_kind _ e none = refl

-- a pending call is in progress in its record, if it is of one, and on its streams
module _ (m : Machine) (f : Fit (Over m)) (well : PendingHandleIsLive m) where
  on_nothing : (call : StandingCall) → FitCall m.store.records call → HasItsHandle m call → IsOnNothing m call → ⊥
  on_nothing (standing.Bind place face) h its none = let at = h.at in cc
  on_nothing (standing.Listen place None) h its none = let at = h.at in cc
  on_nothing (standing.Listen place (Some handle)) h its (inl none) = let at = h.at in cc
  on_nothing (standing.Listen place (Some handle)) h its (inr none) = cc
  on_nothing (standing.DropOutput place) h its none = none
  on_nothing (standing.UdpCreate place face) h its none = let at = h.at in cc
  on_nothing (standing.UdpBind place face) h its none = let at : open_at m.store.records place ≡ Some h.was = ap open_of h.at in cc
  on_nothing (standing.UdpConnect3 place) h its none = let at : open_at m.store.records place ≡ Some h.was = ap open_of h.at in cc
  on_nothing (standing.UdpConnect place handle) h its (inl none) = let at : open_at m.store.records place ≡ Some h.was = ap open_of h.at in cc
  on_nothing (standing.UdpConnect place handle) h its (inr none) = cc
  on_nothing (standing.DropOutgoing place) h its none = none
  on_nothing (standing.Blocking call) h its none = its.0 none

  stands_on : (n : ℕ) → ExclusiveOnNothing m n → ⊥
  stands_on n k = by_standing m.store.standing refl k
    where
      by_standing : (o : Option Standing) → m.store.standing ≡ o → IsSomeAnd (call_of o n) (λ s. IsOnNothing m s.call) → ⊥
      by_standing None e none = none
      by_standing (Some s) e none = by_line (s.ids.line == n) none
        where
          its_call : HasItsHandle m s.call
          its_call = subst (λ (o : Option Standing). IfSome o (λ s. HasItsHandle m s.call)) e well

          by_line : (same : Bool) → IsSomeAnd (if same then Some s else None) (λ c. IsOnNothing m c.call) → ⊥
          by_line true on = on_nothing s.call (f.stands s e) its_call on
          by_line false on = on

-- == of a run
module _ (contexts : List WasiSocketsCtx) (steps : List Step) (es : List Entry) (replies : List Reply) (m : Machine) (w : Left (run contexts [] first_state 1 steps) es (Give (replies, m))) where
  run_holds : Holds m
  run_holds = runs_hold contexts steps es replies m w

  run_fitted : Fitted m
  run_fitted = run_holds.1

  pub fits : Fit (Over m)
  fits = run_fitted.2

  run_well : PendingHandleIsLive m
  run_well = run_holds.0

  pub run_live : PendingHandleIsLive m
  run_live = run_well

  pub runs_have_inputs : (handle : ℕ) → InputIsThere m handle
  runs_have_inputs = inputs_are_there m run_fitted.0

  pub run_socket : IfSome m.store.standing (λ s. HasItsSocket m s.call)
  run_socket = runs_keep_sockets m run_well

  run_steady : Steady m.store.records
  run_steady = runs_are_steady contexts steps es replies m w

  connects_there : (place : ℕ) (r : TcpRecord) → tcp2_at m.store.records place ≡ Some r → ConnectsOn r.inner.state
  connects_there place r g = connects_so r.inner.state (fits.records place r g).0 (run_steady place r g).2.0

  accepts_there : (place : ℕ) (r : TcpRecord) → tcp2_at m.store.records place ≡ Some r → AcceptsIn r.listening
  accepts_there place r g = accepts_so r.listening (fits.records place r g).1

  pub runs_connect : (handle : ℕ) → ConnectsAt m handle
  runs_connect handle = of_record m _ connects_there (socket_at m handle)

  pub runs_watch : (pollable : ℕ) → WatchesConnect m pollable
  runs_watch pollable = of_watched m _ connects_there (watch_of (kind_at m.table pollable))

  pub runs_accept : (handle : ℕ) → AcceptsAt m handle
  runs_accept handle = of_record m _ accepts_there (socket_at m handle)

  -- the same of a listener of 0.3
  pub runs_accept3 : (handle : ℕ) → ListenerAccepts m handle
  runs_accept3 handle = by_number (listen3_at m handle)
    where
      by_number : (o : Option ℕ) → IfSome (tcp_in m o) (λ r. AcceptsIn r.listening)
      by_number None = tt
      by_number (Some place) = at_place m (λ r. AcceptsIn r.listening) accepts_there place (tcp2_at m.store.records place) refl

  pub runs_watch_accept : (pollable : ℕ) → WatchesAccept m pollable
  runs_watch_accept pollable = of_watched m _ accepts_there (watch_of (kind_at m.table pollable))

  pub runs_bind : PendingCallsFit m
  runs_bind = stands_by m fits run_steady m.store.standing fits.stands (runs_listen_bound contexts steps es replies m w)

  pub runs_have_records : (handle : ℕ) (kind : Kind) → kind_at m.table handle ≡ Some kind → OfItsRecord m kind
  runs_have_records = of_its_record m run_fitted.0

  pub runs_miss_no_record : (handle : ℕ) → record_at m handle ≡ None → socket_at m handle ≡ None
  runs_miss_no_record = is_no_socket m run_fitted.0

  pub runs_miss_no_lookup : (handle : ℕ) → found_lookup m handle ≡ None → lookup_number m handle ≡ None
  runs_miss_no_lookup = no_lookup_missing m run_fitted.0

  pub runs_stand_on_records : (n : ℕ) → ExclusiveOnNothing m n → ⊥
  runs_stand_on_records = stands_on m fits run_well

  pub runs_may_finish : (place : ℕ) (r : TcpRecord) → tcp2_at m.store.records place ≡ Some r → is_connect r.in_progress ≡ true → MayFinish r.inner.state
  runs_may_finish place r g = (run_steady place r g).0

  pub runs_listen_late : (place : ℕ) (r : TcpRecord) → tcp2_at m.store.records place ≡ Some r → ListensLate r
  runs_listen_late place r g = (run_steady place r g).1

  pub finishes_refused_in_runs : (line ctx handle : ℕ) (entries : List Entry) (word : CodeWord) (after : Machine) → Answered contexts m line (step.Call ctx (guest.Tcp (tcp_call.FinishConnect handle))) entries (reply.Err word) after → RefusedOf m handle (FinishRefusal m) entries word after
  finishes_refused_in_runs line ctx handle entries word after a =
      (its_own contexts m line (step.Call ctx (guest.Tcp (tcp_call.FinishConnect handle))) entries (reply.Err word) after a (λ e. cc)).1.1.cause (runs_connect handle) (of_record m Finishes (λ place r g. (run_steady place r g).0) (socket_at m handle))

  pub listens_refused_in_runs : (line ctx handle : ℕ) (entries : List Entry) (word : CodeWord) (after : Machine) → Answered contexts m line (step.Call ctx (guest.Tcp (tcp_call.StartListen handle))) entries (reply.Err word) after → RefusedListen m (own_of line) handle entries word after
  listens_refused_in_runs line ctx handle entries word after a = (its_own contexts m line (step.Call ctx (guest.Tcp (tcp_call.StartListen handle))) entries (reply.Err word) after a (λ e. cc)).1.1.0 (of_record m ListensLate runs_listen_late (socket_at m handle))

  -- a poll of a pending listen of 0.3: what it needs is there
  pub listens_polled_in_runs : (line place handle : ℕ) (ids : Ids) (r : TcpRecord) (op : Operation) (entries : List Entry) (said : Reply) (after : Machine) → m.store.standing ≡ Some (standing_as ids (standing.Listen place (Some handle)))
      → tcp2_at m.store.records place ≡ Some r → r.listening ≡ listening.Begins op → Answered contexts m line (step.Poll ids.line) entries said after → ListenPolled m ids.line handle place r op entries said after
  listens_polled_in_runs line place handle ids r op entries said after stands at is a =
      let names : tcp3_at m handle ≡ Some place = subst (λ (o : Option Standing). IfSome o (λ s. HasItsHandle m s.call)) stands run_well in
      let listens : IfSome (tcp2_at m.store.records place) (λ q. IsListening q.inner.state q.listening) = subst (λ (o : Option Standing). IfSome o (λ s. HoldsCall m s.call)) stands runs_bind in
      let its : IsListening r.inner.state r.listening = subst (λ (o : Option TcpRecord). IfSome o (λ q. IsListening q.inner.state q.listening)) at listens in
      listen_polled_so contexts m line ids place handle stands names r at op is (subst (IsListening r.inner.state) is its) entries said after a

  -- an accept isn't refused: the socket of each live listener has one
  pub accepts_never_refused : (line ctx handle remaining : ℕ) (entries : List Entry) (word : CodeWord) (after : Machine) → Answered contexts m line (step.Call ctx (guest.P3Tcp (p3_tcp_call.Accept handle remaining))) entries (reply.Err word) after → ⊥
  accepts_never_refused line ctx handle remaining entries word after a =
      let k = (its_own contexts m line (step.Call ctx (guest.P3Tcp (p3_tcp_call.Accept handle remaining))) entries (reply.Err word) after a (λ e. cc)).1.1 in
      none_listens k.found.listening k.holds.0 (subst (λ (o : Option TcpRecord). listens_in o ≡ true) k.at (by_kind (kind_at m.table handle) refl k.place k.names))
    where
      by_kind : (o : Option Kind) → kind_at m.table handle ≡ o → (place : ℕ) → listen3_of o ≡ Some place → listens_in (tcp2_at m.store.records place) ≡ true
      by_kind (Some (Listen3 its)) e place names =
          let same : its ≡ place = cc in
          subst (λ (p : ℕ). listens_in (tcp2_at m.store.records p) ≡ true) same (its_record m run_fitted.0 handle its (Listen3 its) e (inr (inr refl)))
      by_kind _ e place names = absurd (cc)

      none_listens : (l : Listening) → HasNoListener l → has_listener l ≡ true → ⊥
      none_listens (listening.Accepts l) none has = none
      none_listens _ none has = absurd (cc)

  -- why a poll traps: there is no room for what it gives, or the socket of a call beside others is gone
  abbrev HasNoRoom : TrapKind → Type 0
  HasNoRoom kind = (kind ≡ Full) × (((is_full m.table ≡ true) × IsSomeAnd m.store.standing (λ s. MakesOneHandle s.call)) ⊎ (IsSomeAnd m.store.standing (λ s. LacksRoomForStreams m s.call) ⊎ StreamCallStands m))

  abbrev PollTraps : ℕ → List Entry → TrapKind → Machine → Type 0
  PollTraps n entries kind after = HasNoRoom kind ⊎ ((kind ≡ NoSuchHandle) × BesideNothing m n × (entries ≡ []) × (after ≡ call_over m n))

  full_alone : (line n : ℕ) (entries : List Entry) (kind : TrapKind) (after : Machine) → Traps contexts m line (step.Poll n) entries kind after → PollTraps n entries kind after
  full_alone line n entries NoSuchHandle after h = elim h.0 [
    | inl none ↦ absurd (stands_on m fits run_well n none)
    | inr gone ↦ let left = h.1 run_well in inr (refl, gone, left.0, left.1 ∙ (ap (λ (o : Option Standing). left_by m n o) (none_of m.store.standing n gone.0) ∙ ap (left_beside m n) (none_lost m run_fitted n gone)))
  ]
  full_alone line n entries HasChildren after h = absurd h.0
  full_alone line n entries Full after h = inl (refl, h.2)
  full_alone line n entries NotPermitted after h = elim h.0 [ inl w ↦ absurd w | inr s ↦ absurd s ]
  full_alone line n entries StreamsAlive after h = absurd h.0
  full_alone line n entries Capacity after h = absurd h.0
  full_alone line n entries TooLong after h = absurd h.0
  full_alone line n entries EmptyList after h = absurd h.0
  full_alone line n entries _ after h = absurd h

  -- a poll traps only where there is no room for the handle of a create, for those of datagram streams or for that of a stream's
  -- error
  pub polls_trap : (line n : ℕ) (entries : List Entry) (kind : TrapKind) (after : Machine) → Answered contexts m line (step.Poll n) entries (reply.Trap kind) after → PollTraps n entries kind after
  polls_trap line n entries kind after a = full_alone line n entries kind after (its_own contexts m line (step.Poll n) entries (reply.Trap kind) after a (λ e. cc)).1

  -- a wait for several traps only where it is for none, or a handle of it is no pollable's
  all_watched : (ps : List ℕ) → WatchedAreThere m ps
  all_watched [] = tt
  all_watched (p ∷ ps) = (runs_have_what_is_watched contexts steps es replies m w p, all_watched ps)

  abbrev ListTraps : List ℕ → List Entry → Machine → Type 0
  ListTraps ps entries after = ((ps ≡ []) ⊎ (are_pollables m ps ≡ false)) × (entries ≡ []) × (after ≡ m)

  list_trap : (line ctx : ℕ) (ps : List ℕ) (entries : List Entry) (kind : TrapKind) (after : Machine) → Traps contexts m line (step.Call ctx (guest.Pollable (pollable_call.PollList ps))) entries kind after → ListTraps ps entries after
  list_trap line ctx ps entries NoSuchHandle after h = let quiet = h.1 (all_watched ps) in (inr (none_there (are_pollables m ps) refl), quiet.0, quiet.1)
    where
      none_there : (b : Bool) → are_pollables m ps ≡ b → are_pollables m ps ≡ false
      none_there true e = absurd (all_there m ps e (all_watched ps) h.0)
      none_there false e = e
  list_trap line ctx ps entries EmptyList after h = (inl h.0, h.1.0, h.1.1)
  list_trap line ctx ps entries HasChildren after h = absurd h.0
  list_trap line ctx ps entries Full after h = absurd h.0
  list_trap line ctx ps entries NotPermitted after h = elim h.0 [ inl w ↦ absurd w | inr s ↦ absurd s ]
  list_trap line ctx ps entries StreamsAlive after h = absurd h.0
  list_trap line ctx ps entries Capacity after h = absurd h.0
  list_trap line ctx ps entries TooLong after h = absurd h.0
  list_trap line ctx ps entries _ after h = absurd h

  pub lists_trap : (line ctx : ℕ) (ps : List ℕ) (entries : List Entry) (kind : TrapKind) (after : Machine) → Answered contexts m line (step.Call ctx (guest.Pollable (pollable_call.PollList ps))) entries (reply.Trap kind) after → ListTraps ps entries after
  lists_trap line ctx ps entries kind after a = list_trap line ctx ps entries kind after (its_own contexts m line (step.Call ctx (guest.Pollable (pollable_call.PollList ps))) entries (reply.Trap kind) after a (λ e. cc)).1

  -- a poll of a wait doesn't trap
  waits_never_trap_by : (call : BlockingCall) → (IsCallOfStream call → ⊥) → ((is_full m.table ≡ true) × ⊥) ⊎ (⊥ ⊎ IsCallOfStream call) → ⊥
  waits_never_trap_by call wait (inl h) = h.1
  waits_never_trap_by call wait (inr (inl h)) = h
  waits_never_trap_by call wait (inr (inr h)) = wait h

  pub waits_never_trap : (line : ℕ) (ids : Ids) (call : BlockingCall) → m.store.standing ≡ Some (standing_as ids (standing.Blocking call)) → (IsCallOfStream call → ⊥) → (entries : List Entry) (kind : TrapKind) (after : Machine)
      → Answered contexts m line (step.Poll ids.line) entries (reply.Trap kind) after → ⊥
  waits_never_trap line ids call stands wait entries kind after a = elim (polls_trap line ids.line entries kind after a) [
    | inl k ↦ waits_never_trap_by call wait (rw stands at k.1)
    | inr gone ↦ not_both (stands_as m.store.standing ids.line) (ap (λ (o : Option Standing). stands_as o ids.line) stands ∙ eq-eqb ids.line ids.line refl) gone.1.0
  ]
