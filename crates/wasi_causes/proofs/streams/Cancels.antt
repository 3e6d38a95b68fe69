-- A cancel of the pending call.
use Rattle.host_store.specs.declared.kind.Interface.{Interface}
use Rattle.wasi_causes.proofs.operations.PendingListens.{it_listens}
use Rattle.wasi_causes.proofs.Words.{nothing_stands, ◌≡◌, ◌==◌, ◌∙◌, ℕ, Bool, true, false, if◌then◌else◌, List, [], Option, Some, None, refl, sym, subst, ap, inl, inr, Entry, Give, IfSome, IsListening, IsSomeAnd, Listening, Machine, PendingCallsFit, Records, Standing, StandingCall, TcpRecord, WasiSocketsCtx, bind, call_of, eq-eqb, side_of, stands_as, standing_as, unstood}
use Rattle.wasi_world.specs.declared.ids.Ids.{Ids}
use Rattle.wasi_world.specs.declared.call.Call.TheVariants as call
use Rattle.wasi_udp.specs.Create.{Create}
use Rattle.wasi_causes.proofs.Words.{Item, entry}
use Rattle.socket_common.specs.Rounds.{is_going}
use Rattle.wasi_world.specs.declared.call.Told.TheVariants as told
use Rattle.wasi_walks.specs.Waiting.{HoldsCall, IsCreating}
use Rattle.wasi_host.specs.Cancel.{cancel_asks, cancel_call, cancel_on, beside_cancelled, beside_given_up}
use Rattle.host_tcp.specs.TcpCancels.{cancel_bind_at, cancel_listen_at, listen_gone}
use Rattle.host_udp.specs.UdpCancels.{cancel_create_at, cancel_drop_outgoing_at, cancel_udp_bind_at, cancel_udp_connect_at, is_datagram_on, other_than_datagram}
use Rattle.wasi_jobs.specs.declared.job.HostJob.{HostJob}
use Rattle.wasi_jobs.specs.declared.job.HostJob.TheVariants.{Datagram}
use Rattle.tcp_records.specs.declared.tcp_listening.Listening.TheVariants as listening
use Rattle.udp_records.specs.declared.udp.OpenUdp.{OpenUdp}
use Rattle.udp_records.specs.declared.udp.UdpRecord.{UdpRecord}
use Rattle.udp_records.specs.declared.udp.UdpRecord.TheVariants as udp
use Rattle.wasi_records.specs.Records.{tcp2_at, udp2_at, open_at}
use Rattle.wasi_machine.specs.Machine.{cancelled_reply}
use Rattle.wasi_steps.specs.declared.step.Step.TheVariants as step
use Rattle.wasi_walks.proofs.walks.States.{stands_so as stands_under_it}
use Rattle.host_store.specs.declared.beside.Beside.{Beside}
use Rattle.host_store.specs.declared.beside.BesideCall.{BesideCall}
use Rattle.host_store.specs.declared.beside.BesideCall.TheVariants as beside
use Rattle.host_store.specs.Beside.{beside_of, stands_under}
use Rattle.wasi_causes.proofs.Beside.{beside_call, exclusive_call, is_beside, no_call, not_beside, not_both}
use Rattle.wasi_causes.proofs.Words.{IsSome}
use Rattle.wasi_walks.specs.Licence.{Has}
use Rattle.wasi_causes.proofs.Releases.{listening_up}
use Rattle.host_udp.specs.SocketDatagrams.{drop_datagram}
use Rattle.wasi_causes.proofs.HeldUdp.{datagram_over}
use Rattle.wasi_causes.proofs.Words.{with_store}
use Rattle.wasi_causes.specs.P3Connects.{BesideCancelled, LeavesBeside}
use Rattle.wasi_causes.specs.P3Datagrams.{DatagramOver}
use Rattle.wasi_causes.proofs.tables.Meets.{Meets, Rows, asks, branch, ends, onto, told_so, whatever, widen}
use Rattle.wasi_causes.proofs.tables.Routes.{Says, apart}
use Rattle.wasi_causes.specs.Cancelled.{CancelsBy, CreateGivenUp, ListenGivenUp}
use Rattle.host_store.specs.GivingBack.{given_back}
use Rattle.wasi_records.specs.declared.records.Record.{Record}
use Rattle.wasi_causes.proofs.GivenBack.{put_gone}
use Rattle.host_store.specs.Store.{with_udp}
use Rattle.wasi_causes.proofs.Words.{◌∷◌}
use Rattle.wasi_causes.specs.Outcomes.{Outcome}

-- no datagram of that socket is sent any more
no_datagram : (place : ℕ) (jobs : List HostJob) → Has (other_than_datagram place jobs) (Datagram place) → ⊥
no_datagram place [] h = h
no_datagram place (job ∷ jobs) h = by_same (is_datagram_on place job) refl (no_datagram place jobs) h
  where
    by_same : (same : Bool) → is_datagram_on place job ≡ same → (Has (other_than_datagram place jobs) (Datagram place) → ⊥) → Has (if same then other_than_datagram place jobs else job ∷ other_than_datagram place jobs) (Datagram place) → ⊥
    by_same true e rest k = rest k
    by_same false e rest (inl is) = let k : is_datagram_on place job ≡ true = ap (is_datagram_on place) is ∙ eq-eqb place place refl in cc
    by_same false e rest (inr k) = rest k

module _ (m : Machine) where
  -- nothing is pending any more
  abbrev free : Records
  free = unstood m.store

  abbrev Under : Ids → StandingCall → Type 0
  Under ids its = m.store.standing ≡ Some (standing_as ids its)

  -- what is left of the call
  abbrev LeftRow : StandingCall → Rows Records
  LeftRow its es store = let after : Machine = record m { store = store } in CancelsBy m es after its × (store.standing ≡ None)

  module _ (ids : Ids) where
    bind_goes : (place : ℕ) (face : Interface) (o : Option TcpRecord) → tcp2_at m.store.records place ≡ o → LeftRow (StandingCall.Bind place face) [] (cancel_bind_at free place o)
    bind_goes place face None at = (λ r there. absurd (cc), refl)
    bind_goes place face (Some r) at = (λ q there. let its : r ≡ q = cc in (refl, ap (λ (x : TcpRecord). let after : Machine = record m { store = cancel_bind_at free place (Some x) } in after) its), refl)

    -- a listen that is pending has taken the network socket
    listen_closed : (place : ℕ) (marks : Option ℕ) (r : TcpRecord) → tcp2_at m.store.records place ≡ Some r → Under ids (StandingCall.Listen place marks) → PendingCallsFit m → side_of r.inner ≡ None
    listen_closed place marks r at stands fits =
        let held : HoldsCall m (StandingCall.Listen place marks) = rw stands at fits in
        let k : IfSome (tcp2_at m.store.records place) (λ q. IsListening q.inner.state q.listening) = it_listens m place marks held in
        by_listening r.listening (rw at at k)
      where
        by_listening : (l : Listening) → IsListening r.inner.state l → side_of r.inner ≡ None
        by_listening (listening.Begins op) h = h.3
        by_listening _ h = absurd h

    listen_goes : (place : ℕ) (marks : Option ℕ) → Under ids (StandingCall.Listen place marks) → (o : Option TcpRecord) → tcp2_at m.store.records place ≡ o → Meets (LeftRow (StandingCall.Listen place marks)) [] (cancel_listen_at free place o)
    listen_goes place marks stands None at = ends (λ r there. absurd (cc), refl)
    listen_goes place marks stands (Some r) at =
        onto _ (widen (λ es done k. (λ q there. let its : r ≡ q = cc in subst (λ (x : TcpRecord). ListenGivenUp m place x es (record m { store = listen_gone free place r })) its (record { asked = k; left = refl; closed = listen_closed place marks r at stands }), refl)) (listening_up r.listening))

    -- a create that is pending waits for its network socket
    goes_on : (place : ℕ) (face : Interface) (create : Create) → udp2_at m.store.records place ≡ Some (udp.Creating create) → Under ids (StandingCall.UdpCreate place face) → PendingCallsFit m → is_going create.operation ≡ true
    goes_on place face create at stands fits =
        let k : IfSome (udp2_at m.store.records place) IsCreating = rw stands at fits in
        let its : IsCreating (udp.Creating create) = rw at at k in ap (λ (items : List Item). is_going (record create.operation { left = items })) its.1

    created : (place : ℕ) (face : Interface) (create : Create) → udp2_at m.store.records place ≡ Some (udp.Creating create) → Under ids (StandingCall.UdpCreate place face) → (es : List Entry) → (PendingCallsFit m → es ≡ entry create.operation.who.id (call.Close create.operation.who.side) told.Done ∷ []) → LeftRow (StandingCall.UdpCreate place face) es (given_back place (with_udp free place (udp.Closed create.operation.who.side)))
    created place face create at stands es asked = (λ other there. let its : create ≡ other = cc in subst (λ (x : Create). CreateGivenUp m place x es (record m { store = given_back place (with_udp free place (udp.Closed create.operation.who.side)) })) its (record { asked = asked; left = put_gone (nothing_stands m) place (Record.Udp (udp.Closed create.operation.who.side)) }), refl)

    create_goes : (place : ℕ) (face : Interface) → Under ids (StandingCall.UdpCreate place face) → (o : Option UdpRecord) → udp2_at m.store.records place ≡ o → Meets (LeftRow (StandingCall.UdpCreate place face)) [] (cancel_create_at free place o)
    unfolding bind
    create_goes place face stands None at = ends (λ create there. absurd (cc), refl)
    create_goes place face stands (Some (udp.Creating create)) at =
        onto _ (branch (is_going create.operation) (λ going. asks (λ t fits. ends (created place face create at stands _ (λ pending. told_so create.operation.who.id [] (call.Close create.operation.who.side) t fits))))
        (λ over. ends (created place face create at stands [] (λ pending. let going = goes_on place face create at stands pending in absurd (cc)))))
    create_goes place face stands (Some (udp.Open o)) at = ends (λ create there. absurd (cc), refl)
    create_goes place face stands (Some (udp.Closed side)) at = ends (λ create there. absurd (cc), refl)

    udp_bind_goes : (place : ℕ) (face : Interface) (o : Option OpenUdp) → open_at m.store.records place ≡ o → LeftRow (StandingCall.UdpBind place face) [] (cancel_udp_bind_at free place o)
    udp_bind_goes place face None at = (λ o there. absurd (cc), refl)
    udp_bind_goes place face (Some o) at = (λ q there. let its : o ≡ q = cc in (refl, ap (λ (x : OpenUdp). let after : Machine = record m { store = cancel_udp_bind_at free place (Some x) } in after) its), refl)

    connect_goes : (place handle : ℕ) (o : Option OpenUdp) → open_at m.store.records place ≡ o → LeftRow (StandingCall.UdpConnect place handle) [] (cancel_udp_connect_at free place o)
    connect_goes place handle None at = (λ o there. absurd (cc), refl)
    connect_goes place handle (Some o) at = (λ q there. let its : o ≡ q = cc in (refl, ap (λ (x : OpenUdp). let after : Machine = record m { store = cancel_udp_connect_at free place (Some x) } in after) its), refl)

    reconnect_goes : (place : ℕ) (o : Option OpenUdp) → open_at m.store.records place ≡ o → LeftRow (StandingCall.UdpConnect3 place) [] (cancel_udp_connect_at free place o)
    reconnect_goes place None at = (λ o there. absurd (cc), refl)
    reconnect_goes place (Some o) at = (λ q there. let its : o ≡ q = cc in (refl, ap (λ (x : OpenUdp). let after : Machine = record m { store = cancel_udp_connect_at free place (Some x) } in after) its), refl)

    outgoing_goes : (place : ℕ) (o : Option OpenUdp) → open_at m.store.records place ≡ o → LeftRow (StandingCall.DropOutgoing place) [] (cancel_drop_outgoing_at free place o)
    outgoing_goes place None at = (λ o there. absurd (cc), refl)
    outgoing_goes place (Some o) at = (λ q there. let its : o ≡ q = cc in record { quiet = refl; left = ap (λ (x : OpenUdp). let after : Machine = record m { store = cancel_drop_outgoing_at free place (Some x) } in after) its; job = no_datagram place m.store.jobs }, refl)

    goes : (its : StandingCall) → Under ids its → Meets (LeftRow its) [] (cancel_on free its)
    goes (StandingCall.Bind place face) stands = ends (bind_goes place face (tcp2_at m.store.records place) refl)
    goes (StandingCall.Listen place marks) stands = listen_goes place marks stands (tcp2_at m.store.records place) refl
    goes (StandingCall.DropOutput place) stands = ends ((refl, refl), refl)
    goes (StandingCall.UdpCreate place face) stands = create_goes place face stands (udp2_at m.store.records place) refl
    goes (StandingCall.UdpBind place face) stands = ends (udp_bind_goes place face (open_at m.store.records place) refl)
    goes (StandingCall.UdpConnect place handle) stands = ends (connect_goes place handle (open_at m.store.records place) refl)
    goes (StandingCall.UdpConnect3 place) stands = ends (reconnect_goes place (open_at m.store.records place) refl)
    goes (StandingCall.DropOutgoing place) stands = ends (outgoing_goes place (open_at m.store.records place) refl)
    goes (StandingCall.Blocking blocks) stands = ends ((refl, refl), refl)

module _ (contexts : List WasiSocketsCtx) (m : Machine) (line n : ℕ) where
  none_so : (o : Option Standing) → call_of o n ≡ None → stands_as o n ≡ false
  none_so None e = refl
  none_so (Some s) e = by_line (s.ids.line == n) e
    where
      by_line : (same : Bool) → (if same then Some s else None) ≡ None → same ≡ false
      by_line true k = absurd (cc)
      by_line false k = refl

  abbrev CancelRow : Rows (Bool × Machine)
  CancelRow es done = Outcome contexts m line (step.Cancel n) es (cancelled_reply done.0) done.1

  -- no exclusive call has the number
  abbrev GivenUp : BesideCall → Rows (Unit {0} × Records)
  GivenUp its es done = LeavesBeside m n es (record m { store = done.1 }) its

  -- the socket of a datagram goes with the last that holds it
  datagram_goes : (place : ℕ) (o : Option OpenUdp) → open_at m.store.records place ≡ o → Meets (λ es done. (q : OpenUdp) → open_at m.store.records place ≡ Some q → DatagramOver m n place q es (record m { store = done.1 })) [] (drop_datagram n place m.store)
  datagram_goes place None at = widen (λ es done k q there. absurd (cc)) (whatever (drop_datagram n place m.store))
  datagram_goes place (Some o) at = widen (λ es done k q there. let its : o ≡ q = cc in subst (λ (x : OpenUdp). DatagramOver m n place x es (record m { store = done.1 })) its k) (datagram_over m n place o at)

  gives_up : (its : BesideCall) → Meets (GivenUp its) [] (beside_given_up n m.store its)
  gives_up (beside.Connect place) = ends (refl, refl)
  gives_up (beside.Resolve host) = ends (refl, refl)
  gives_up (beside.Send place op) = datagram_goes place (open_at m.store.records place) refl
  gives_up (beside.Receive place op) = datagram_goes place (open_at m.store.records place) refl

  by_beside : stands_as m.store.standing n ≡ false → (o : Option Beside) → beside_of m.store n ≡ o → Meets (λ es done. CancelRow es (with_store m done)) [] (beside_cancelled m.store n o)
  by_beside other None e = let none = no_call m n other e in ends (((λ same. none, λ k. refl), apart (λ e. cc) (λ k. not_both (stands_under m.store n) k none), λ beside. absurd (let k : IsSome {T = Beside} None = rw e at beside.1 in cc)), (inr tt, (refl, refl)))
  by_beside other (Some b) e =
      let on = beside_call m n e in
      onto _ (widen (λ es done k. let up : BesideCancelled m n es (record m { store = done.1 }) = (is_beside m n other e, rw e k) in ((apart (λ e. cc) (λ k. not_both (stands_under m.store n) on k), (λ e. on, λ e. refl), λ beside. up), (tt, inr up))) (gives_up b.call))

  by_call : (o : Option Standing) → call_of m.store.standing n ≡ o → Meets CancelRow [] (cancel_call m n o)
  by_call None e = onto _ (by_beside (none_so m.store.standing e) (beside_of m.store n) refl)
  by_call (Some s) e =
      let k = stands_under_it m.store.standing n s e in
      let same : stands_as m.store.standing n ≡ true = ap (λ (o : Option Standing). stands_as o n) k.0 ∙ eq-eqb s.ids.line n k.1 in
      let on = exclusive_call m n same in
      onto _ (widen (λ es store row. ((apart (λ e. cc) (λ other. not_both (stands_under m.store n) on other), (λ e. on, λ e. refl), λ beside. absurd (not_beside m n same beside)), (tt, inl (subst (λ (o : Option Standing). IsSomeAnd o (λ t. CancelsBy m es (record m { store = store }) t.call)) (sym k.0) row.0, row.1, refl)))) (goes m s.ids s.call k.0))

  pub cancel : Meets (Says contexts m line (step.Cancel n)) [] (bind (cancel_asks m n) (λ done. Give (cancelled_reply done.0, done.1)))
  cancel = onto _ (by_call (call_of m.store.standing n) refl)
