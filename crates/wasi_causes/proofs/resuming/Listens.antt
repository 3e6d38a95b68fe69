-- A poll of a pending listen.
use Rattle.wasi_records.specs.Records.{tcp2_at}
use Rattle.wasi_causes.proofs.Words.{Answer, CallWaits, Done, End, EndsPending, Entry, Err, ErrorCode, Full, IfSome, InvalidState, IsListening}
use Rattle.wasi_causes.proofs.Words.{IsSomeAnd, Item, List, ListenEnds, ListenFailed, ListenWaits, Listening, Machine, NoSuchHandle, None, Ok, OpId, Operation, Option, Pending, PendingCallsFit, Ready, Records, Refused, Result, Some}
use Rattle.wasi_causes.proofs.Words.{Standing, StandingCall, Stop, TcpRecord, Waits, WasiSocketsCtx, [], call_answered, closed_listening, eq-eqb, inl}
use Rattle.wasi_causes.proofs.Words.{inr, listen_ended, listen_polled, marks_in, nothing_stands, number_fields, own_of, poll_begun, poll_listening, refl, relisten_at}
use Rattle.wasi_causes.proofs.Words.{side_of, standing_as, subst, sym, with_handle, with_socket, ℕ, ◌≡◌}
use Rattle.wasi_world.specs.declared.ids.Ids.{Ids}
use Rattle.wasi_causes.proofs.operations.PendingListens.{it_listens}
use Rattle.wasi_causes.proofs.operations.Polls.{EndsFor, listen_ends as listen_polls}
use Rattle.wasi_causes.proofs.tables.Meets.{Rows, Meets, ends, onto, widen, granted, branch}
use Rattle.wasi_causes.proofs.tables.Routes.{full_so, calls, finds, makes}
use Rattle.wasi_causes.specs.Udp.{GivesBy}
use Rattle.wasi_host.specs.Pending.{answered_on, handle_outcome}
use Rattle.wasi_causes.proofs.operations.Marks.{poll_marks_none}
use Rattle.wasi_causes.specs.Datagrams.{PendingHandleIsLive}
use Rattle.host_store.specs.Machine.{side_at, tcp3_at}
use Rattle.host_store.specs.Lines.{tabling}
use Rattle.host_tcp.specs.Listens.{listened, make_listener, relisten_in, relisten_of, relistens as its_relistens}
use Rattle.host_store.specs.declared.kind.Kind.TheVariants.{Listen3}
use Rattle.wasi_causes.proofs.tables.Meets.{chain, both}
use Rattle.wasi_causes.specs.Udp.{MakesOneHandle}
use Rattle.host_store.specs.BaseStops.{BaseStop, trap_of}
use Rattle.host_store.specs.Lines.{Answered, keeps}
use Rattle.host_tcp.specs.Binds.{bind_told}
use Rattle.host_store.specs.Block.{Call, Read, after_call, give, goes_on, ◌>>=◌}
use Rattle.host_store.specs.Kinds.{make_asks}
use Rattle.host_store.specs.declared.kind.Interface.TheVariants.{P3}
use Rattle.record_common.specs.Stops.{Code}
use Rattle.wasi_walks.specs.Waiting.{HoldsCall}
use Rattle.tcp_records.specs.declared.tcp_listening.Listening.TheVariants as listening
use Rattle.wasi_host.specs.declared.pending.Outcome.{Outcome as Given}
use Rattle.host_store.specs.declared.store.StandingCall.TheVariants.{Listen}
use Rattle.wasi_steps.specs.declared.reply.Reply.TheVariants as reply
use Rattle.wasi_tcp.specs.Listen.{is_over as listen_over}
use Rattle.wasi_causes.proofs.resuming.Rows as rows
use Rattle.wasi_causes.proofs.resuming.Rows.{answered_so, fails, it_ends, missing, waits, FailsSo}

module _ (contexts : List WasiSocketsCtx) (m : Machine) (line : ℕ) (ids : Ids) where
  -- its number
  abbrev n : ℕ
  n = ids.line

  abbrev GoneRow : Rows (Result (Answer Given) Stop × Machine)
  GoneRow = rows.GoneRow contexts m line ids

  abbrev CallRow : Rows (Result (Answer (Unit {0})) Stop × Records)
  CallRow = rows.CallRow contexts m line ids

  abbrev Under : StandingCall → Type 0
  Under = rows.Under contexts m line ids

  abbrev free : Records
  free = rows.free contexts m line ids

  -- == of a listen
  module _ (place : ℕ) (stands : Under (Listen place None)) where
    module _ (r : TcpRecord) (at : tcp2_at m.store.records place ≡ Some r) where
      abbrev ListenRow : Rows (Result (Answer (Unit {0})) ErrorCode × TcpRecord)
      ListenRow es begun = CallRow es (call_answered free ids (Listen place None) begun)

      listens_on : PendingCallsFit m → IsListening r.inner.state r.listening
      listens_on binds =
          let held : HoldsCall m (Listen place None) = rw stands at binds in
          let k : IfSome (tcp2_at m.store.records place) (λ q. IsListening q.inner.state q.listening) = it_listens m place None held in rw at at k

      -- a pending listen is in progress
      unheld : {l : Listening} → r.listening ≡ l → (IsListening r.inner.state l → ⊥) → ListenRow [] (Err InvalidState, r)
      unheld is none = answered_so contexts m line ids (Listen place None) stands (λ k. k) tt (λ code. refl) [] (Err InvalidState, r) (λ binds. absurd (none (subst (IsListening r.inner.state) is (listens_on binds))))

      module _ (op : Operation) (is : r.listening ≡ listening.Begins op) where
        is_listen : PendingCallsFit m → IsListening r.inner.state (listening.Begins op)
        is_listen binds = subst (IsListening r.inner.state) is (listens_on binds)

        listen_waits : (es : List Entry) → EndsPending op.who.id es → CallWaits m (own_of n) es (Listen place None)
        listen_waits es h = let k : ListenWaits r.listening es = rw is h in rw at k

        listen_ends : (es : List Entry) (end : End × List Item) → (IsListening r.inner.state (listening.Begins op) → EndsFor op (ListenEnds op) es end) → ListenRow es (listen_polled r (listen_ended op.who r.inner end))
        listen_ends es (Waits, items) h = answered_so contexts m line ids (Listen place None) stands (λ k. k) tt (λ code. refl) es (listen_polled r (listen_ended op.who r.inner (Waits, items))) (λ binds. listen_waits es (h (is_listen binds)))
        listen_ends es (Done given, items) h = answered_so contexts m line ids (Listen place None) stands (λ k. k) tt (λ code. refl) es (listen_polled r (listen_ended op.who r.inner (Done given, items))) tt
        listen_ends es (Refused code given, items) h = answered_so contexts m line ids (Listen place None) stands (λ k. k) tt (λ code. refl) es (listen_polled r (listen_ended op.who r.inner (Refused code given, items))) (λ binds. (ListenFailed place None r op code at is (h (is_listen binds)), refl))

        begun : Meets ListenRow [] (poll_begun r op)
        begun =
            onto _ (branch (listen_over op) (λ over. ends (answered_so contexts m line ids (Listen place None) stands (λ k. k) tt (λ code. refl) [] (listen_polled r (Err InvalidState, (op, r.inner))) (λ binds. let going = (is_listen binds).2 in absurd (cc))))
            (λ on. onto _ (widen listen_ends (granted (λ k. listen_polls op (k.0, k.1))))))

      relists_by : (l : Listening) → r.listening ≡ l → Meets ListenRow [] (poll_listening r l)
      relists_by (listening.Begins op) is = begun op is
      relists_by _ is = ends (unheld is (λ k. k))

      -- a listen that was begun has taken the network socket
      by_other : (of : OpId) → side_of r.inner ≡ Some of → (l : Listening) → r.listening ≡ l → ListenRow [] (Err InvalidState, r)
      by_other of side (listening.Begins op) is = answered_so contexts m line ids (Listen place None) stands (λ k. k) tt (λ code. refl) [] (Err InvalidState, r) (λ binds. let none = (is_listen op is binds).3 in absurd (cc))
      by_other of side _ is = unheld is (λ k. k)

      by_side : (o : Option OpId) → side_of r.inner ≡ o → Meets ListenRow [] (closed_listening r o)
      by_side None side = relists_by r.listening refl
      by_side (Some of) side = ends (by_other of side r.listening refl)

    pub relists : (o : Option TcpRecord) → tcp2_at m.store.records place ≡ o → Meets CallRow [] (relisten_at free ids place o)
    relists None at = ends (missing contexts m line ids (Listen place None) stands (λ k. k) at)
    relists (Some r) at = onto _ (by_side r at (side_of r.inner) refl)

  -- == of a listen of 0.3
  module _ (place handle : ℕ) (stands : Under (Listen place (Some handle))) where
    abbrev its_listen : StandingCall
    its_listen = Listen place (Some handle)

    abbrev ListenerRow : Rows (Result (Answer ℕ) BaseStop × Machine)
    ListenerRow es done = GoneRow es (answered_on handle_outcome P3 done)

    -- what the socket answers: once it is done, no handle was marked
    abbrev BegunRow : Rows (Answered × TcpRecord)
    BegunRow es (Ok Pending, r) = PendingCallsFit m → CallWaits m (own_of n) es its_listen
    BegunRow es (Ok (Ready done), r) = marks_in es ≡ 0
    BegunRow es (Err code, r) = PendingCallsFit m → FailsSo contexts m line ids its_listen stands (λ k. k) es code (record m { store = with_socket free place r })

    abbrev ListenStoreRow : Rows (Result (Answer (Unit {0})) BaseStop × Records)
    ListenStoreRow es (Ok (Ready done), store) = (marks_in es ≡ 0) × (store.standing ≡ None)
    ListenStoreRow es (Ok Pending, store) = ListenerRow es (Ok Pending, record m { store = store })
    ListenStoreRow es (Err stop, store) = ListenerRow es (Err stop, record m { store = store })

    module _ (r : TcpRecord) (at : tcp2_at m.store.records place ≡ Some r) where
      abbrev ToldRow : Rows (Result (Answer (Unit {0})) ErrorCode × TcpRecord)
      ToldRow es done = BegunRow es (bind_told P3 done)

      listening_on : PendingCallsFit m → IsListening r.inner.state r.listening
      listening_on fits = let k : IfSome (tcp2_at m.store.records place) (λ q. IsListening q.inner.state q.listening) = rw stands at fits in rw at at k

      unheld_listen : {l : Listening} → r.listening ≡ l → (IsListening r.inner.state l → ⊥) → ToldRow [] (Err InvalidState, r)
      unheld_listen is none = λ fits. absurd (none (subst (IsListening r.inner.state) is (listening_on fits)))

      module _ (op : Operation) (is : r.listening ≡ listening.Begins op) where
        is_its_listen : PendingCallsFit m → IsListening r.inner.state (listening.Begins op)
        is_its_listen fits = subst (IsListening r.inner.state) is (listening_on fits)

        its_listen_waits : (es : List Entry) → EndsPending op.who.id es → CallWaits m (own_of n) es its_listen
        its_listen_waits es h = let k : ListenWaits r.listening es = rw is h in rw at k

        listen_ended_so : (es : List Entry) (end : End × List Item) → (marks_in es ≡ 0) × (IsListening r.inner.state (listening.Begins op) → EndsFor op (ListenEnds op) es end) → ToldRow es (listen_polled r (listen_ended op.who r.inner end))
        listen_ended_so es (Waits, items) h = λ fits. its_listen_waits es (h.1 (is_its_listen fits))
        listen_ended_so es (Done given, items) h = h.0
        listen_ended_so es (Refused code given, items) h = λ fits. (ListenFailed place (Some handle) r op code at is (h.1 (is_its_listen fits)), refl)

        begun_so : Meets ToldRow [] (poll_begun r op)
        begun_so =
            onto _ (branch (listen_over op) (λ over. ends (λ fits. let going = (is_its_listen fits).2 in absurd (cc)))
            (λ on. onto _ (widen listen_ended_so (both (record { along = poll_marks_none op }) (granted (λ k. listen_polls op (k.0, k.1)))))))

      by_its_listening : (l : Listening) → r.listening ≡ l → Meets ToldRow [] (poll_listening r l)
      by_its_listening (listening.Begins op) is = begun_so op is
      by_its_listening _ is = ends (unheld_listen is (λ k. k))

      -- a listen that was begun has taken the network socket
      with_a_side : (of : OpId) → side_of r.inner ≡ Some of → (l : Listening) → r.listening ≡ l → ToldRow [] (Err InvalidState, r)
      with_a_side of side (listening.Begins op) is = λ fits. let none = (is_its_listen op is fits).3 in absurd (cc)
      with_a_side of side _ is = unheld_listen is (λ k. k)

      by_its_side : (o : Option OpId) → side_of r.inner ≡ o → Meets ToldRow [] (closed_listening r o)
      by_its_side None side = by_its_listening r.listening refl
      by_its_side (Some of) side = ends (with_a_side of side r.listening refl)

    listen_kept : (es : List Entry) (answer : Answer (Unit {0})) (r : TcpRecord) → BegunRow es (Ok answer, r) → Meets ListenStoreRow es (keeps ids its_listen answer (with_socket free place r))
    listen_kept es Pending r h = ends (waits contexts m line ids its_listen stands (λ k. k) es (record m { store = record (with_socket free place r) { standing = Some (standing_as ids its_listen) } }) refl refl h)
    listen_kept es (Ready given) r h = ends (h, refl)

    relistens_in : Meets ListenStoreRow [] (relisten_in ids handle place free)
    relistens_in =
        finds (λ r. goes_on (Call Code (λ store. r) (λ store now. with_socket store place now) its_relistens) (keeps ids its_listen)) (tcp2_at m.store.records place) (λ none. missing contexts m line ids its_listen stands (λ k. k) (inl none))
        (λ r at. calls {Mid = BegunRow} _ (onto _ (by_its_side r at (side_of r.inner) refl))
        (λ es code r h. ends (fails contexts m line ids its_listen stands (λ k. k) es (record m { store = with_socket free place r }) code refl refl h))
        listen_kept)

    -- == its listener gets a handle
    module _ (es : List Entry) (store : Records) (none : marks_in es ≡ 0) (over : store.standing ≡ None) where
      abbrev now_free : Machine
      now_free = record m { store = store }

      -- the handle of the socket is still live
      lost_socket : tcp3_at m handle ≡ None → PendingHandleIsLive m → ⊥
      lost_socket gone live = let its : tcp3_at m handle ≡ Some place = rw stands at live in cc

      makes_one : IsSomeAnd m.store.standing (λ s. MakesOneHandle s.call)
      makes_one = subst (λ (o : Option Standing). IsSomeAnd o (λ s. MakesOneHandle s.call)) (sym stands) tt

      marks_listener : (its : ℕ) → tcp3_at m handle ≡ Some its → (side : Option OpId) → Meets ListenerRow es (goes_on (Call trap_of (λ m. m.table) tabling (λ t. make_asks t (own_of n) (Listen3 its) (Some handle) side)) (λ listener. give (Ready listener)) now_free)
      marks_listener its names side =
          chain {Mid = λ fs made. Meets ListenerRow fs (after_call trap_of tabling (λ listener. give (Ready listener)) now_free made)}
          (makes m.table (own_of n) (Listen3 its) (Some handle) side
          (λ full. ends (it_ends contexts m line ids its_listen stands (λ k. k) es (reply.Trap Full) now_free (λ e. cc) over, (tt, full_so m now_free es full refl none, inl (full, makes_one))))
          (ends (
            it_ends contexts m line ids its_listen stands (λ k. k) _ (reply.Ok (number_fields m.table.next)) (record now_free { table = with_handle m.table (Listen3 its) (Some handle) }) (λ e. cc) over,
            (inl (inr (inl (tt, tt))), inl (subst (λ (o : Option Standing). IsSomeAnd o (λ s. GivesBy m (number_fields m.table.next) (record now_free { table = with_handle m.table (Listen3 its) (Some handle) }) s.call)) (sym stands) (refl, rw names refl))),
          )))
          (λ fs made k. k)

      makes_listener : Meets ListenerRow es (make_listener (own_of n) handle now_free)
      makes_listener =
          finds (λ place. Read (λ m. side_at (tcp2_at m.store.records place)) >>= λ side. Call trap_of (λ m. m.table) tabling (λ t. make_asks t (own_of n) (Listen3 place) (Some handle) side) >>= λ listener. give (Ready listener)) (tcp3_at m handle)
          (λ gone. (it_ends contexts m line ids its_listen stands (λ k. k) es (reply.Trap NoSuchHandle) now_free (λ e. cc) over, (inl (rw (stands, eq-eqb n n refl) (inr gone)), λ live. absurd (lost_socket gone live))))
          (λ its names. marks_listener its names (side_at (tcp2_at store.records its)))

    then_listener : (es : List Entry) (answer : Answer (Unit {0})) (store : Records) → ListenStoreRow es (Ok answer, store) → Meets ListenerRow es (listened (own_of n) handle answer (record m { store = store }))
    then_listener es Pending store row = ends row
    then_listener es (Ready given) store row = makes_listener es store row.0 row.1

    pub relistens : Meets ListenerRow [] (relisten_of ids handle place (nothing_stands m))
    relistens = calls {Mid = ListenStoreRow} _ relistens_in (λ es why store row. ends row) then_listener
