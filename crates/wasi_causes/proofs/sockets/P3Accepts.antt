-- Accepts of the listeners of 0.3.
use Rattle.wasi_causes.proofs.Words.{◌≡◌, ◌∙◌, ◌∷◌, ◌++◌, ◌==◌, ℕ, zero, suc, Bool, true, false, if◌then◌else◌, List, [], Option, Some, None, Result}
use Rattle.wasi_causes.proofs.Words.{Ok, Err, refl, ap, subst, sym, Accepting, Answer, Pending, Ready, Entry, ErrorCode, Give, HoldsAccept}
use Rattle.wasi_causes.proofs.Words.{InvalidState, Listener, Listening, Machine, OpId, Records, Socket, TcpRecord, TcpState}
use Rattle.wasi_causes.proofs.Words.{WasiSocketsCtx, accept_listening, accepted_socket, accepted_state, bind, entry, first_ids}
use Rattle.wasi_causes.proofs.Words.{AcceptWaits, NoSuchHandle, Trap, marks_in, own_of, putting, side_of, with_listening, with_socket}
use Rattle.wasi_causes.proofs.operations.Accepts.{AcceptRow, accepts}
use Rattle.wasi_causes.proofs.tables.Meets.{Meets, Rows, chain, ends, onto}
use Rattle.wasi_causes.proofs.tables.Routes.{Replied, Says, calls, finds, full_so, makes, put_back}
use Rattle.wasi_causes.specs.MayAnswer.{AreLike, EachLike}
use Rattle.wasi_causes.specs.P3Listens.{ByListener, KeepsConnection, KeepsFault, OfListener, StillAccepts}
use Rattle.wasi_causes.specs.P3Listens.{Takes, TakesConnection, TakesFault, its_place, with_taken}
use Rattle.wasi_addr.specs.Code.{p3_of_code}
use Rattle.host_store.specs.BaseStops.{BaseStop, renamed, trap_of}
use Rattle.host_store.specs.Block.{Call, after_call, give, goes_on, last, ◌>>=◌}
use Rattle.host_store.specs.declared.kind.Kind.TheVariants.{Tcp3}
use Rattle.host_tcp.specs.EndPolls.{not_yet}
use Rattle.host_store.specs.Kinds.{make_asks}
use Rattle.host_store.specs.Lines.{tabling, tcp_in}
use Rattle.host_tcp.specs.Listens.{accept_in, keep_accepted, look_accept}
use Rattle.host_store.specs.Machine.{listen3_at, side_at}
use Rattle.wasi_machine.specs.Machine.{stream_result_reply}
use Rattle.wasi_p3.specs.Listening.{Polled, accept_by, hand_over, handed, looked}
use Rattle.wasi_p3.specs.Listening as listening3
use Rattle.wasi_p3.specs.Stops.{P3Stop}
use Rattle.tcp_records.specs.declared.slot.StreamResult.TheVariants.{Completed}
use Rattle.tcp_records.specs.declared.tcp_listening.Listening.TheVariants as listening
use Rattle.tcp_records.specs.Listening.{accept_record_asks, look_accept_asks, look_listening}
use Rattle.wasi_records.specs.Records.{tcp2_at, tcp2_put}
use Rattle.tcp_records.specs.Sockets.{new_record}
use Rattle.record_common.specs.Stops.{Code}
use Rattle.wasi_steps.specs.declared.guest_call.GuestCall.TheVariants as guest
use Rattle.wasi_steps.specs.declared.guest_call.P3TcpCall.TheVariants as p3_tcp_call
use Rattle.wasi_steps.specs.declared.step.Step.TheVariants as step
use Rattle.wasi_steps.specs.Reply.{handed_fields, number_fields}
use Rattle.wasi_steps.specs.Steps.{ANumber, kinds_of}
use Rattle.std.proofs.lemmas.Bool.{ne_eqb}
use Rattle.wasi_tcp.specs.declared.listener.Accepting.TheVariants as accepting
use Rattle.wasi_tcp.specs.declared.socket.TcpState.TheVariants as state
use Rattle.wasi_tcp.specs.Listener.{accept_end, ready_end, with_accept}
use Rattle.wasi_walks.proofs.Places.{push_finds, tcp_sort}
use Rattle.wasi_walks.specs.Listens.{AcceptsIn, HasNoListener}
use Rattle.wasi_world.specs.declared.call.Call.TheVariants as call
use Rattle.wasi_world.specs.declared.call.HandleKind.TheVariants as name
use Rattle.wasi_world.specs.declared.call.Told.TheVariants as told

-- what remains, if anything does
some : (n : ℕ) → (suc n == 0) ≡ false
some n = ne_eqb (suc n) 0 (λ e. cc)

module _ (contexts : List WasiSocketsCtx) (m : Machine) (line c handle : ℕ) where
  abbrev Said : ℕ → Rows (Result Polled P3Stop × Machine)
  Said remaining = Replied contexts m line (step.Call c (guest.P3Tcp (p3_tcp_call.Accept handle remaining))) (stream_result_reply handed_fields)

  module _ (place : ℕ) (names : listen3_at m handle ≡ Some place) where
    of_listener : {P : ℕ → TcpRecord → Type 0} (r : TcpRecord) → tcp2_at m.store.records place ≡ Some r → P place r → OfListener m handle P
    of_listener r at h = record { place = place; found = r; names = names; at = at; holds = h }

    -- its socket has a listener
    module _ (r : TcpRecord) (at : tcp2_at m.store.records place ≡ Some r) (l : Listener) (is : r.listening ≡ listening.Accepts l) where
      of_its : {P : ℕ → TcpRecord → Listener → Type 0} → (HoldsAccept l.side l.maker l.accept → P place r l) → OfListener m handle (λ place r. ByListener r (P place r))
      of_its h = of_listener r at (record { listener = l; listens = is; holds = λ accepts. h (subst AcceptsIn is accepts) })

    -- it has none
    deaf : (remaining : ℕ) (r : TcpRecord) → tcp2_at m.store.records place ≡ Some r → (l : Listening) → r.listening ≡ l → HasNoListener l
        → Said remaining [] (Err (Code (p3_of_code InvalidState)), putting m place r)
    deaf remaining r at l is none =
        put_back (λ (after : Machine). Said remaining [] (Err (Code (p3_of_code InvalidState)), after)) m place r at
        (tt, (refl, of_listener r at (subst HasNoListener (sym is) none, refl, refl, refl)))

    missing : (remaining : ℕ) → tcp2_at m.store.records place ≡ None → Said remaining [] (Err (Trap NoSuchHandle), m)
    missing remaining none = (tt, (ap (tcp_in m) names ∙ none, (refl, refl)))

    -- == it is looked at
    abbrev LookRow : Rows (Result (Answer (Unit {0})) BaseStop × Records)
    LookRow es (Ok answer, store) = Said 0 es (Ok (looked true answer), record m { store = store })
    LookRow es (Err stop, store) = Said 0 es (Err (renamed p3_of_code stop), record m { store = store })

    module _ (r : TcpRecord) (at : tcp2_at m.store.records place ≡ Some r) where
      abbrev LookedRow : Rows (Result (Answer (Unit {0})) ErrorCode × TcpRecord)
      LookedRow es (Ok answer, now) = LookRow es (Ok answer, with_socket m.store place now)
      LookedRow es (Err code, now) = LookRow es (Err (Code code), with_socket m.store place now)

      looks : (l : Listening) → r.listening ≡ l → Meets LookedRow [] (look_listening (first_ids line) r l)
      looks (listening.Accepts l) is = onto _ (accepts line l (ready_end l) ready)
        where
          ready : (es : List Entry) (a : Accepting) → marks_in es ≡ 0 → AcceptRow line l es a → let done = ready_end l a in LookedRow es (Ok done.0, with_listening r (listening.Accepts done.1))
          ready es accepting.Idle none h = (tt, (tt, of_its r at l is (λ own. absurd (h own))))
          ready es (accepting.Asking op) none h = (tt, (tt, of_its r at l is (λ own. StillAccepts op h.0 (subst (λ (id : OpId). AcceptWaits id es) (sym h.0) (h.1 own)))))
          ready es (accepting.Arrived new peer) none h = (tt, (tt, of_its r at l is (λ own. (refl, KeepsConnection new peer (h own)))))
          ready es (accepting.Failed code) none h = (tt, (tt, of_its r at l is (λ own. (refl, KeepsFault code (h own)))))
      looks listening.Not is = ends (deaf 0 r at listening.Not is tt)
      looks (listening.Begins op) is = ends (deaf 0 r at (listening.Begins op) is tt)
      looks (listening.Unclosed side) is = ends (deaf 0 r at (listening.Unclosed side) is tt)

    looks_so : Meets LookRow [] (look_accept (first_ids line) place m.store)
    looks_so =
        finds (λ r. last (Call Code (λ store. r) (λ store now. with_socket store place now) (look_accept_asks (first_ids line)))) (tcp2_at m.store.records place)
        (missing 0)
        (λ r at. calls _ (looks r at r.listening refl) (λ es code now row. ends row) (λ es answer now row. ends row))

    -- == what has come is taken
    -- It was taken: its record is the last one.
    data Took : List Entry → ℕ → Records → Type 0 where
      TookSo : (es : List Entry) (r : TcpRecord) (l : Listener) (now : TcpState) → tcp2_at m.store.records place ≡ Some r
          → r.listening ≡ listening.Accepts l → marks_in es ≡ 0
          → (HoldsAccept l.side l.maker l.accept → Takes line l es now (side_of (accepted_socket l.family l.maker now)))
          → Took es (its_place m place r l) (with_taken m place r l now).store

    module _ (rest : ℕ) where
      abbrev TakeRow : Rows (Result (Answer ℕ) BaseStop × Records)
      TakeRow es (Ok (Ready its), store) = Took es its store
      TakeRow es (Ok Pending, store) = Said (suc rest) es (Ok (not_yet true), record m { store = store })
      TakeRow es (Err stop, store) = Said (suc rest) es (Err (renamed p3_of_code stop), record m { store = store })

      module _ (r : TcpRecord) (at : tcp2_at m.store.records place ≡ Some r) where
        abbrev TakenRow : Rows (Result (Answer Socket) ErrorCode × TcpRecord)
        TakenRow es (Ok answer, now) = Meets TakeRow es (keep_accepted answer (with_socket m.store place now))
        TakenRow es (Err code, now) = TakeRow es (Err (Code code), with_socket m.store place now)

        takes : (l : Listening) → r.listening ≡ l → Meets TakenRow [] (accept_listening (first_ids line) r l)
        takes (listening.Accepts l) is = onto _ (accepts line l (accept_end l) given)
          where
            given : (es : List Entry) (a : Accepting) → marks_in es ≡ 0 → AcceptRow line l es a → let done = accept_end l a in TakenRow es (Ok done.0, with_listening r (listening.Accepts done.1))
            given es accepting.Idle none h = ends (tt, (tt, of_its r at l is (λ own. absurd (h own))))
            given es (accepting.Asking op) none h = ends (tt, (tt, of_its r at l is (λ own. StillAccepts op h.0 (subst (λ (id : OpId). AcceptWaits id es) (sym h.0) (h.1 own)))))
            given es (accepting.Arrived new peer) none h = ends (TookSo es r l (accepted_state new peer) at is none (λ own. TakesConnection es new peer (h own)))
            given es (accepting.Failed code) none h = ends (TookSo es r l (state.Closed code) at is none (λ own. TakesFault es code (h own)))
        takes listening.Not is = ends (deaf (suc rest) r at listening.Not is tt)
        takes (listening.Begins op) is = ends (deaf (suc rest) r at (listening.Begins op) is tt)
        takes (listening.Unclosed side) is = ends (deaf (suc rest) r at (listening.Unclosed side) is tt)

      takes_so : Meets TakeRow [] (accept_in (first_ids line) place m.store)
      takes_so =
          finds (λ r. Call Code (λ store. r) (λ store now. with_socket store place now) (accept_record_asks (first_ids line)) >>= keep_accepted) (tcp2_at m.store.records place)
          (missing (suc rest))
          (λ r at. calls _ (takes r at r.listening refl) (λ es code now row. ends row) (λ es answer now row. row))

      -- == it gets a handle
      hands : (es : List Entry) (its : ℕ) (store : Records) → Took es its store → Meets (Said (suc rest)) es (hand_over (own_of line) handle its (record m { store = store }))
      hands _ _ _ (TookSo es r l now at is none given) = named (side_at (tcp2_at left.store.records its)) its_side
        where
          left : Machine
          left = with_taken m place r l now

          its : ℕ
          its = its_place m place r l

          socket : Socket
          socket = accepted_socket l.family l.maker now

          its_side : side_at (tcp2_at left.store.records its) ≡ side_of socket
          its_side = ap side_at (push_finds tcp_sort (tcp2_put m.store.records place (with_listening r (listening.Accepts (with_accept l accepting.Idle)))) (new_record socket))

          a_number : AreLike (kinds_of (step.Call c (guest.P3Tcp (p3_tcp_call.Accept handle (suc rest))))) (number_fields left.table.next)
          a_number = subst (λ (b : Bool). EachLike (if b then [] else ANumber ∷ []) (number_fields left.table.next)) (sym (some rest)) (tt, tt)

          named : (side : Option OpId) → side ≡ side_of socket → Meets (Said (suc rest)) es (goes_on (Call trap_of (λ m. m.table) tabling (λ t. make_asks t (own_of line) (Tcp3 its) (Some handle) side)) (λ socket. give (Ready (Completed (Some socket)))) left)
          named side e =
              chain {Mid = λ fs made. Meets (Said (suc rest)) fs (after_call trap_of tabling (λ socket. give (Ready (Completed (Some socket)))) left made)}
              (makes m.table (own_of line) (Tcp3 its) (Some handle) side
              (λ full. ends (tt, (tt, full_so m left es full refl none, of_its r at l is (λ own. record { full = full; now = now; side = side_of socket; takes = given own; left = refl }))))
              (ends (tt, (a_number, of_its r at l is (λ own. (refl, record { front = es; now = now; side = side_of socket; takes = given own; asked = ap (λ (s : Option OpId). es ++ entry (own_of line) (call.Made m.table.next name.Tcp3 (Some handle) s) told.Done ∷ []) e; left = refl }))))))
              (λ fs made k. k)

      after_store : (es : List Entry) (answer : Answer ℕ) (store : Records) → TakeRow es (Ok answer, store) → Meets (Said (suc rest)) es (handed (own_of line) true handle answer (record m { store = store }))
      after_store es Pending store row = ends row
      after_store es (Ready its) store row = hands es its store row

    by_remaining : (remaining : ℕ) → Meets (Said remaining) [] (accept_by (first_ids line) true handle place (remaining == 0) m)
    by_remaining zero = calls {Mid = LookRow} _ looks_so (λ es why store row. ends row) (λ es answer store row. ends row)
    by_remaining (suc rest) =
        subst (λ (b : Bool). Meets (Said (suc rest)) [] (accept_by (first_ids line) true handle place b m)) (sym (some rest))
        (calls {Mid = TakeRow rest} _ (takes_so rest) (λ es why store row. ends row) (after_store rest))

  pub p3_accept : (remaining : ℕ) → Meets (Says contexts m line (step.Call c (guest.P3Tcp (p3_tcp_call.Accept handle remaining)))) [] (bind (listening3.accept (first_ids line) true remaining handle m) (λ done. Give (stream_result_reply handed_fields done.0, done.1)))
  p3_accept remaining =
      onto _ (finds (λ place. accept_by (first_ids line) true handle place (remaining == 0)) (listen3_at m handle) (λ none. (tt, (ap (tcp_in m) none, (refl, refl))))
      (λ place names. by_remaining place names remaining))
