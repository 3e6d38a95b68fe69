-- Listens of 0.3 sockets.
use Rattle.wasi_causes.proofs.Words.{◌≡◌, ◌∙◌, ◌∷◌, ◌++◌, ℕ, Bool, true, false, if◌then◌else◌, List, [], Option, Some, Result}
use Rattle.wasi_causes.proofs.Words.{Ok, Err, refl, ap, arith, subst, sym, Answer, Pending, Ready, Done, End, Entry, ErrorCode, Give, IsBound}
use Rattle.wasi_causes.proofs.Words.{IsPastDefault, InvalidState, Item, Known, Listening, Machine, OpId, Operation, PastDefault}
use Rattle.wasi_causes.proofs.Words.{Records, Refused, Socket, TcpRecord, TcpState, ToldBound, Waits}
use Rattle.wasi_causes.proofs.Words.{WasiSocketsCtx, bind, entry, first_ids, is_nothing, listen_begun, listen_ended, listen_once}
use Rattle.wasi_causes.proofs.Words.{listen_polled, listen_start, marks_in, number_fields, own_of, p3_word, putting, with_inner, with_socket}
use Rattle.wasi_causes.proofs.operations.Marks.{poll_marks_none}
use Rattle.wasi_causes.proofs.operations.Polls.{IsAsk, polled}
use Rattle.wasi_causes.proofs.sockets.Starts.{BoundRow, ItsBound, ItsFree, asked_none, bounds}
use Rattle.wasi_causes.proofs.tables.Meets.{After, Meets, Rows, both, branch, chain, ends, onto, shifted, widen}
use Rattle.wasi_causes.proofs.tables.Routes.{Replied, Says, calls, finds, full_so, makes, put_back}
use Rattle.wasi_causes.specs.MayAnswer.{IsP3Word}
use Rattle.wasi_causes.specs.P3Binds.{with_pending}
use Rattle.wasi_causes.specs.P3Connects.{AsksBound, ItIsBound, ItIsFree}
use Rattle.wasi_causes.specs.P3Listens.{BeganBefore, HasBegun, ListenBegins, ListenFails, ListenIsDone, ListenStands, ListenTold}
use Rattle.wasi_causes.specs.P3Listens.{NotInFirstState, OperationGoesOn, as_listener, begun_listen, left_listening, without_side}
use Rattle.wasi_causes.specs.Polls.{Polled}
use Rattle.wasi_causes.specs.Refusals.{OfTcp3}
use Rattle.wasi_addr.specs.Code.{p3_of_code}
use Rattle.host_store.specs.BaseStops.{BaseStop, told_as, trap_of}
use Rattle.host_store.specs.Lines.{Answered, keeps}
use Rattle.host_tcp.specs.Binds.{bind_told}
use Rattle.host_store.specs.Block.{Call, Read, after_call, give, goes_on, last, need, or_trap, ◌>>=◌, ◌>>◌}
use Rattle.host_store.specs.declared.kind.Interface.TheVariants.{P3}
use Rattle.host_store.specs.declared.kind.Kind.TheVariants.{Listen3}
use Rattle.host_store.specs.declared.store.StandingCall.TheVariants.{Listen}
use Rattle.host_store.specs.Kinds.{make_asks}
use Rattle.host_store.specs.Lines.{tabling, tcp_in}
use Rattle.host_tcp.specs.Listens.{listen_in, listen_of, listened, listens, make_listener}
use Rattle.host_store.specs.Machine.{side_at, tcp3_at}
use Rattle.wasi_machine.specs.Machine.{p3_answer_reply}
use Rattle.wasi_p3.specs.Lines.{in_host}
use Rattle.wasi_p3.specs.Listening as listening3
use Rattle.wasi_p3.specs.Stops.{P3Stop}
use Rattle.tcp_records.specs.declared.tcp_listening.Listening.TheVariants as listening
use Rattle.wasi_records.specs.Records.{tcp2_at}
use Rattle.record_common.specs.Stops.{Code}
use Rattle.wasi_steps.specs.declared.guest_call.GuestCall.TheVariants as guest
use Rattle.wasi_steps.specs.declared.guest_call.P3TcpCall.TheVariants as p3_tcp_call
use Rattle.wasi_steps.specs.declared.step.Step.TheVariants as step
use Rattle.wasi_tcp.specs.declared.socket.TcpState.TheVariants as state
use Rattle.wasi_tcp.specs.Listen.{is_over}
use Rattle.wasi_walks.proofs.Places.{put_finds, tcp_sort}
use Rattle.wasi_walks.specs.Answered.{AllOf}
use Rattle.wasi_world.specs.declared.call.Call.TheVariants as call
use Rattle.wasi_world.specs.declared.call.HandleKind.TheVariants as name
use Rattle.wasi_world.specs.declared.call.Told.TheVariants as told

p3_code : (c : ErrorCode) → IsP3Word (p3_word c)
p3_code c = record { code = c; is = refl }

-- == the operation that begins
goes : (own side : OpId) (socket : Socket) (bound : Bool) → is_over (begun_listen own side socket bound) ≡ false
goes own side socket true = refl
goes own side socket false = refl

all_asks : (own side : OpId) (socket : Socket) (bound : Bool) → AllOf IsAsk (begun_listen own side socket bound).left
all_asks own side socket true = (tt, (tt, tt))
all_asks own side socket false = (tt, (tt, (tt, (tt, tt))))

-- the question whether a socket is bound marks no handle
none_asked : (own : OpId) (socket : Socket) (es : List Entry) → IsBound own socket es → (rest : List Entry) → marks_in rest ≡ 0 → marks_in (es ++ rest) ≡ 0
none_asked own socket _ (Known known) rest none = none
none_asked own socket _ (PastDefault past) rest none = none
none_asked own socket _ (ToldBound side told at says) rest none = omega (arith, none)

unmarked : (own : OpId) (socket : Socket) (es : List Entry) (b : Bool) (now : Socket) → AsksBound own socket es b now → (rest : List Entry) → marks_in rest ≡ 0 → marks_in (es ++ rest) ≡ 0
unmarked own socket _ _ _ (ItIsBound es is) rest none = none_asked own socket es is rest none
unmarked own socket _ _ _ (ItIsFree side local free) rest none = omega (arith, none)

-- == as it is begun
module _ (m : Machine) (line handle place : ℕ) (r : TcpRecord) (at : tcp2_at m.store.records place ≡ Some r) (idle : is_nothing r.in_progress ≡ true) where
  abbrev own : OpId
  own = own_of line

  -- It is done, and this is the record then; it marked no handle.
  pub record NowListens (es : List Entry) (now : TcpRecord) : Type 0 where
    pub done : ListenIsDone own r es
    pub is : now ≡ as_listener r done.begins.side done.begins.socket.maker done.begins.socket
    pub none : marks_in es ≡ 0

  -- it is pending, or is done, or is refused
  abbrev pub ToldRow : Rows (Answered × TcpRecord)
  ToldRow es (Ok Pending, now) = ListenStands m line handle place r es (with_pending (putting m place now) line (Listen place (Some handle)))
  ToldRow es (Ok (Ready done), now) = NowListens es now
  ToldRow es (Err code, now) = ListenFails m own place r es code (putting m place now)

  abbrev Row : Rows (Answered × TcpRecord)
  Row es done = ToldRow es (bind_told P3 done)

  module _ (first : r.listening ≡ listening.Not) (asked : List Entry) (bound : Bool) (socket : Socket) (finds_so : AsksBound own r.inner asked bound socket) (same : socket.state ≡ r.inner.state) (past : IsPastDefault r.inner.state → Row asked (Err InvalidState, with_inner r socket)) where
    module _ (side : OpId) (open_side : r.inner.state ≡ state.Default side) where
      abbrev its : Operation
      its = begun_listen own side socket bound

      abbrev begins : ListenBegins own r
      begins = record { idle = idle; first = first; side = side; open_side = open_side; asked = asked; bound = bound; socket = socket; finds = finds_so }

      abbrev begun : TcpRecord
      begun = record r { inner = without_side socket; listening = listening.Begins its }

      ended : (es : List Entry) (end : End × List Item) → After (λ es end. (marks_in es ≡ 0) × Polled its.who its.left es end) asked es end → Row es (listen_polled begun (listen_ended its.who (without_side socket) end))
      ended es (Waits, items) k = record { begins = begins; polled = k.rest; items = items; ends = k.row.1; asked = k.cut; left = refl }
      ended es (Done given, items) k =
          record { done = record { begins = begins; polled = k.rest; given = given; items = items; ends = k.row.1; asked = k.cut }; is = refl; none = ap marks_in k.cut ∙ unmarked own r.inner asked bound socket finds_so k.rest k.row.0 }
      ended es (Refused code given, items) k = rw k.cut (ListenTold begins k.rest code given items k.row.1)

      polls_so : Meets Row asked (listen_begun r (Ok its, without_side socket))
      polls_so =
          onto _ (branch (is_over its) (λ over. let going = goes own side socket bound in absurd (cc))
          (λ on. onto _ (widen ended (shifted asked (both (record { along = poll_marks_none its }) (polled its (all_asks own side socket bound)))))))

    by_state : (st : TcpState) → socket.state ≡ st → Meets Row asked (listen_begun r (listen_start own socket bound st))
    by_state (state.Default side) e = polls_so side (sym same ∙ e)
    by_state _ e = ends (past (subst IsPastDefault same (rw e tt)))

  by_bound : r.listening ≡ listening.Not → (es : List Entry) (b : Bool × Socket) → BoundRow own r.inner es b → Meets Row es (listen_begun r (listen_start own b.1 b.0 b.1.state))
  by_bound first _ _ (ItsBound es is) =
      by_state first es true (record r.inner { bound = true }) (ItIsBound es is) refl
      (λ past. subst (λ (fs : List Entry). Row fs (Err InvalidState, with_inner r (record r.inner { bound = true }))) (sym (asked_none own r.inner es is past)) (NotInFirstState idle first past)) r.inner.state refl
  by_bound first _ _ (ItsFree side local free) =
      by_state first _ false r.inner (ItIsFree side local free) refl (λ past. absurd (subst IsPastDefault free.open_side past)) r.inner.state refl

  by_listening : (l : Listening) → r.listening ≡ l → Meets Row [] (listen_once own r l)
  by_listening listening.Not first = chain {Mid = λ es start. Meets Row es (listen_begun r start)} (onto _ (widen (by_bound first) (bounds own r.inner))) (λ es start k. k)
  by_listening _ begun = ends (put_back (λ (after : Machine). ListenFails m own place r [] InvalidState after) m place r at (BeganBefore idle (subst HasBegun (sym begun) tt)))

  pub listens_so : Meets ToldRow [] (listens own r)
  listens_so = onto _ (by_listening r.listening refl)

-- == the step
module _ (contexts : List WasiSocketsCtx) (m : Machine) (line c handle : ℕ) where
  abbrev Said : Rows (Result (Answer ℕ) P3Stop × Machine)
  Said = Replied contexts m line (step.Call c (guest.P3Tcp (p3_tcp_call.Listen handle))) (p3_answer_reply number_fields line)

  -- what the base answers, by the 0.3 names of its codes
  abbrev BaseRow : Rows (Result (Answer ℕ) BaseStop × Machine)
  BaseRow es done = Said es (told_as p3_of_code done.0, done.1)

  module _ (place : ℕ) (names : tcp3_at m handle ≡ Some place) where
    of_tcp : {P : ℕ → TcpRecord → Type 0} (r : TcpRecord) → tcp2_at m.store.records place ≡ Some r → P place r → OfTcp3 m handle P
    of_tcp r at h = record { place = place; found = r; names = names; at = at; holds = h }

    -- The socket listens, and these are the records.
    record Listening3 (es : List Entry) (store : Records) : Type 0 where
      its : TcpRecord
      at : tcp2_at m.store.records place ≡ Some its
      done : ListenIsDone (own_of line) its es
      none : marks_in es ≡ 0
      left : store ≡ with_socket m.store place (as_listener its done.begins.side done.begins.socket.maker done.begins.socket)

    abbrev StoreRow : Rows (Result (Answer (Unit {0})) BaseStop × Records)
    StoreRow es (Ok Pending, store) = BaseRow es (Ok Pending, record m { store = store })
    StoreRow es (Ok (Ready done), store) = Listening3 es store
    StoreRow es (Err stop, store) = BaseRow es (Err stop, record m { store = store })

    kept : (r : TcpRecord) (at : tcp2_at m.store.records place ≡ Some r) (idle : is_nothing r.in_progress ≡ true) (es : List Entry) (answer : Answer (Unit {0})) (now : TcpRecord) → ToldRow m line handle place r at idle es (Ok answer, now)
        → Meets StoreRow es (keeps (first_ids line) (Listen place (Some handle)) answer (with_socket m.store place now))
    kept r at idle es Pending now h = ends (tt, ((refl, refl), of_tcp r at h))
    kept r at idle es (Ready done) now h = ends (record { its = r; at = at; done = h.done; none = h.none; left = ap (with_socket m.store place) h.is })

    by_progress : (r : TcpRecord) → tcp2_at m.store.records place ≡ Some r → (b : Bool) → is_nothing r.in_progress ≡ b
        → Meets StoreRow [] (if b then goes_on (Call Code (λ store. r) (λ store now. with_socket store place now) (listens (own_of line))) (keeps (first_ids line) (Listen place (Some handle))) m.store else Give (Err (Code InvalidState), m.store))
    by_progress r at false e = ends (tt, (p3_code InvalidState, of_tcp r at (record { code = InvalidState; is = refl; cause = OperationGoesOn e })))
    by_progress r at true e =
        calls _ (listens_so m line handle place r at e) (λ es code now h. ends (tt, (p3_code code, of_tcp r at (record { code = code; is = refl; cause = h })))) (kept r at e)

    in_records : Meets StoreRow [] (listen_in (first_ids line) handle place m.store)
    in_records =
        finds (λ r. need (is_nothing r.in_progress) (Code InvalidState) >> (Call Code (λ store. r) (λ store now. with_socket store place now) (listens (own_of line)) >>= keeps (first_ids line) (Listen place (Some handle)))) (tcp2_at m.store.records place)
        (λ none. (tt, (ap (tcp_in m) names ∙ none, (refl, refl))))
        (λ r at. by_progress r at (is_nothing r.in_progress) refl)

    -- == its listener gets a handle
    module _ (es : List Entry) (r : TcpRecord) (at : tcp2_at m.store.records place ≡ Some r) (done : ListenIsDone (own_of line) r es) (none : marks_in es ≡ 0) where
      abbrev now : Machine
      now = left_listening m place done.begins

      its_side : side_at (tcp2_at now.store.records place) ≡ r.side
      its_side = ap side_at (put_finds tcp_sort m.store.records place r (as_listener r done.begins.side done.begins.socket.maker done.begins.socket) at)

      marked : (side : Option OpId) → side ≡ r.side → Meets BaseRow es (goes_on (Call trap_of (λ m. m.table) tabling (λ t. make_asks t (own_of line) (Listen3 place) (Some handle) side)) (λ listener. give (Ready listener)) now)
      marked side e =
          chain {Mid = λ fs made. Meets BaseRow fs (after_call trap_of tabling (λ listener. give (Ready listener)) now made)}
          (makes m.table (own_of line) (Listen3 place) (Some handle) side
          (λ full. ends (tt, (tt, full_so m now es full refl none, of_tcp r at (record { full = full; done = done; left = refl }))))
          (ends (tt, ((tt, tt), of_tcp r at (record { front = es; done = done; asked = ap (λ (s : Option OpId). es ++ entry (own_of line) (call.Made m.table.next name.Listen3 (Some handle) s) told.Done ∷ []) e; number = refl; left = refl })))))
          (λ fs made k. k)

      makes_so : Meets BaseRow es (make_listener (own_of line) handle now)
      makes_so = subst (λ (o : Option ℕ). Meets BaseRow es (or_trap (λ place. Read (λ m. side_at (tcp2_at m.store.records place)) >>= λ side. Call trap_of (λ m. m.table) tabling (λ t. make_asks t (own_of line) (Listen3 place) (Some handle) side) >>= λ listener. give (Ready listener)) now o)) (sym names) (marked (side_at (tcp2_at now.store.records place)) its_side)

    after_store : (es : List Entry) (answer : Answer (Unit {0})) (store : Records) → StoreRow es (Ok answer, store) → Meets BaseRow es (listened (own_of line) handle answer (record m { store = store }))
    after_store es Pending store row = ends row
    after_store es (Ready given) store row = subst (λ (s : Records). Meets BaseRow es (make_listener (own_of line) handle (record m { store = s }))) (sym row.left) (makes_so es row.its row.at row.done row.none)

    base : Meets BaseRow [] (listen_of (first_ids line) handle place m)
    base = calls {Mid = StoreRow} _ in_records (λ es why store row. ends row) after_store

  pub p3_tcp_listen : Meets (Says contexts m line (step.Call c (guest.P3Tcp (p3_tcp_call.Listen handle)))) [] (bind (listening3.listen_to (first_ids line) handle m) (λ done. Give (p3_answer_reply number_fields line done.0, done.1)))
  p3_tcp_listen =
      onto _ (finds (λ place. last (in_host (listen_of (first_ids line) handle place))) (tcp3_at m handle) (λ none. (tt, (ap (tcp_in m) none, (refl, refl))))
      (λ place names. calls _ (base place names) (λ es why now row. ends row) (λ es answer now row. ends row)))
