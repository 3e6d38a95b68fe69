-- Connects of 0.3 sockets, as they begin.
use Rattle.wasi_causes.proofs.Words.{◌≡◌, ◌∙◌, ◌∷◌, ◌++◌, ℕ, Bool, true, false, List, [], Some, Result}
use Rattle.wasi_causes.proofs.Words.{Ok, Err, refl, ap, Answer, Pending, Ready, Entry, ErrorCode, Give, Records}
use Rattle.wasi_causes.proofs.Words.{InvalidArgument, InvalidState, IpSocketAddress, IsBound, IsFoundUnbound, Item, Machine}
use Rattle.wasi_causes.proofs.Words.{OpId, Operation, Refused, Socket, TcpRecord, TcpState, Told, Waits}
use Rattle.wasi_causes.proofs.Words.{WasiSocketsCtx, bind, Done, End, entry, is_connectable, is_nothing, own_of, p3_word, putting}
use Rattle.wasi_causes.proofs.Words.{connect_ended, connect_start, in_socket, with_inner, with_state, start_connect_in}
use Rattle.tcp_records.specs.Sockets.{inner_answered}
use Rattle.wasi_addr.specs.Code.{p3_of_code}
use Rattle.wasi_causes.proofs.Beside.{found_last}
use Rattle.wasi_causes.proofs.operations.ConnectEnds.{ConnectEnd, connect_ends_so}
use Rattle.wasi_causes.proofs.sockets.Starts.{BoundRow, ItsBound, ItsFree, bounds}
use Rattle.wasi_causes.proofs.tables.Meets.{After, Meets, Rows, chain, ends, onto, shifted, widen}
use Rattle.wasi_causes.proofs.tables.Routes.{Replied, Says, calls, finds, put_back}
use Rattle.wasi_causes.specs.MayAnswer.{IsP3Word}
use Rattle.wasi_causes.specs.P3Connects.{Begins, ConnectCloses, ConnectFails, ConnectStands, Connects, ItIsBound}
use Rattle.wasi_causes.specs.P3Connects.{ItIsFree, NoAddress, NoAddressUnbound, NotInFirstState, OperationGoesOn}
use Rattle.wasi_causes.specs.P3Connects.{begun_connect, connected_entries, passed_entries, with_connect}
use Rattle.wasi_causes.specs.Refusals.{OfTcp3}
use Rattle.host_store.specs.declared.beside.Beside.{Beside}
use Rattle.host_store.specs.declared.beside.BesideCall.TheVariants.{Connect}
use Rattle.host_store.specs.BaseStops.{BaseStop, told_as}
use Rattle.host_store.specs.Beside.{beside_as, besided}
use Rattle.host_store.specs.Lines.{Answered}
use Rattle.host_store.specs.Block.{Call, last, need, ◌>>◌}
use Rattle.host_tcp.specs.Connects.{connect_begun, connect_of, connects, reconnects}
use Rattle.host_store.specs.Machine.{tcp3_at}
use Rattle.host_store.specs.Store.{with_socket}
use Rattle.wasi_machine.specs.Machine.{p3_answer_reply}
use Rattle.host_store.specs.Lines.{tcp_in}
use Rattle.wasi_p3.specs.Lines.{in_base}
use Rattle.wasi_causes.proofs.Words.{if◌then◌else◌}
use Rattle.wasi_p3.specs.Stops.{P3Stop}
use Rattle.wasi_p3.specs.Tcp as p3
use Rattle.wasi_records.specs.Records.{tcp2_at}
use Rattle.record_common.specs.Stops.{Code}
use Rattle.wasi_steps.specs.declared.guest_call.GuestCall.TheVariants as guest
use Rattle.wasi_steps.specs.declared.guest_call.P3TcpCall.TheVariants as p3_tcp_call
use Rattle.wasi_steps.specs.declared.step.Step.TheVariants as step
use Rattle.wasi_steps.specs.Reply.{no_values}
use Rattle.wasi_tcp.specs.Connect.{IsConnect, Unbound, Unchecked}
use Rattle.wasi_tcp.specs.declared.socket.TcpState.TheVariants as state
use Rattle.wasi_walks.specs.Answered.{AllOf, IsAskOfConnect}
use Rattle.wasi_world.specs.declared.call.Call.TheVariants as call

p3_code : (c : ErrorCode) → IsP3Word (p3_word c)
p3_code c = record { code = c; is = refl }

-- == as it is begun
module _ (m : Machine) (line place : ℕ) (r : TcpRecord) (at : tcp2_at m.store.records place ≡ Some r) (a : IpSocketAddress) (idle : is_nothing r.in_progress ≡ true) where
  abbrev own : OpId
  own = own_of line

  -- it is pending, or is done, or is refused
  abbrev ToldRow : Rows (Answered × TcpRecord)
  ToldRow es (Ok Pending, now) = ConnectStands m line place r a es (with_connect (putting m place now) line place)
  ToldRow es (Ok (Ready done), now) = Connects m own place r a es (putting m place now)
  ToldRow es (Err code, now) = ConnectFails m own place r a es code (putting m place now)

  -- == its first poll
  module _ (b : Begins own r a) where
    abbrev its : Operation
    its = begun_connect own b.side r a b.bound

    its_connect : (bound : Bool) → let op : Operation = begun_connect own b.side r a bound in IsConnect op × AllOf IsAskOfConnect op.left
    its_connect true = (record { last = refl; left = Unchecked _ }, (tt, (tt, tt)))
    its_connect false = (record { last = refl; left = Unbound _ _ }, (tt, (tt, (tt, tt))))

    entries_so : (bound : Bool) → let op : Operation = begun_connect own b.side r a bound in passed_entries op.who op.left ≡ connected_entries own b.side r a bound
    entries_so true = refl
    entries_so false = refl

    abbrev taken : TcpRecord
    taken = with_inner r (with_state b.socket (state.Connecting its))

    abbrev StateRow : Rows (Answered × TcpState)
    StateRow es done = ToldRow es (inner_answered taken (in_socket taken.inner done))

    ended : (es : List Entry) (end : End × List Item) → After (ConnectEnd its) b.asked es end → StateRow es (connect_ended its.who end)
    ended es (Waits, items) k = record { begins = b; polled = k.rest; asked = k.cut; waits = k.row; to_do = items; left = refl }
    ended es (Done given, items) k = record { begins = b; asked = k.cut ∙ ap (λ (xs : List Entry). b.asked ++ xs) (k.row ∙ entries_so b.bound); left = refl }
    ended es (Refused code given, items) k = rw k.cut (ConnectCloses b k.rest code k.row)

    begun : Meets ToldRow b.asked (reconnects taken)
    begun = onto _ (onto _ (onto _ (widen ended (shifted b.asked (connect_ends_so its (its_connect b.bound))))))

  -- == the tests before
  bound_tested : (side : OpId) → r.inner.state ≡ state.Default side → (es : List Entry) → IsBound own r.inner es → (c : Bool) → is_connectable r.inner a ≡ c
      → Meets ToldRow es (connect_begun r (if c then (Ok tt, with_state (record r.inner { bound = true }) (state.Connecting (begun_connect own side r a true))) else (Err InvalidArgument, record r.inner { bound = true })))
  bound_tested side e es is true connectable = begun (record { side = side; open_side = e; idle = idle; asked = es; bound = true; socket = record r.inner { bound = true }; finds = ItIsBound es is; connectable = connectable })
  bound_tested side e es is false refused = ends (NoAddress side es e is refused)

  free_tested : (side : OpId) → r.inner.state ≡ state.Default side → (of : OpId) (local : Told) → IsFoundUnbound r.inner of local → (c : Bool) → is_connectable r.inner a ≡ c
      → Meets ToldRow (entry own (call.Local of) local ∷ []) (connect_begun r (if c then (Ok tt, with_state r.inner (state.Connecting (begun_connect own side r a false))) else (Err InvalidArgument, r.inner)))
  free_tested side e of local free true connectable = begun (record { side = side; open_side = e; idle = idle; asked = entry own (call.Local of) local ∷ []; bound = false; socket = r.inner; finds = ItIsFree of local free; connectable = connectable })
  free_tested side e of local free false refused = ends (put_back (λ (after : Machine). ConnectFails m own place r a (entry own (call.Local of) local ∷ []) InvalidArgument after) m place r at (NoAddressUnbound of local free refused))

  by_bound : (side : OpId) → r.inner.state ≡ state.Default side → (es : List Entry) (b : Bool × Socket) → BoundRow own r.inner es b → Meets ToldRow es (connect_begun r (connect_start own side b.1 a b.0))
  by_bound side e _ _ (ItsBound es is) = bound_tested side e es is (is_connectable r.inner a) refl
  by_bound side e _ _ (ItsFree of local free) = free_tested side e of local free (is_connectable r.inner a) refl

  by_state : (st : TcpState) → r.inner.state ≡ st → Meets ToldRow [] (bind (start_connect_in own r.inner a st) (connect_begun r))
  unfolding bind
  by_state (state.Default side) e = chain {Mid = λ es start. Meets ToldRow es (connect_begun r start)} (onto _ (widen (by_bound side e) (bounds own r.inner))) (λ es start k. k)
  by_state _ e = ends (put_back (λ (after : Machine). ConnectFails m own place r a [] InvalidState after) m place r at (NotInFirstState (rw e tt)))

  begins : Meets ToldRow [] (connects own a r)
  begins = by_state r.inner.state refl

-- == the step
module _ (contexts : List WasiSocketsCtx) (m : Machine) (line c handle : ℕ) (a : IpSocketAddress) where
  abbrev Said : Rows (Result (Answer (Unit {0})) P3Stop × Machine)
  Said = Replied contexts m line (step.Call c (guest.P3Tcp (p3_tcp_call.Connect handle a))) (p3_answer_reply no_values line)

  module _ (place : ℕ) (names : tcp3_at m handle ≡ Some place) where
    abbrev its_call : Beside
    its_call = beside_as line (Connect place)

    -- what it answers, and the records, with the call among those beside others where it is pending
    abbrev StoreRow : Rows (Result (Answer (Unit {0})) BaseStop × Records)
    StoreRow es done = Said es (told_as p3_of_code (besided its_call done).0, record m { store = (besided its_call done).1 })

    module _ (r : TcpRecord) (at : tcp2_at m.store.records place ≡ Some r) where
      of_tcp : {P : ℕ → TcpRecord → Type 0} → P place r → OfTcp3 m handle P
      of_tcp h = record { place = place; found = r; names = names; at = at; holds = h }

      refused : (es : List Entry) (code : ErrorCode) (store : Records) → ConnectFails m (own_of line) place r a es code (record m { store = store }) → StoreRow es (Err (Code code), store)
      refused es code store h = (tt, (p3_code code, of_tcp (record { code = code; is = refl; cause = h })))

      answered : (idle : is_nothing r.in_progress ≡ true) (es : List Entry) (answer : Answer (Unit {0})) (now : TcpRecord) → ToldRow m line place r at a idle es (Ok answer, now) → StoreRow es (Ok answer, with_socket m.store place now)
      answered idle es Pending now h = (tt, ((refl, found_last m.store.beside its_call), of_tcp h))
      answered idle es (Ready done) now h = (tt, (tt, of_tcp h))

      by_progress : (b : Bool) → is_nothing r.in_progress ≡ b
          → Meets StoreRow [] (if b then last (Call Code (λ store. r) (λ store now. with_socket store place now) (connects (own_of line) a)) m.store else Give (Err (Code InvalidState), m.store))
      by_progress false e = ends (refused [] InvalidState m.store (OperationGoesOn e))
      by_progress true e = calls _ (begins m line place r at a e) (λ es code now h. ends (refused es code (with_socket m.store place now) h)) (λ es answer now h. ends (answered e es answer now h))

    connects_so : Meets (λ es done. Said es (told_as p3_of_code done.0, record m { store = done.1 })) [] (connect_of line place a m.store)
    connects_so =
        onto _ (finds (λ r. need (is_nothing r.in_progress) (Code InvalidState) >> last (Call Code (λ store. r) (λ store now. with_socket store place now) (connects (own_of line) a))) (tcp2_at m.store.records place)
        (λ none. (tt, (ap (tcp_in m) names ∙ none, (refl, refl))))
        (λ r at. by_progress r at (is_nothing r.in_progress) refl))

  pub p3_tcp_connect : Meets (Says contexts m line (step.Call c (guest.P3Tcp (p3_tcp_call.Connect handle a)))) [] (bind (p3.connect_to line handle a m) (λ done. Give (p3_answer_reply no_values line done.0, done.1)))
  p3_tcp_connect =
      onto _ (finds (λ place. last (in_base (connect_of line place a))) (tcp3_at m handle) (λ none. (tt, (ap (tcp_in m) none, (refl, refl))))
      (λ place names. calls _ (connects_so place names) (λ es why store row. ends row) (λ es answer store row. ends row)))
