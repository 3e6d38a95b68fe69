-- Listens of 0.3 and the accepts of their listeners, as moves.
use Rattle.std.specs.Prelude.{◌≡◌, ⊤, IsSomeAnd, if◌then◌else◌, ℕ, ◌==◌, Bool, true, false, not, length, List, Option, Some, None, Result, Ok, Err, refl}
use Rattle.std.proofs.Common.{ap, inl, inr, subst, sym, ◌⊎◌}
use Rattle.wasi_addr.specs.declared.code.ErrorCode.{ErrorCode}
use Rattle.wasi_addr.specs.declared.code.ErrorCode.TheVariants.{InvalidState}
use Rattle.wasi_world.specs.declared.ids.Ids.{Ids}
use Rattle.wasi_world.specs.declared.outcome.Answer.{Answer}
use Rattle.wasi_world.specs.declared.outcome.Answer.TheVariants.{Ready, Pending}
use Rattle.wasi_world.specs.declared.outcome.WasiSocketsCtx.{WasiSocketsCtx}
use Rattle.wasi_world.specs.Asks.{Asks, Give, bind}
use Rattle.wasi_tcp.specs.declared.socket.TcpState.{TcpState}
use Rattle.wasi_tcp.specs.declared.socket.TcpState.TheVariants as state
use Rattle.wasi_tcp.specs.Listener.{accept_end, has_accept, ready_end}
use Rattle.wasi_tcp.specs.Shape.{Socket}
use Rattle.tcp_records.specs.declared.socket.TcpRecord.{TcpRecord}
use Rattle.tcp_records.specs.declared.tcp_binding.InProgress.TheVariants as doing
use Rattle.tcp_records.specs.declared.tcp_listening.Listening.{Listening}
use Rattle.tcp_records.specs.declared.tcp_listening.Listening.TheVariants.{Not, Accepts}
use Rattle.tcp_records.specs.Holding.{has_listener}
use Rattle.tcp_records.specs.InProgress.{is_nothing}
use Rattle.tcp_records.specs.Listening.{accept_listening, accept_record_asks, listen_once, look_accept_asks, look_listening, poll_listen_asks}
use Rattle.record_common.specs.Names.{own_of}
use Rattle.wasi_records.specs.Records.{tcp2_at, tcp2_put}
use Rattle.tcp_records.specs.Sockets.{new_record, with_progress}
use Rattle.record_common.specs.Stops.{Code}
use Rattle.host_store.specs.declared.kind.Interface.TheVariants.{P3}
use Rattle.host_store.specs.declared.kind.Kind.TheVariants.{Listen3, Tcp3}
use Rattle.host_store.specs.declared.machine.Machine.{Machine}
use Rattle.host_store.specs.declared.store.StandingCall.TheVariants.{Listen}
use Rattle.host_store.specs.BaseStops.{BaseStop, trap_of}
use Rattle.host_store.specs.Lines.{Answered, keeps}
use Rattle.host_tcp.specs.Binds.{bind_told}
use Rattle.host_store.specs.Block.{Call, Read, after_call, give as gives_all, goes_on, last, need, or_trap, ◌>>=◌, ◌>>◌}
use Rattle.host_store.specs.Kinds.{kind_at, make_asks}
use Rattle.host_store.specs.Lines.{same_stop, storing, tabling}
use Rattle.host_tcp.specs.Listens.{accept_in, keep_accepted, listen_in, listen_of, listened, listens, look_accept, make_listener, relisten_in, relisten_of, relistens}
use Rattle.host_store.specs.Machine.{listen3_at, side_at, tcp3_at}
use Rattle.host_store.specs.Store.{Records, with_socket}
use Rattle.wasi_p3.specs.Lines.{in_host}
use Rattle.wasi_p3.specs.Listening.{accept, accept_by, hand_over, handed, listen_to}
use Rattle.wasi_machine.specs.Machine.{first_ids}
use Rattle.wasi_steps.specs.declared.guest_call.GuestCall.TheVariants as guest
use Rattle.wasi_steps.specs.declared.guest_call.P3TcpCall.TheVariants as p3_tcp_call
use Rattle.wasi_steps.specs.declared.step.Step.{Step}
use Rattle.wasi_steps.specs.declared.step.Step.TheVariants as step
use Rattle.wasi_steps.specs.Steps.{handles_of}
use Rattle.wasi_walks.specs.Licence.{BindsAnywhere, Has, IsListenStep}
use Rattle.wasi_walks.proofs.walks.Asked.{MarksListener, MarksPlain}
use Rattle.wasi_walks.proofs.walks.Here.{NoStartStands, after_names, part_after}
use Rattle.wasi_walks.proofs.walks.Law.{Given, HasRecord, Law, Walks, and_given, and_then, by_if, found, from, give, given_along, gives, move, on, put_same}
use Rattle.wasi_walks.proofs.walks.Lines.{call, call_given, look}
use Rattle.wasi_walks.proofs.walks.Moves.{Changes, Counts, Faulted, Here, Joined, Leaves, ListensFor, Names, Past, Reaches, RemembersListen, Spends, SpendsNames, StandsListen, Unused, Used, Watches, joins_as, put, record_of}
use Rattle.wasi_walks.proofs.walks.Accepts.{TookPlain, listener_walks, taken_by, taken_in, takes_plain_walks}
use Rattle.wasi_walks.proofs.walks.Sockets.{IsNot, IsRefused, ListensSo, any_walks, idled, listen_given, once_given, once_refused, poll_listen_walks}
use Rattle.wasi_walks.proofs.walks.States.{At, Between, HasAt, Listens, Over, OverIn, OverWith, Starts, Watching, given_any, listen3_record, tcp3_kind, tcp3_record, there}
use Rattle.wasi_walks.proofs.Places.{push_finds, put_finds, tcp_sort}

-- == what a listen gives
-- one that is done leaves nothing in progress, and has its listener
told_so : (done : Answered × TcpRecord) → ListensSo done → ListensSo (bind_told P3 done)
told_so (Ok Pending, r) so = so
told_so (Ok (Ready d), r) so = (so.0, tt)
told_so (Err c, r) so = tt

told_refused : (done : Answered × TcpRecord) → IsRefused done → IsRefused (bind_told P3 done)
told_refused (Ok answer, r) k = k
told_refused (Err c, r) k = tt

listens_given : (line : ℕ) (r : TcpRecord) → Given ListensSo (listens (own_of line) r)
listens_given line r = given_along ListensSo ListensSo (listen_once (own_of line) r r.listening) _ (once_given (own_of line) r r.listening) told_so

relistens_given : (r : TcpRecord) → Given ListensSo (relistens r)
relistens_given r = given_along ListensSo ListensSo (poll_listen_asks r) _ (listen_given r) told_so

refused_given : (line : ℕ) (r : TcpRecord) → (IsNot r.listening → ⊥) → Given IsRefused (listens (own_of line) r)
refused_given line r other = given_along IsRefused IsRefused (listen_once (own_of line) r r.listening) _ (once_refused (own_of line) r r.listening other) told_refused

-- what is left of the records then: its listener, while no start is pending
abbrev ReadySo : ℕ → Result (Answer (Unit {0})) BaseStop × Records → Type 0
ReadySo place (Ok (Ready d), store) = IsSomeAnd (tcp2_at store.records place) (λ r. has_listener r.listening ≡ true) × NoStartStands store.standing
ReadySo place _ = ⊤

module _ (ids : Ids) (handle place : ℕ) (store : Records) (quiet : NoStartStands store.standing) where
  kept_so : (r : TcpRecord) → tcp2_at store.records place ≡ Some r → (done : Answered × TcpRecord) → ListensSo done → Given (ReadySo place) (after_call Code (λ s now. with_socket s place now) (keeps ids (Listen place (Some handle))) store done)
  kept_so r g (Ok Pending, now) so = tt
  kept_so r g (Ok (Ready d), now) so = (subst (λ (o : Option TcpRecord). IsSomeAnd o (λ x. has_listener x.listening ≡ true)) (sym (put_finds tcp_sort store.records place r now g)) so.0, quiet)
  kept_so r g (Err c, now) so = tt

  in_given : Given (ReadySo place) (listen_in ids handle place store)
  in_given = by_record (tcp2_at store.records place) refl
    where
      by_test : (r : TcpRecord) → tcp2_at store.records place ≡ Some r → (idle : Bool)
          → Given (ReadySo place) (if idle then goes_on (Call Code (λ s. r) (λ s now. with_socket s place now) (listens (own_of ids.line))) (keeps ids (Listen place (Some handle))) store else Give (Err (Code InvalidState), store))
      by_test r g true = given_along ListensSo (ReadySo place) (listens (own_of ids.line) r) _ (listens_given ids.line r) (kept_so r g)
      by_test r g false = tt

      by_record : (o : Option TcpRecord) → tcp2_at store.records place ≡ o
          → Given (ReadySo place) (or_trap (λ r. need (is_nothing r.in_progress) (Code InvalidState) >> (Call Code (λ s. r) (λ s now. with_socket s place now) (listens (own_of ids.line)) >>= keeps ids (Listen place (Some handle)))) store o)
      by_record None g = tt
      by_record (Some r) g = by_test r g (is_nothing r.in_progress)

  again_given : Given (ReadySo place) (relisten_in ids handle place store)
  again_given = by_record (tcp2_at store.records place) refl
    where
      by_record : (o : Option TcpRecord) → tcp2_at store.records place ≡ o
          → Given (ReadySo place) (or_trap (λ r. goes_on (Call Code (λ s. r) (λ s now. with_socket s place now) relistens) (keeps ids (Listen place (Some handle)))) store o)
      by_record None g = tt
      by_record (Some r) g = given_along ListensSo (ReadySo place) (relistens r) _ (relistens_given r) (kept_so r g)

-- where the line is then
abbrev ListenedIn : ℕ → Machine → ℕ → ℕ → Result (Answer (Unit {0})) BaseStop × Records → Here
ListenedIn n m handle place (Ok answer, store) = Listens n (record m { store = store }) (Some handle) place Used
ListenedIn n m handle place (Err stop, store) = Over (record m { store = store })

abbrev Begins : ℕ → Machine → ℕ → ℕ → TcpRecord → Asks (Result (Answer (Unit {0})) BaseStop × Records)
Begins n m handle place r = goes_on (Call Code (λ s. r) (λ s now. with_socket s place now) (listens (own_of n))) (keeps (first_ids n) (Listen place (Some handle))) m.store

-- where the line is by what joined, which is there
abbrev TakenIn : Machine → Result (Answer ℕ) BaseStop × Records → Here
TakenIn m (Ok (Ready p), store) = Between None (taken_in (tcp2_at store.records p) p) (record m { store = store })
TakenIn m (Ok Pending, store) = Over (record m { store = store })
TakenIn m (Err stop, store) = Over (record m { store = store })

abbrev TakenSo : Result (Answer ℕ) BaseStop × Records → Type 0
TakenSo (Ok (Ready p), store) = HasAt store p
TakenSo _ = ⊤

which : (s : TcpState) (p : ℕ) → (taken_by s p ≡ Joined P3 p) ⊎ (taken_by s p ≡ Faulted p)
which (state.Closed c) p = inr refl
which (state.Default side) p = inl refl
which (state.Listening side) p = inl refl
which (state.Connecting op) p = inl refl
which (state.Connected c) p = inl refl

module _ (line : ℕ) (m : Machine) (place : ℕ) where
  accepted_so : (answer : Answer Socket) (store : Records) → Given TakenSo (keep_accepted answer store)
  accepted_so (Ready socket) store = record { was = new_record socket; found = push_finds tcp_sort store.records (new_record socket) }
  accepted_so Pending store = tt

  took_so : (done : Result (Answer Socket) ErrorCode × TcpRecord) → Given TakenSo (after_call Code (λ s now. with_socket s place now) keep_accepted m.store done)
  took_so (Ok answer, r) = accepted_so answer (with_socket m.store place r)
  took_so (Err c, r) = tt

  taken_given : Given TakenSo (accept_in (first_ids line) place m.store)
  taken_given = by_record (tcp2_at m.store.records place)
    where
      by_record : (o : Option TcpRecord) → Given TakenSo (or_trap (λ r. goes_on (Call Code (λ s. r) (λ s now. with_socket s place now) (accept_record_asks (first_ids line))) keep_accepted) m.store o)
      by_record None = tt
      by_record (Some r) = given_along (λ done. ⊤) TakenSo (accept_record_asks (first_ids line) r) _ (given_any (λ done. ⊤) (λ done. tt) (accept_record_asks (first_ids line) r)) (λ done k. took_so done)

module _ {contexts : List WasiSocketsCtx} {line : ℕ} {origin : Step} {law : Law contexts line origin} where
  -- == on the record of a socket
  told_walks : {h : Here} {place : ℕ} (here : HasRecord h place) (done : Answered × TcpRecord) → ListensSo done → Walks law (put h place done.1) (λ now. put h place now.1) (Give (bind_told P3 done))
  told_walks here (Ok Pending, r) so = give _
  told_walks here (Ok (Ready d), r) so = on here r (with_progress r doing.Nothing) (Changes _ _ _ _ (found here r) (idled r so.1)) (give _)
  told_walks here (Err c, r) so = give _

  -- an answer: pending, the call stands
  module _ (m : Machine) (ids : Ids) (handle place : ℕ) (q : NoStartStands m.store.standing) (r : TcpRecord) (g : tcp2_at m.store.records place ≡ Some r) where
    kept_walks : (answer : Answer (Unit {0})) (now : TcpRecord) → ListensSo (Ok answer, now)
        → Walks law (put (Listens ids.line m (Some handle) place Used) place now) (ListenedIn ids.line m handle place) (keeps ids (Listen place (Some handle)) answer (with_socket m.store place now))
    kept_walks Pending now so = gives _ (StandsListen _ ids place (Some handle) now q refl refl (found (there {h = Listens ids.line m (Some handle) place Used} g) now) so)
    kept_walks (Ready d) now so = give _

  -- == on the records
  again_walks : (m : Machine) (ids : Ids) (handle place : ℕ) → NoStartStands m.store.standing → Walks law (Listens ids.line m (Some handle) place Used) (ListenedIn ids.line m handle place) (relisten_in ids handle place m.store)
  again_walks m ids handle place q =
      look (λ r. goes_on (Call Code (λ s. r) (λ s now. with_socket s place now) relistens) (keeps ids (Listen place (Some handle)))) (tcp2_at m.store.records place) (gives _ (Leaves _))
      (λ r g. let here = there {h = Listens ids.line m (Some handle) place Used} g in
      from (put_same (Listens ids.line m (Some handle) place Used) place r g)
      (call_given _ ListensSo (relistens_given r) (and_given ListensSo (listen_given r) (poll_listen_walks here q r) (told_walks here)) (λ c now. gives _ (Leaves _)) (kept_walks m ids handle place q r g)))

  module _ (m : Machine) (handle place : ℕ) (is : IsListenStep origin) (un : BindsAnywhere origin) (first : ListensFor (Some handle) origin) (under : kind_at m.table handle ≡ Some (Tcp3 place)) (q : NoStartStands m.store.standing) where
    refused_walks : (r : TcpRecord) → tcp2_at m.store.records place ≡ Some r → is_nothing r.in_progress ≡ true → (IsNot r.listening → ⊥) → Walks law (At line m place Unused) (ListenedIn line m handle place) (Begins line m handle place r)
    refused_walks r g idle other =
        from (put_same (At line m place Unused) place r g)
        (call_given _ IsRefused (refused_given line r other)
        (and_given ListensSo (once_given (own_of line) r r.listening) (any_walks (there {h = At line m place Unused} g) refl is refl q un r r.listening (λ n. absurd (other n)) refl idle) (told_walks (there {h = At line m place Used} g)))
        (λ c now. gives _ (Leaves _)) (λ answer now k. absurd k))

    begins_walks : (r : TcpRecord) → tcp2_at m.store.records place ≡ Some r → is_nothing r.in_progress ≡ true → (l : Listening) → r.listening ≡ l → Walks law (At line m place Unused) (ListenedIn line m handle place) (Begins line m handle place r)
    begins_walks r g idle Not e =
        move (RemembersListen _ (Some handle) place r first under g e)
        (from (put_same (Listens line m (Some handle) place Unused) place r g)
        (call_given _ ListensSo (listens_given line r)
        (and_given ListensSo (once_given (own_of line) r r.listening) (any_walks (there {h = Listens line m (Some handle) place Unused} g) refl is refl q un r r.listening (λ n. tt) refl idle) (told_walks (there {h = Listens line m (Some handle) place Used} g)))
        (λ c now. gives _ (Leaves _)) (kept_walks m (first_ids line) handle place q r g)))
    begins_walks r g idle l e = refused_walks r g idle (λ n. absurd (subst IsNot e n))

    in_walks : Walks law (At line m place Unused) (ListenedIn line m handle place) (listen_in (first_ids line) handle place m.store)
    in_walks =
        look (λ r. need (is_nothing r.in_progress) (Code InvalidState) >> (Call Code (λ s. r) (λ s now. with_socket s place now) (listens (own_of line)) >>= keeps (first_ids line) (Listen place (Some handle)))) (tcp2_at m.store.records place) (move (Spends _ refl) (gives _ (Leaves _)))
        (λ r g. by_if (is_nothing r.in_progress) (λ idle. begins_walks r g idle r.listening refl) (λ other. move (Spends _ refl) (gives _ (Leaves _))))

  -- == its listener gets a handle
  marks_walks : (m : Machine) (n handle reached place : ℕ) (o : Option TcpRecord) → tcp2_at m.store.records reached ≡ o → IsSomeAnd o (λ r. has_listener r.listening ≡ true) → NoStartStands m.store.standing → tcp3_at m handle ≡ Some place
      → Walks law (Listens n m (Some handle) reached Used) (λ made. record (At n (record m { table = made.1 }) reached Used) { made = Past }) (make_asks m.table (own_of n) (Listen3 place) (Some handle) (side_at (tcp2_at m.store.records place)))
  marks_walks m n handle reached place None g has q e = absurd has
  marks_walks m n handle reached place (Some r) g has q e = record { along = λ es i. law.asks es (Listens n m (Some handle) reached Used) _ _ _ (MarksListener n handle reached place r q refl g has e) tt i }

  makes_walks : (m : Machine) (n handle reached : ℕ) → IsSomeAnd (tcp2_at m.store.records reached) (λ r. has_listener r.listening ≡ true) → NoStartStands m.store.standing → Walks law (Listens n m (Some handle) reached Used) OverWith (make_listener (own_of n) handle m)
  makes_walks m n handle reached has q =
      look (λ place. goes_on (Read (λ m. side_at (tcp2_at m.store.records place))) (λ side. goes_on (Call trap_of (λ m. m.table) tabling (λ t. make_asks t (own_of n) (Listen3 place) (Some handle) side)) (λ listener. gives_all (Ready listener)))) (tcp3_at m handle) (gives _ (Leaves _))
      (λ place e. call _ (marks_walks m n handle reached place (tcp2_at m.store.records reached) refl has q e) (λ why t. gives _ (Leaves _)) (λ listener t. gives _ (Leaves _)))

  listened_walks : (m : Machine) (ids : Ids) (handle place : ℕ) {asks : Asks (Result (Answer (Unit {0})) BaseStop × Records)} {h : Here} → Given (ReadySo place) asks → Walks law h (ListenedIn ids.line m handle place) asks → Walks law h OverWith (bind asks (after_call same_stop storing (listened (own_of ids.line) handle) m))
  listened_walks m ids handle place g w = call_given _ (ReadySo place) g w (λ why store. give _) answered
    where
      answered : (answer : Answer (Unit {0})) (store : Records) → ReadySo place (Ok answer, store) → Walks law (Listens ids.line (record m { store = store }) (Some handle) place Used) OverWith (listened (own_of ids.line) handle answer (record m { store = store }))
      answered (Ready d) store so = makes_walks (record m { store = store }) ids.line handle place so.0 so.1
      answered Pending store so = gives _ (Leaves _)

  -- == of the machine
  pub p3_relisten_walks : (m : Machine) (ids : Ids) (place handle : ℕ) → NoStartStands m.store.standing → Walks law (Listens ids.line m (Some handle) place Used) OverWith (relisten_of ids handle place m)
  p3_relisten_walks m ids place handle q = listened_walks m ids handle place (again_given ids handle place m.store q) (again_walks m ids handle place q)

  pub p3_listen_walks : (m : Machine) (s : ℕ) → Has (handles_of origin) s → IsListenStep origin → BindsAnywhere origin → ListensFor (Some s) origin → NoStartStands m.store.standing → Walks law (Starts m Unused) OverWith (listen_to (first_ids line) s m)
  p3_listen_walks m s named is un first q =
      look (λ place. last (in_host (listen_of (first_ids line) s place))) (tcp3_at m s) (gives _ (Spends _ refl))
      (λ place e. move (Reaches _ s place named (tcp3_record (kind_at m.table s) place e))
      (call _ (listened_walks m (first_ids line) s place (in_given (first_ids line) s place m.store q) (in_walks m s place is un first (tcp3_kind (kind_at m.table s) place e) q)) (λ why t. give _) (λ answer t. give _)))

  -- == a listener is looked at
  look_listening_walks : (m : Machine) (place : ℕ) (r : TcpRecord) (l : Listening) → r.listening ≡ l → tcp2_at m.store.records place ≡ Some r
      → Walks law (put (At line m place (Names 1)) place r) (λ done. put (At line m place Used) place done.1) (look_listening (first_ids line) r l)
  look_listening_walks m place r (Accepts l) e g =
      let begins = not (has_accept l.accept) in
      and_then (listener_walks (there {h = At line m place (Names 1)} g) refl r l (ready_end l) 1 l.accept e refl (λ b. (refl, refl))
      (λ now. gives _ (SpendsNames _ (part_after 1 begins) (after_names 1 begins)))) (λ done. give _)
  look_listening_walks m place r _ e g = gives _ (SpendsNames _ 1 refl)

  look_walks : (m : Machine) (place : ℕ) → Walks law (At line m place (Names 1)) (OverIn m) (look_accept (first_ids line) place m.store)
  look_walks m place =
      look (λ r. last (Call Code (λ s. r) (λ s now. with_socket s place now) (look_accept_asks (first_ids line)))) (tcp2_at m.store.records place) (move (SpendsNames _ 1 refl) (gives _ (Leaves _)))
      (λ r g. from (put_same (At line m place (Names 1)) place r g) (call _ (look_listening_walks m place r r.listening refl g) (λ c now. gives _ (Leaves _)) (λ answer now. gives _ (Leaves _))))

  -- == an accept: what was taken joins the records
  accept_listening_walks : (c listener remaining : ℕ) → origin ≡ step.Call c (guest.P3Tcp (p3_tcp_call.Accept listener remaining)) → (m : Machine) (place : ℕ) → record_of (kind_at m.table listener) ≡ Some place → (r : TcpRecord) (l : Listening) → r.listening ≡ l → tcp2_at m.store.records place ≡ Some r
      → Walks law (put (Watching line m place (Names 1)) place r) (TookPlain (Watching line m place Used) place) (accept_listening (first_ids line) r l)
  accept_listening_walks c listener remaining is m place k r (Accepts l) e g =
      let begins = not (has_accept l.accept) in
      and_then (listener_walks (there g) refl r l (accept_end l) 1 l.accept e refl (λ b. (refl, refl))
      (λ now. move (SpendsNames _ (part_after 1 begins) (after_names 1 begins)) (takes_plain_walks {h = Watching line m place Used} (there {h = Watching line m place Used} {place = place} g) c listener remaining is k refl r l now))) (λ done. give _)
  accept_listening_walks c listener remaining is m place k r _ e g = gives _ (SpendsNames _ 1 refl)

  module _ (m : Machine) (place : ℕ) where
    keep_walks : (answer : Answer Socket) (now : TcpRecord) → Walks law (TookPlain (Watching line m place Used) place (Ok answer, now)) (TakenIn m) (keep_accepted answer (with_socket m.store place now))
    keep_walks (Ready socket) now =
        let records = tcp2_put m.store.records place now in
        from (ap (λ (o : Option TcpRecord). joins_as (Watching line m place Used) records (new_record socket) (taken_in o (length records))) (push_finds tcp_sort records (new_record socket))) (give _)
    keep_walks Pending now = gives _ (Leaves _)

    accept_walks : (c listener remaining : ℕ) → origin ≡ step.Call c (guest.P3Tcp (p3_tcp_call.Accept listener remaining)) → record_of (kind_at m.table listener) ≡ Some place → Walks law (Watching line m place (Names 1)) (TakenIn m) (accept_in (first_ids line) place m.store)
    accept_walks c listener remaining is k =
        look (λ r. goes_on (Call Code (λ s. r) (λ s now. with_socket s place now) (accept_record_asks (first_ids line))) keep_accepted) (tcp2_at m.store.records place) (move (SpendsNames _ 1 refl) (gives _ (Leaves _)))
        (λ r g. from (put_same (Watching line m place (Names 1)) place r g)
        (call _ (accept_listening_walks c listener remaining is m place k r r.listening refl g) (λ c now. gives _ (Leaves _)) keep_walks))

  -- and gets a handle
  hand_walks : (c listener remaining : ℕ) → origin ≡ step.Call c (guest.P3Tcp (p3_tcp_call.Accept listener remaining)) → (m : Machine) (p : ℕ) → HasAt m.store p → Walks law (Between None (taken_in (tcp2_at m.store.records p) p) m) OverWith (hand_over (own_of line) listener p m)
  hand_walks c listener remaining is m p here =
      let made : (taken_in (tcp2_at m.store.records p) p ≡ Joined P3 p) ⊎ (taken_in (tcp2_at m.store.records p) p ≡ Faulted p) = subst (λ (o : Option TcpRecord). (taken_in o p ≡ Joined P3 p) ⊎ (taken_in o p ≡ Faulted p)) (sym here.found) (which here.was.inner.state p) in
      call {mid = λ made. Over (record m { table = made.1 })} _ (record { along = λ es i. law.asks es (Between None (taken_in (tcp2_at m.store.records p) p) m) _ _ _ (MarksPlain c listener remaining p here.was is made refl here.found) tt i }) (λ why t. give _) (λ socket t. give _)

  pub p3_accept_walks : (m : Machine) (c listener remaining : ℕ) → Has (handles_of origin) listener → origin ≡ step.Call c (guest.P3Tcp (p3_tcp_call.Accept listener remaining)) → Walks law (Starts m Unused) OverWith (accept (first_ids line) true remaining listener m)
  p3_accept_walks m c listener remaining named is =
      look (λ place. accept_by (first_ids line) true listener place (remaining == 0)) (listen3_at m listener) (gives _ (Spends _ refl))
      (λ place e. let k = listen3_record (kind_at m.table listener) place e in move (Reaches _ listener place named k) (by_remaining place k (remaining == 0)))
    where
      handed_walks : (answer : Answer ℕ) (store : Records) → TakenSo (Ok answer, store) → Walks law (TakenIn m (Ok answer, store)) OverWith (handed (own_of line) true listener answer (record m { store = store }))
      handed_walks (Ready p) store here = hand_walks c listener remaining is (record m { store = store }) p here
      handed_walks Pending store here = give _

      by_remaining : (place : ℕ) → record_of (kind_at m.table listener) ≡ Some place → (none : Bool) → Walks law (At line m place Unused) OverWith (accept_by (first_ids line) true listener place none m)
      by_remaining place k true = move (Counts _ refl) (call _ (look_walks m place) (λ why t. give _) (λ answer t. give _))
      by_remaining place k false = move (Watches _ refl) (move (Counts _ refl) (call_given _ TakenSo (taken_given line m place) (accept_walks m place c listener remaining is k) (λ why t. give _) handed_walks))
