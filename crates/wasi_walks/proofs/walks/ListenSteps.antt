-- The steps of listens and accepts, as moves.
use Rattle.wasi_walks.proofs.Words.{Accepts, Answer, Bool, Not, Pending, bind, subst, Err, ErrorCode, Give, HandleTable, Has, IsListenStep, List, Listening, Machine, None, Ok, Option}
use Rattle.wasi_walks.proofs.Words.{Ready, Records, Result, Socket, Some, StandingCall, GuestCall, Step, Stop, TcpRecord, WasiSocketsCtx, accept_answered}
use Rattle.wasi_walks.proofs.Words.{accept_at, accept_end, accept_listening, accept_on, accepted_asks, accepted_record, accepted_streams, false}
use Rattle.wasi_walks.proofs.Words.{first_ids, handles_of, is_nothing, kept_accepted, kind_at, make_asks, own_of, refl, side_at}
use Rattle.wasi_walks.proofs.Words.{socket_at, start_listen_at, start_listen_by, true, with_records, with_store, socket_with_streams, with_table, ℕ, ⊤, ◌≡◌}
use Rattle.wasi_walks.proofs.walks.Moves.{ListensFor, RemembersListen, StandsListen, NoStartStands, Used, Unused, put, Found, record_of, Reaches, Leaves, Spends, Marked, made_so, AnAcceptedStream, Watches, Counts, Names, SpendsNames}
use Rattle.wasi_world.specs.declared.ids.Ids.{Ids}
use Rattle.host_tcp.specs.TcpCalls.{relisten_at}
use Rattle.host_store.specs.Standing.{call_answered}
use Rattle.wasi_p2.specs.Tcp.{start_listen_on}
use Rattle.tcp_records.specs.Listening.{begin_listen_asks}
use Rattle.wasi_walks.proofs.walks.Here.{after_names, part_after}
use Rattle.std.specs.Prelude.{not}
use Rattle.wasi_tcp.specs.Listener.{has_accept}
use Rattle.wasi_walks.proofs.walks.Law.{Law, HasRecord, found, put_same, Walks, give, and_then, and_given, move, gives, from, accept}
use Rattle.wasi_walks.proofs.walks.Accepts.{joined_if, Took, takes_walks, listener_walks}
use Rattle.wasi_walks.proofs.walks.Sockets.{begin_listen_walks, begun_listen_given, begun_refused, listen_given, poll_listen_walks, IsNot, IsRefused, ListensSo}
use Rattle.wasi_walks.proofs.walks.States.{Watching, OverWith, Between, socket_record, JoinedSo, At, Starts, given_any, AcceptedSo, Listens, OverIn, joined_given, Over, there}
use Rattle.wasi_walks.proofs.walks.SocketSteps.{streams_walks}
use Rattle.wasi_records.specs.Records.{tcp2_at, tcp2_put}
use Rattle.wasi_steps.specs.declared.guest_call.TcpCall.{TcpCall}

module _ {contexts : List WasiSocketsCtx} {line : ℕ} {origin : Step} {law : Law contexts line origin} where
  -- == a listen
  -- what the line answered, after which nothing is worked on any more
  listened_walks : (m : Machine) (ids : Ids) (place : ℕ) → NoStartStands m.store.standing → HasRecord (Listens ids.line m None place Used) place → (done : Result (Answer (Unit {0})) ErrorCode × TcpRecord) → ListensSo done
      → Walks law (put (Listens ids.line m None place Used) place done.1) (OverIn m) (Give (call_answered m.store ids (StandingCall.Listen place None) done))
  listened_walks m ids place q here (Ok Pending, r) so = move (StandsListen _ ids place None r q refl refl (found here r) so) (gives _ (Leaves _))
  listened_walks m ids place q here (Ok (Ready d), r) so = gives _ (Leaves _)
  listened_walks m ids place q here (Err c, r) so = gives _ (Leaves _)

  pub relisten_walks : (m : Machine) (ids : Ids) (place : ℕ) → NoStartStands m.store.standing → (o : Option TcpRecord) → tcp2_at m.store.records place ≡ o → Walks law (Listens ids.line m None place Used) (OverIn m) (relisten_at m.store ids place o)
  relisten_walks m ids place q None g = gives _ (Leaves _)
  relisten_walks m ids place q (Some r) g =
      from (put_same (Listens ids.line m None place Used) place r g) (and_given ListensSo (listen_given r) (poll_listen_walks (there {h = Listens ids.line m None place Used} g) q r) (listened_walks m ids place q (there {h = Listens ids.line m None place Used} g)))

  module _ (m : Machine) (place : ℕ) (is : IsListenStep origin) (first : ListensFor None origin) (q : NoStartStands m.store.standing) where
    begins_walks : (r : TcpRecord) → Found (At line m place Unused) place r → is_nothing r.in_progress ≡ true → (l : Listening) → r.listening ≡ l → Walks law (At line m place Unused) (OverIn m) (bind (begin_listen_asks (own_of line) r) (λ done. Give (call_answered m.store (first_ids line) (StandingCall.Listen place None) done)))
    begins_walks r g idle Not e =
        move (RemembersListen _ None place r first tt g e)
        (from (put_same (Listens line m None place Unused) place r g)
        (and_given ListensSo (begun_listen_given (own_of line) r) (begin_listen_walks (there {h = Listens line m None place Unused} g) refl is refl q r idle) (listened_walks m (first_ids line) place q (there {h = Listens line m None place Used} g))))
    begins_walks r g idle l e = refused l (λ n. absurd (subst IsNot e n))
      where
        ended : (done : Result (Answer (Unit {0})) ErrorCode × TcpRecord) → IsRefused done → Walks law (put (At line m place Used) place done.1) (OverIn m) (Give (call_answered m.store (first_ids line) (StandingCall.Listen place None) done))
        ended (Ok answer, now) k = absurd k
        ended (Err c, now) k = gives _ (Leaves _)

        refused : (l : Listening) → (IsNot r.listening → ⊥) → Walks law (At line m place Unused) (OverIn m) (bind (begin_listen_asks (own_of line) r) (λ done. Give (call_answered m.store (first_ids line) (StandingCall.Listen place None) done)))
        refused l other = from (put_same (At line m place Unused) place r g) (and_given IsRefused (begun_refused (own_of line) r other) (begin_listen_walks (there g) refl is refl q r idle) ended)

    start_listen_by_walks : (r : TcpRecord) (idle : Bool) → is_nothing r.in_progress ≡ idle → Found (At line m place Unused) place r → Walks law (At line m place Unused) (OverIn m) (start_listen_by m.store (first_ids line) place r idle)
    start_listen_by_walks r true e g = begins_walks r g e r.listening refl
    start_listen_by_walks r false e g = move (Spends _ refl) (gives _ (Leaves _))

    start_listen_at_walks : (o : Option TcpRecord) → tcp2_at m.store.records place ≡ o → Walks law (At line m place Unused) (OverIn m) (start_listen_at m.store (first_ids line) place o)
    start_listen_at_walks None g = move (Spends _ refl) (gives _ (Leaves _))
    start_listen_at_walks (Some r) g = start_listen_by_walks r (is_nothing r.in_progress) refl g

  pub start_listen_walks : (m : Machine) (s : ℕ) (o : Option ℕ) → socket_at m s ≡ o → Has (handles_of origin) s → IsListenStep origin → ListensFor None origin → NoStartStands m.store.standing
      → Walks law (Starts m Unused) OverWith (start_listen_on m (first_ids line) o)
  start_listen_walks m s None e named is first q = gives _ (Spends _ refl)
  start_listen_walks m s (Some place) e named is first q = move (Reaches _ s place named (socket_record (kind_at m.table s) place e)) (and_then (start_listen_at_walks m place is first q (tcp2_at m.store.records place) refl) (λ done. give _))

  -- == an accept

  module _ (c s : ℕ) (is : origin ≡ Step.Call c (GuestCall.Tcp (TcpCall.Accept s))) (m : Machine) (place : ℕ) (k : record_of (kind_at m.table s) ≡ Some place) where
    answered_so : (r : TcpRecord) (joined : Result (Unit {0}) Stop × TcpRecord) → Walks law (joined_if (Watching line m place Used) place r joined) (AcceptedSo line m place) (Give (with_records m.store (kept_accepted (tcp2_put m.store.records place r) joined)))
    answered_so r (Ok done, now) = give _
    answered_so r (Err why, now) = give _

    accept_answered_walks : (done : Result (Answer Socket) ErrorCode × TcpRecord) → Walks law (Took (Watching line m place Used) place done) (AcceptedSo line m place) (Give (accept_answered m.store place done))
    accept_answered_walks (Ok (Ready socket), r) = answered_so r (accepted_record socket)
    accept_answered_walks _ = give _

    accept_listening_walks : (r : TcpRecord) (l : Listening) → r.listening ≡ l → tcp2_at m.store.records place ≡ Some r → Walks law (put (Watching line m place (Names 1)) place r) (Took (Watching line m place Used) place) (accept_listening (first_ids line) r l)
    accept_listening_walks r (Accepts l) e g =
        let begins = not (has_accept l.accept) in
        and_then (listener_walks (there g) refl r l (accept_end l) 1 l.accept e refl (λ b. (refl, refl))
        (λ now. move (SpendsNames _ (part_after 1 begins) (after_names 1 begins)) (takes_walks {h = Watching line m place Used} (there {h = Watching line m place Used} {place = place} g) c s is k refl r l now))) (λ done. give _)
    accept_listening_walks r _ e g = gives _ (SpendsNames _ 1 refl)

    accept_at_walks : (o : Option TcpRecord) → tcp2_at m.store.records place ≡ o → Walks law (Watching line m place (Names 1)) (AcceptedSo line m place) (accept_at m.store (first_ids line) place o)
    accept_at_walks None g = gives _ (SpendsNames _ 1 refl)
    accept_at_walks (Some r) g = from (put_same (Watching line m place (Names 1)) place r g) (and_then (accept_listening_walks r r.listening refl g) accept_answered_walks)

  -- the handles of what was accepted
  accepted_streams_walks : (c s p : ℕ) (m : Machine) (made : Result ℕ Stop × HandleTable) → origin ≡ Step.Call c (GuestCall.Tcp (TcpCall.Accept s)) → HasRecord (Over m) p
      → Walks law (Between None (made_so p made.0) (record m { table = made.1 })) OverWith (accepted_streams (own_of line) p (side_at (tcp2_at m.store.records p)) (with_table m made))
  accepted_streams_walks c s p m (Ok socket, t) is here =
      let now : Machine = record m { table = t } in
      and_then (streams_walks None (Marked socket p) socket p now (λ t. ⊤) (λ t kind g. given_any (λ x. ⊤) (λ x. tt) (make_asks t (own_of line) kind (Some socket) (side_at (tcp2_at m.store.records p)))) (λ t kind which g. AnAcceptedStream c s socket p kind here.was is which refl refl here.found) tt)
      (λ done. with_streams_walks socket done)
    where
      with_streams_walks : (socket : ℕ) (done : Result (ℕ × ℕ) Stop × Machine) → Walks law (Over done.1) OverWith (Give (socket_with_streams socket done))
      with_streams_walks socket (Ok pair, m) = give _
      with_streams_walks socket (Err why, m) = give _
  accepted_streams_walks c s p m (Err why, t) is here = gives _ (Leaves _)

  accepted_walks : (c s n : ℕ) (m : Machine) (done : Result ℕ Stop × Records) → origin ≡ Step.Call c (GuestCall.Tcp (TcpCall.Accept s)) → JoinedSo done → Walks law (AcceptedSo line m n done) OverWith (accepted_asks (own_of line) s (with_store m done))
  accepted_walks c s n m (Ok p, store) is j = and_then (accept c s p j.was is refl refl j.found) (λ made. accepted_streams_walks c s p (record m { store = store }) made is (record { was = j.was; found = j.found }))
  accepted_walks c s n m (Err why, store) is j = gives _ (Leaves _)

  pub accept_on_walks : (c s : ℕ) (m : Machine) (o : Option ℕ) → socket_at m s ≡ o → Has (handles_of origin) s → origin ≡ Step.Call c (GuestCall.Tcp (TcpCall.Accept s)) → Walks law (Starts m Unused) OverWith (accept_on m (first_ids line) s o)
  accept_on_walks c s m None e named is = gives _ (Spends _ refl)
  accept_on_walks c s m (Some place) e named is =
      let k = socket_record (kind_at m.table s) place e in
      move (Reaches _ s place named k) (move (Watches _ refl) (move (Counts _ refl) (and_given JoinedSo (joined_given m.store (first_ids line) place (tcp2_at m.store.records place)) (accept_at_walks c s is m place k (tcp2_at m.store.records place) refl) (λ done j. accepted_walks c s place m done is j))))
