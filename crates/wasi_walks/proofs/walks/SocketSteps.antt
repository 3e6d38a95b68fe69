-- The steps on sockets, as moves: the handle is looked up, its record does the call, and is put back.
use Rattle.wasi_walks.proofs.Words.{AnOption, Answer, Asks, Bool, Chosen, Err, ErrorCode, Give, HandleTable, Has, InProgress, Input, IpSocketAddress}
use Rattle.wasi_walks.proofs.Words.{IsBacklogSet, IsBindTo, IsConnectTo, Kind, List, Machine, None, Ok, Option, Output, Pending, Records, Result}
use Rattle.wasi_walks.proofs.Words.{ShutdownType, Socket, Some, StandingCall, GuestCall, Step, Stop, Streams, TcpRecord, TheBacklog, WasiSocketsCtx}
use Rattle.wasi_walks.proofs.Words.{call_answered, call_place, false, finish_at, finish_by}
use Rattle.wasi_walks.proofs.Words.{finish_on, handles_of, inl, inner_answered, inr, is_connect, is_network, is_nothing, kind_at}
use Rattle.wasi_walks.proofs.Words.{make_asks, own_of, put_back, refl, set_chosen, set_option_asks}
use Rattle.wasi_walks.proofs.Words.{shut_record, shutdown_at, side_at, socket_at, start_bind_asks, start_bind_at, start_bind_by}
use Rattle.wasi_walks.proofs.Words.{start_bind_on, start_connect_asks, start_connect_at, start_connect_by, start_connect_on, sym}
use Rattle.wasi_walks.proofs.Words.{tell_local_asks, tell_remote_asks, true, with_store, ℕ, ◌≡◌, ◌⊎◌}
use Rattle.wasi_machine.specs.Machine.{first_ids}
use Rattle.wasi_world.specs.declared.ids.Ids.{Ids}
use Rattle.wasi_addr.specs.Clamp.{clamped_backlog}
use Rattle.wasi_world.specs.declared.call.Opt.{Opt}
use Rattle.socket_common.specs.Options.{value_set}
use Rattle.wasi_walks.specs.Licence.{IsSetTo}
use Rattle.wasi_records.specs.Records.{tcp2_at}
use Rattle.wasi_walks.proofs.Words.{Tcp2}
use Rattle.host_store.specs.Store.{with_socket}
use Rattle.host_tcp.specs.Options.{looked_at, set_backlog_at}
use Rattle.wasi_p2.specs.Options.{record_asks}
use Rattle.wasi_walks.proofs.walks.Moves.{IsOfOld, Move, P2, NoStartStands, IsSettled, Used, Unused, Here, put, Found, record_of, AStream, Reaches, Leaves, Spends, Changes, Stands, Made, Past, Marks}
use Rattle.wasi_walks.proofs.walks.Law.{Law, HasRecord, found, put_same, Walks, Given, give, and_then, and_given, by_if, move, gives, from, mark}
use Rattle.wasi_walks.proofs.walks.Sockets.{BindsSo, WaitsSo, waits_so, begun_bind_given, idled, connect_settles, set_walks, begin_bind_walks, begin_connect_walks, poll_connect_walks, FinishedSo, finished_of, local_walks, remote_walks, backlog_walks}
use Rattle.wasi_walks.proofs.walks.Streams.{shut_walks}
use Rattle.wasi_walks.proofs.walks.Lines.{look, call, call_given}
use Rattle.wasi_addr.specs.declared.p2.ErrorCode.TheVariants.{NotInProgress}
use Rattle.record_common.specs.Stops.{Code, StopOf, code_stop}
use Rattle.tcp_records.specs.Sockets.{poll_connect_asks}
use Rattle.host_store.specs.Block.{Call, Does, Read, last, need, goes_on, or_trap, ◌>>=◌, ◌>>◌}
use Rattle.host_store.specs.Lines.{tcp_at, in_store, same_stop, storing, on_tcp, done_by, finish_connect_of}
use Rattle.wasi_p2.specs.Tcp.{local_address, remote_address, finish_connect, make_streams}
use Rattle.wasi_walks.proofs.walks.States.{OverWith, Between, socket_record, make_given, socket_kind, At, Starts, streams_are, Put, Over, there}
use Rattle.wasi_steps.specs.declared.guest_call.TcpCall.{TcpCall}

module _ {contexts : List WasiSocketsCtx} {line : ℕ} {origin : Step} {law : Law contexts line origin} where
  -- == a call on the record of a handle
  pub on_socket : {T : Type 0} (m : Machine) (handle : ℕ) {call : ℕ → Asks (Result T Stop × Records)} (o : Option ℕ) → Has (handles_of origin) handle → ((place : ℕ) → o ≡ Some place → record_of (kind_at m.table handle) ≡ Some place)
      → ((place : ℕ) → Walks law (At line m place Unused) (Put line m place) (call place)) → Walks law (Starts m Unused) OverWith (record_asks m call o)
  on_socket m handle None named k c = gives _ (Spends _ refl)
  on_socket m handle (Some place) named k c = move (Reaches _ handle place named (k place refl)) (and_then (c place) (λ done. gives _ (Leaves _)))

  -- a call that leaves its record as it was
  pub looked_walks : {T : Type 0} (m : Machine) (place : ℕ) (call : Socket → Asks (Result T ErrorCode × Socket)) (o : Option TcpRecord) → tcp2_at m.store.records place ≡ o
      → ((r : TcpRecord) → HasRecord (At line m place Unused) place → Walks law (put (At line m place Unused) place r) (λ done. put (At line m place Unused) place r) (call r.inner)) → Walks law (At line m place Unused) (Put line m place) (looked_at m.store call o)
  looked_walks m place call None g k = gives _ (Spends _ refl)
  looked_walks m place call (Some r) g k =
      let here = put_same (At line m place Unused) place r g in
      from here (and_then (k r (there g)) (λ done. from (sym here) (gives _ (Spends _ refl))))

  -- a call that may stand was answered
  pub answered_walks : (m : Machine) (ids : Ids) (call : StandingCall) → NoStartStands m.store.standing → (begun : Result (Answer (Unit {0})) ErrorCode × TcpRecord) → HasRecord (At ids.line m (call_place call) Used) (call_place call) → WaitsSo call begun
      → Walks law (put (At ids.line m (call_place call) Used) (call_place call) begun.1) (Put ids.line m (call_place call)) (Give (call_answered m.store ids call begun))
  answered_walks m ids call q (Ok Pending, r) here waits = gives _ (Stands _ ids call r q refl (found here r) waits)
  answered_walks m ids call q _ here waits = give _

  -- == a bind
  start_by_walks : (m : Machine) (place : ℕ) (a : IpSocketAddress) (r : TcpRecord) (idle : Bool) → is_nothing r.in_progress ≡ idle → Found (At line m place Unused) place r → IsBindTo a origin → NoStartStands m.store.standing → Walks law (At line m place Unused) (Put line m place) (start_bind_by m.store (first_ids line) place a r idle)
  start_by_walks m place a r true e g to q =
      from (put_same (At line m place Unused) place r g)
      (and_given BindsSo (begun_bind_given (own_of line) r a) (begin_bind_walks (there g) refl a to refl q r) (λ begun w. answered_walks m (first_ids line) (StandingCall.Bind place P2) q begun (record { was = r; found = g }) (waits_so place P2 begun w)))
  start_by_walks m place a r false e g to q = gives _ (Spends _ refl)

  start_at_walks : (m : Machine) (place : ℕ) (a : IpSocketAddress) (o : Option TcpRecord) → tcp2_at m.store.records place ≡ o → IsBindTo a origin → NoStartStands m.store.standing → Walks law (At line m place Unused) (Put line m place) (start_bind_at m.store (first_ids line) place a o)
  start_at_walks m place a None g to q = gives _ (Spends _ refl)
  start_at_walks m place a (Some r) g to q = start_by_walks m place a r (is_nothing r.in_progress) refl g to q

  start_on_walks : (m : Machine) (s : ℕ) (a : IpSocketAddress) (o : Option ℕ) → socket_at m s ≡ o → Has (handles_of origin) s → IsBindTo a origin → NoStartStands m.store.standing → Walks law (Starts m Unused) OverWith (start_bind_on m (first_ids line) a o)
  start_on_walks m s a None e named to q = gives _ (Spends _ refl)
  start_on_walks m s a (Some place) e named to q =
      move (Reaches _ s place named (socket_record (kind_at m.table s) place e)) (and_then (start_at_walks m place a (tcp2_at m.store.records place) refl to q) (λ done. gives _ (Leaves _)))

  pub start_bind_walks : (m : Machine) (s n : ℕ) (a : IpSocketAddress) → Has (handles_of origin) s → IsBindTo a origin → NoStartStands m.store.standing → Walks law (Starts m Unused) OverWith (start_bind_asks m (first_ids line) s n a)
  start_bind_walks m s n a named to q = by_if (is_network (kind_at m.table n)) (λ yes. start_on_walks m s a (socket_at m s) refl named to q) (λ other. gives _ (Spends _ refl))

  -- == a connect
  put_back_walks : {T : Type 0} (m : Machine) (place : ℕ) (done : Result T ErrorCode × TcpRecord) → Walks law (record (put (At line m place Unused) place done.1) { own = Used }) (Put line m place) (Give (put_back m.store place done))
  put_back_walks m place (Ok value, r) = give _
  put_back_walks m place (Err c, r) = give _

  start_connect_by_walks : (m : Machine) (place : ℕ) (a : IpSocketAddress) (r : TcpRecord) (idle : Bool) → is_nothing r.in_progress ≡ idle → Found (At line m place Unused) place r → IsConnectTo a origin → IsOfOld (At line m place Unused) place → Walks law (At line m place Unused) (Put line m place) (start_connect_by m.store (own_of line) place a r idle)
  start_connect_by_walks m place a r true e g to old = from (put_same (At line m place Unused) place r g) (and_then (begin_connect_walks (there g) refl r a to e refl old) (put_back_walks m place))
  start_connect_by_walks m place a r false e g to old = gives _ (Spends _ refl)

  start_connect_at_walks : (m : Machine) (place : ℕ) (a : IpSocketAddress) (o : Option TcpRecord) → tcp2_at m.store.records place ≡ o → IsConnectTo a origin → IsOfOld (At line m place Unused) place → Walks law (At line m place Unused) (Put line m place) (start_connect_at m.store (own_of line) place a o)
  start_connect_at_walks m place a None g to old = gives _ (Spends _ refl)
  start_connect_at_walks m place a (Some r) g to old = start_connect_by_walks m place a r (is_nothing r.in_progress) refl g to old

  start_connect_on_walks : (m : Machine) (s : ℕ) (a : IpSocketAddress) (o : Option ℕ) → socket_at m s ≡ o → Has (handles_of origin) s → IsConnectTo a origin → Walks law (Starts m Unused) OverWith (start_connect_on m (own_of line) a o)
  start_connect_on_walks m s a None e named to = gives _ (Spends _ refl)
  start_connect_on_walks m s a (Some place) e named to =
      move (Reaches _ s place named (socket_record (kind_at m.table s) place e)) (and_then (start_connect_at_walks m place a (tcp2_at m.store.records place) refl to (record { handle = s; socket = socket_kind (kind_at m.table s) place e })) (λ done. gives _ (Leaves _)))

  pub start_connect_walks : (m : Machine) (s n : ℕ) (a : IpSocketAddress) → Has (handles_of origin) s → IsConnectTo a origin → Walks law (Starts m Unused) OverWith (start_connect_asks m (own_of line) s n a)
  start_connect_walks m s n a named to = by_if (is_network (kind_at m.table n)) (λ yes. start_connect_on_walks m s a (socket_at m s) refl named to) (λ other. gives _ (Spends _ refl))

  -- == blocks, with codes of either interface: a call on the record of a number, and of a handle
  pub on_tcp_walks : {C A : Type 0} (m : Machine) (place : ℕ) (seen : ErrorCode → StopOf C) (asked : TcpRecord → Asks (Result A ErrorCode × TcpRecord))
      → ((r : TcpRecord) → HasRecord (At line m place Unused) place → Walks law (put (At line m place Unused) place r) (λ done. put (At line m place Unused) place done.1) (asked r))
      → Walks law (At line m place Unused) (Put line m place) (goes_on (tcp_at place) (λ r. last (Call seen (λ store. r) (λ store now. with_socket store place now) asked)) m.store)
  on_tcp_walks m place seen asked w =
      look (λ r. last (Call seen (λ store. r) (λ store now. with_socket store place now) asked)) (tcp2_at m.store.records place) (gives _ (Spends _ refl))
      (λ r g. from (put_same (At line m place Unused) place r g) (call _ (w r (there g)) (λ e t. gives _ (Spends _ refl)) (λ a t. gives _ (Spends _ refl))))

  pub on_named : {C D A : Type 0} (seen : StopOf D → StopOf C) (m : Machine) (named : Option ℕ) → ((place : ℕ) → named ≡ Some place → Move line origin (Starts m Unused) (At line m place Unused)) → (does : ℕ → Does D Records A)
      → ((place : ℕ) → Walks law (At line m place Unused) (Put line m place) (does place m.store))
      → Walks law (Starts m Unused) OverWith (or_trap (λ place. last (Call seen (λ x. x.store) storing (does place))) m named)
  on_named seen m named reaches does w =
      look (λ place. last (Call seen (λ x. x.store) storing (does place))) named (gives _ (Spends _ refl))
      (λ place e. move (reaches place e)
      (call _ (w place) (λ e t. gives _ (Leaves _)) (λ a t. gives _ (Leaves _))))

  pub on_handle : {C A : Type 0} (m : Machine) (handle : ℕ) (named : Option ℕ) → ((place : ℕ) → named ≡ Some place → record_of (kind_at m.table handle) ≡ Some place)
      → (does : ℕ → Does C Records A) → Has (handles_of origin) handle
      → ((place : ℕ) → Walks law (At line m place Unused) (Put line m place) (does place m.store))
      → Walks law (Starts m Unused) OverWith (or_trap (λ place. last (in_store (does place))) m named)
  on_handle m handle named is does has w = on_named same_stop m named (λ place e. Reaches _ handle place has (is place e)) does w

  -- == the addresses
  pub local_address_walks : (m : Machine) (s : ℕ) → Has (handles_of origin) s → Walks law (Starts m Unused) OverWith (local_address (own_of line) s m)
  local_address_walks m s named =
      on_handle m s (socket_at m s) (socket_record (kind_at m.table s)) (λ place. on_tcp place (tell_local_asks (own_of line))) named
      (λ place. on_tcp_walks m place code_stop (tell_local_asks (own_of line)) (λ r here. local_walks here refl r))

  pub remote_address_walks : (m : Machine) (s : ℕ) → Has (handles_of origin) s → Walks law (Starts m Unused) OverWith (remote_address (own_of line) s m)
  remote_address_walks m s named =
      on_handle m s (socket_at m s) (socket_record (kind_at m.table s)) (λ place. on_tcp place (tell_remote_asks (own_of line))) named
      (λ place. on_tcp_walks m place code_stop (tell_remote_asks (own_of line)) (λ r here. remote_walks here refl r))

  -- == a connect is finished
  finish_of_walks : (m : Machine) (place : ℕ) → Walks law (At line m place Unused) (Put line m place) (finish_connect_of place m.store)
  finish_of_walks m place =
      look (λ r. need (is_connect r.in_progress) (Code NotInProgress) >> last (done_by place r poll_connect_asks)) (tcp2_at m.store.records place) (gives _ (Spends _ refl))
      (λ r g. by_if (is_connect r.in_progress)
      (λ its. from (put_same (At line m place Unused) place r g)
      (call _ (poll_connect_walks (there g) r (connect_settles r.in_progress its)) (λ e t. gives _ (Spends _ refl)) (λ a t. gives _ (Spends _ refl))))
      (λ other. gives _ (Spends _ refl)))

  -- the two streams, under a socket's handle, by whatever is known of the table
  pub streams_walks : (at : Option (ℕ × ℕ)) (made : Made) (s place : ℕ) (m : Machine) (G : HandleTable → Type 0)
      → ((t : HandleTable) (kind : Kind) → G t → Given (λ x. G x.1) (make_asks t (own_of line) kind (Some s) (side_at (tcp2_at m.store.records place))))
      → ((t : HandleTable) (kind : Kind) → (kind ≡ Input place) ⊎ (kind ≡ Output place) → G t
      → Marks origin (record { machine = record m { table = t }; at = at; made = made; own = Used }) kind (Some s) (side_at (tcp2_at m.store.records place)))
      → G m.table → Walks law (Between at made m) OverWith (make_streams (own_of line) s place (side_at (tcp2_at m.store.records place)) m)
  streams_walks at made s place m G more marks g =
      call_given _ (λ done. G done.1) (more m.table (Input place) g) (mark (marks m.table (Input place) (inl refl) g)) (λ why t. gives _ (Leaves _))
      (λ input t k. call _ (mark (marks t (Output place) (inr refl) k)) (λ why u. gives _ (Leaves _)) (λ output u. gives _ (Leaves _)))

  pub finish_connect_walks : (c s : ℕ) (m : Machine) → Has (handles_of origin) s → origin ≡ Step.Call c (GuestCall.Tcp (TcpCall.FinishConnect s))
      → Walks law (Starts m Unused) OverWith (finish_connect (own_of line) s m)
  finish_connect_walks c s m named is =
      look (λ place. in_store (finish_connect_of place) >> (Read (λ m. side_at (tcp2_at m.store.records place)) >>= λ side. make_streams (own_of line) s place side))
      (socket_at m s) (gives _ (Spends _ refl))
      (λ place e. move (Reaches _ s place named (socket_record (kind_at m.table s) place e))
      (call_given _ (FinishedSo place) (finished_of m.store place) (finish_of_walks m place) (λ why store. gives _ (Leaves _))
      (λ done store has.
      streams_walks (Some (place, line)) Past s place (record m { store = store }) (λ t. kind_at t s ≡ Some (Tcp2 place))
      (λ t kind g. make_given t (own_of line) kind (Some s) (side_at (tcp2_at store.records place)) s (Tcp2 place) g)
      (λ t kind which g. AStream c s place kind is which (record { past = refl; socket = g; streams = has })) (socket_kind (kind_at m.table s) place e))))

  -- == what is finished
  pub as_left : {A : Type 0} {h : Here} {x : A} {now : Machine} → Walks law h (λ m. Over m) (Give now) → Walks law h OverWith (Give (x, now))
  as_left w = record { along = w.along }

  finishes : (m : Machine) (place : ℕ) (is_it : InProgress → Bool) → ((doing : InProgress) → is_it doing ≡ true → IsSettled doing) → (o : Option TcpRecord) → tcp2_at m.store.records place ≡ o → Walks law (Starts m Unused) (λ now. Over now) (Give (with_store m (finish_at is_it m.store place o)).1)
  finishes m place is_it settles None g = gives _ (Spends _ refl)
  finishes m place is_it settles (Some r) g = by_test (is_it r.in_progress) refl
    where
      by_test : (b : Bool) → is_it r.in_progress ≡ b → Walks law (Starts m Unused) (λ now. Over now) (Give (with_store m (finish_by m.store place r b)).1)
      by_test true e = move (Spends _ refl) (gives _ (Changes _ place r _ g (idled r (settles r.in_progress e))))
      by_test false e = gives _ (Spends _ refl)

  pub finish_started_walks : (m : Machine) (is_it : InProgress → Bool) → ((doing : InProgress) → is_it doing ≡ true → IsSettled doing) → (o : Option ℕ) → Walks law (Starts m Unused) (λ now. Over now) (Give (finish_on is_it m o).1)
  finish_started_walks m is_it settles None = gives _ (Spends _ refl)
  finish_started_walks m is_it settles (Some place) = finishes m place is_it settles (tcp2_at m.store.records place) refl

  -- == a shutdown
  shut_record_walks : {h : Here} {place : ℕ} (here : HasRecord h place) (at : h.at ≡ Some (place, line)) (how : ShutdownType) (r : TcpRecord) (o : Option Streams) → r.streams ≡ o → Walks law (put h place r) (λ done. put h place done.1) (shut_record (own_of line) how r o)
  shut_record_walks here at how r None e = give _
  shut_record_walks {h} {place} here at how r (Some s) e = from (streams_are h place r s e) (and_then (shut_walks here at r s how) (λ done. give _))

  pub shutdown_at_walks : (m : Machine) (place : ℕ) (how : ShutdownType) (o : Option TcpRecord) → tcp2_at m.store.records place ≡ o → Walks law (At line m place Unused) (Put line m place) (shutdown_at m.store (own_of line) how place o)
  shutdown_at_walks m place how None g = gives _ (Spends _ refl)
  shutdown_at_walks m place how (Some r) g = from (put_same (At line m place Unused) place r g) (and_then (shut_record_walks (there g) refl how r r.streams refl) (λ done. gives _ (Spends _ refl)))

  -- == options and the backlog
  pub set_chosen_walks : (m : Machine) (s : ℕ) (o : Option ℕ) (c : Chosen) → Has (handles_of origin) s → ((place : ℕ) → o ≡ Some place → record_of (kind_at m.table s) ≡ Some place) → ((option : Opt) (value : ℕ) → c ≡ AnOption option value → IsSetTo option (value_set option value) origin) → ((value : ℕ) → c ≡ TheBacklog value → IsBacklogSet (clamped_backlog value) origin)
      → Walks law (Starts m Unused) OverWith (set_chosen m (own_of line) o c)
  set_chosen_walks m s o (AnOption option value) named k q b =
      on_socket m s o named k (λ place. looked_walks m place (λ x. set_option_asks (own_of line) x option value) (tcp2_at m.store.records place) refl (λ r here. set_walks here refl r option value refl (q option value refl)))
  set_chosen_walks m s o (TheBacklog value) named k q b = on_socket m s o named k (λ place. backlog_at_walks m place (tcp2_at m.store.records place) refl)
    where
      backlog_at_walks : (m : Machine) (place : ℕ) (o : Option TcpRecord) → tcp2_at m.store.records place ≡ o → Walks law (At line m place Unused) (Put line m place) (set_backlog_at m.store (own_of line) place value o)
      backlog_at_walks m place None g = gives _ (Spends _ refl)
      backlog_at_walks m place (Some r) g =
          from (put_same (At line m place Unused) place r g) (and_then (backlog_walks (there g) refl r value (b value refl)) (λ done. move (Spends _ refl) (put_back_walks m place (inner_answered r done))))
