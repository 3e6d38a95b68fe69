-- Connects of 0.3, as moves: they begin, are polled, and stand beside other calls while they are pending.
use Rattle.std.specs.Prelude.{◌≡◌, ⊤, ℕ, Bool, true, false, if◌then◌else◌, List, Option, Some, None, IsSomeAnd, Result, Ok, Err, refl}
use Rattle.std.proofs.Common.{subst, sym}
use Rattle.wasi_addr.specs.declared.address.IpSocketAddress.{IpSocketAddress}
use Rattle.wasi_addr.specs.declared.code.ErrorCode.{ErrorCode}
use Rattle.wasi_addr.specs.declared.code.ErrorCode.TheVariants.{InvalidArgument, InvalidState}
use Rattle.wasi_addr.specs.Address.{wildcard}
use Rattle.wasi_addr.specs.Code.{p3_of_code}
use Rattle.wasi_world.specs.declared.ids.OpId.{OpId}
use Rattle.wasi_world.specs.declared.outcome.Answer.{Answer}
use Rattle.wasi_world.specs.declared.outcome.Answer.TheVariants.{Ready, Pending}
use Rattle.wasi_world.specs.declared.outcome.WasiSocketsCtx.{WasiSocketsCtx}
use Rattle.wasi_world.specs.Asks.{Give, bind}
use Rattle.wasi_world.specs.Operation.{Item, End, Waits, Done, Refused, Operation, poll_asks}
use Rattle.wasi_tcp.specs.declared.socket.TcpState.{TcpState}
use Rattle.wasi_tcp.specs.declared.socket.TcpState.TheVariants as state
use Rattle.wasi_tcp.specs.Connect.{connect_first, connect_operation}
use Rattle.wasi_tcp.specs.Connecting.{connect_ended, connect_start, finish_connect_asks, finish_in, in_socket, is_connectable, start_connect_asks, start_connect_in, with_state}
use Rattle.wasi_tcp.specs.Shape.{Socket}
use Rattle.wasi_tcp.specs.Socket.{bound_asks}
use Rattle.tcp_records.specs.declared.socket.TcpRecord.{TcpRecord}
use Rattle.tcp_records.specs.InProgress.{is_nothing}
use Rattle.record_common.specs.Names.{own_of}
use Rattle.wasi_records.specs.Records.{tcp2_at}
use Rattle.tcp_records.specs.Sockets.{inner_answered, with_inner}
use Rattle.record_common.specs.Stops.{Code}
use Rattle.host_store.specs.declared.beside.BesideCall.TheVariants.{Connect}
use Rattle.host_store.specs.declared.machine.Machine.{Machine}
use Rattle.host_store.specs.BaseStops.{BaseStop, renamed}
use Rattle.host_store.specs.Beside.{beside_as, beside_polled, besided}
use Rattle.host_store.specs.Lines.{Answered}
use Rattle.host_store.specs.Block.{Call, after_call, give as gives_all, last, need, or_trap, ◌>>◌}
use Rattle.host_tcp.specs.Connects.{connect_begun, connect_in, connect_of, connects, reconnect_in, reconnect_of, reconnects}
use Rattle.host_store.specs.Kinds.{kind_at}
use Rattle.host_store.specs.Machine.{tcp3_at}
use Rattle.host_store.specs.Store.{Records, with_socket}
use Rattle.wasi_p3.specs.Tcp.{connect_to}
use Rattle.wasi_steps.specs.declared.step.Step.{Step}
use Rattle.wasi_steps.specs.Steps.{handles_of}
use Rattle.wasi_walks.specs.Licence.{Has, IsConnectTo}
use Rattle.wasi_walks.proofs.Places.{put_finds, tcp_sort}
use Rattle.wasi_walks.proofs.walks.Moves.{EndsBeside, Here, Reaches, Spends, StandsBeside, Unused, Used, put}
use Rattle.wasi_walks.proofs.walks.Law.{Given, HasRecord, Law, Walks, and_given, and_then, by_if, from, give, given_along, given_then, gives, put_same, spent}
use Rattle.wasi_walks.proofs.walks.Lines.{call, look}
use Rattle.wasi_walks.proofs.walks.SocketSteps.{on_named}
use Rattle.wasi_walks.proofs.walks.Sockets.{Spent, finish_walks, start_connect_walks}
use Rattle.wasi_walks.proofs.walks.States.{At, Over, OverWith, Put, Starts, tcp3_record, there}

-- == one that is pending is kept in its socket's state, under its name
abbrev pub ConnectsAs : OpId → TcpState → Type 0
ConnectsAs name (state.Connecting op) = op.who.id ≡ name
ConnectsAs name _ = ⊥

abbrev WaitsIn : OpId → Answered × TcpState → Type 0
WaitsIn name (Ok Pending, s) = ConnectsAs name s
WaitsIn name _ = ⊤

abbrev WaitsAt : OpId → Answered × Socket → Type 0
WaitsAt name (Ok Pending, socket) = ConnectsAs name socket.state
WaitsAt name _ = ⊤

abbrev WaitsAs : OpId → Answered × TcpRecord → Type 0
WaitsAs name (Ok Pending, r) = ConnectsAs name r.inner.state
WaitsAs name _ = ⊤

abbrev BeginsAs : OpId → Result (Unit {0}) ErrorCode × Socket → Type 0
BeginsAs name (Ok done, socket) = ConnectsAs name socket.state
BeginsAs name (Err c, socket) = ⊤

begun_as : (name : OpId) (socket : Socket) (a : IpSocketAddress) (s : TcpState) → Given (BeginsAs name) (start_connect_in name socket a s)
unfolding bind
begun_as name socket a (state.Default side) = given_then (BeginsAs name) (λ b. connect_start name side b.1 a b.0) (λ b. by_test b (is_connectable b.1 a)) (bound_asks name socket)
  where
    by_test : (b : Bool × Socket) (able : Bool) → BeginsAs name (if able then (Ok tt, with_state b.1 (state.Connecting (connect_operation (record { op = name; side = side; maker = b.1.maker }) (wildcard b.1.family) a (connect_first b.0)))) else (Err InvalidArgument, b.1))
    by_test b true = refl
    by_test b false = tt
begun_as name socket a _ = tt

ended_as : (name : OpId) (op : Operation) → op.who.id ≡ name → (ended : End × List Item) → WaitsIn name (connect_ended op.who ended)
ended_as name op e (Waits, left) = e
ended_as name op e (Done given, left) = tt
ended_as name op e (Refused c given, left) = tt

finished_as : (name : OpId) (s : TcpState) → ConnectsAs name s → Given (WaitsIn name) (finish_in s)
finished_as name (state.Connecting op) e = given_then (WaitsIn name) (connect_ended op.who) (ended_as name op e) (poll_asks op)
finished_as name (state.Default side) e = absurd e
finished_as name (state.Listening side) e = absurd e
finished_as name (state.Connected c) e = absurd e
finished_as name (state.Closed c) e = absurd e

socket_as : (name : OpId) (socket : Socket) (done : Answered × TcpState) → WaitsIn name done → WaitsAt name (in_socket socket done)
socket_as name socket (Ok Pending, s) w = w
socket_as name socket (Ok (Ready d), s) w = tt
socket_as name socket (Err c, s) w = tt

record_as : (name : OpId) (r : TcpRecord) (done : Answered × Socket) → WaitsAt name done → WaitsAs name (inner_answered r done)
record_as name r (Ok Pending, socket) w = w
record_as name r (Ok (Ready d), socket) w = tt
record_as name r (Err c, socket) w = tt

reconnected_as : (name : OpId) (r : TcpRecord) → ConnectsAs name r.inner.state → Given (WaitsAs name) (reconnects r)
reconnected_as name r e =
    given_along (WaitsAt name) (WaitsAs name) (finish_connect_asks r.inner) _
    (given_along (WaitsIn name) (WaitsAt name) (finish_in r.inner.state) _ (finished_as name r.inner.state e) (socket_as name r.inner)) (record_as name r)

connected_as : (name : OpId) (a : IpSocketAddress) (r : TcpRecord) → Given (WaitsAs name) (connects name a r)
connected_as name a r = given_along (BeginsAs name) (WaitsAs name) (start_connect_asks name r.inner a) (connect_begun r) (begun_as name r.inner a r.inner.state) begun
  where
    begun : (done : Result (Unit {0}) ErrorCode × Socket) → BeginsAs name done → Given (WaitsAs name) (connect_begun r done)
    begun (Ok d, socket) e = reconnected_as name (with_inner r socket) e
    begun (Err c, socket) e = tt

-- what a connect leaves of the records, where it is pending: that of its socket is connecting
abbrev HoldsAs : OpId → ℕ → Result (Answer (Unit {0})) BaseStop × Records → Type 0
HoldsAs name place (Ok Pending, store) = IsSomeAnd (tcp2_at store.records place) (λ r. ConnectsAs name r.inner.state)
HoldsAs name place _ = ⊤

abbrev pending_in : Records → Result (Answer (Unit {0})) BaseStop × Records
pending_in store = (Ok Pending, store)

held_as : (line place : ℕ) (a : IpSocketAddress) (store : Records) → Given (HoldsAs (own_of line) place) (connect_in line place a store)
held_as line place a store = by_record (tcp2_at store.records place) refl
  where
    name : OpId
    name = own_of line

    kept : (r : TcpRecord) → tcp2_at store.records place ≡ Some r → (done : Answered × TcpRecord) → WaitsAs name done → Given (HoldsAs name place) (after_call Code (λ s now. with_socket s place now) gives_all store done)
    kept r g (Ok Pending, now) w = subst (λ (o : Option TcpRecord). IsSomeAnd o (λ x. ConnectsAs name x.inner.state)) (sym (put_finds tcp_sort store.records place r now g)) w
    kept r g (Ok (Ready d), now) w = tt
    kept r g (Err c, now) w = tt

    by_test : (r : TcpRecord) → tcp2_at store.records place ≡ Some r → (idle : Bool)
        → Given (HoldsAs name place) (if idle then last (Call Code (λ s. r) (λ s now. with_socket s place now) (connects name a)) store else Give (Err (Code InvalidState), store))
    by_test r g true = given_along (WaitsAs name) (HoldsAs name place) (connects name a r) _ (connected_as name a r) (kept r g)
    by_test r g false = tt

    by_record : (o : Option TcpRecord) → tcp2_at store.records place ≡ o
        → Given (HoldsAs name place) (or_trap (λ r. need (is_nothing r.in_progress) (Code InvalidState) >> last (Call Code (λ s. r) (λ s now. with_socket s place now) (connects name a))) store o)
    by_record None g = tt
    by_record (Some r) g = by_test r g (is_nothing r.in_progress)

module _ {contexts : List WasiSocketsCtx} {line : ℕ} {origin : Step} {law : Law contexts line origin} where
  -- == one begins
  connects_walks : {h : Here} {place : ℕ} (here : HasRecord h place) → h.at ≡ Some (place, line) → (r : TcpRecord) (a : IpSocketAddress) → IsConnectTo a origin → is_nothing r.in_progress ≡ true → h.own ≡ Unused
      → Walks law (put h place r) (λ done. record (put h place done.1) { own = Used }) (connects (own_of line) a r)
  connects_walks {h} {place} here at r a to idle free = and_then (start_connect_walks here at r a r.inner.state refl to idle free) begun
    where
      begun : (done : Result (Unit {0}) ErrorCode × Socket) → Walks law (Spent h place r done) (λ d. record (put h place d.1) { own = Used }) (connect_begun r done)
      begun (Ok d, socket) = and_then (finish_walks (spent here) (with_inner r socket)) (λ done. give _)
      begun (Err c, socket) = give _

  connect_in_walks : (m : Machine) (place : ℕ) (a : IpSocketAddress) → IsConnectTo a origin → Walks law (At line m place Unused) (Put line m place) (connect_in line place a m.store)
  connect_in_walks m place a to =
      look (λ r. need (is_nothing r.in_progress) (Code InvalidState) >> last (Call Code (λ s. r) (λ s now. with_socket s place now) (connects (own_of line) a))) (tcp2_at m.store.records place) (gives _ (Spends _ refl))
      (λ r g. by_if (is_nothing r.in_progress)
      (λ idle. from (put_same (At line m place Unused) place r g) (call _ (connects_walks (there g) refl r a to idle refl) (λ e t. give _) (λ d t. give _)))
      (λ other. gives _ (Spends _ refl)))

  connect_of_walks : (m : Machine) (a : IpSocketAddress) → IsConnectTo a origin → (place : ℕ) → Walks law (At line m place Unused) (Put line m place) (connect_of line place a m.store)
  connect_of_walks m a to place = and_given (HoldsAs (own_of line) place) (held_as line place a m.store) (connect_in_walks m place a to) stands
    where
      by_state : (store : Records) (r : TcpRecord) → tcp2_at store.records place ≡ Some r → (s : TcpState) → r.inner.state ≡ s → ConnectsAs (own_of line) s → Walks law (Put line m place (pending_in store)) (Put line m place) (Give (besided (beside_as line (Connect place)) (pending_in store)))
      by_state store r g (state.Connecting op) e its = gives _ (StandsBeside _ place r op refl g e its)
      by_state store r g (state.Default side) e its = absurd its
      by_state store r g (state.Listening side) e its = absurd its
      by_state store r g (state.Connected c) e its = absurd its
      by_state store r g (state.Closed c) e its = absurd its

      by_record : (store : Records) (o : Option TcpRecord) → tcp2_at store.records place ≡ o → IsSomeAnd o (λ r. ConnectsAs (own_of line) r.inner.state) → Walks law (Put line m place (pending_in store)) (Put line m place) (Give (besided (beside_as line (Connect place)) (pending_in store)))
      by_record store None g its = absurd its
      by_record store (Some r) g its = by_state store r g r.inner.state refl its

      stands : (done : Result (Answer (Unit {0})) BaseStop × Records) → HoldsAs (own_of line) place done → Walks law (Put line m place done) (Put line m place) (Give (besided (beside_as line (Connect place)) done))
      stands (Ok Pending, store) its = by_record store (tcp2_at store.records place) refl its
      stands (Ok (Ready d), store) its = give _
      stands (Err stop, store) its = give _

  pub p3_connect_walks : (m : Machine) (s : ℕ) (a : IpSocketAddress) → Has (handles_of origin) s → IsConnectTo a origin → Walks law (Starts m Unused) OverWith (connect_to line s a m)
  p3_connect_walks m s a named to = on_named (renamed p3_of_code) m (tcp3_at m s) (λ place e. Reaches _ s place named (tcp3_record (kind_at m.table s) place e)) (λ place. connect_of line place a) (connect_of_walks m a to)

  -- == one that was pending is polled where it stands, and is over where it isn't pending any more
  reconnects_walks : {h : Here} {place : ℕ} (here : HasRecord h place) (r : TcpRecord) → Walks law (put h place r) (λ done. put h place done.1) (reconnects r)
  reconnects_walks here r = and_then (finish_walks here r) (λ done. give _)

  reconnect_in_walks : (m : Machine) (place : ℕ) → Walks law (Over m) (λ done. Over (record m { store = done.1 })) (reconnect_in place m.store)
  reconnect_in_walks m place =
      look (λ r. last (Call Code (λ s. r) (λ s now. with_socket s place now) reconnects)) (tcp2_at m.store.records place) (give _)
      (λ r g. from (put_same (Over m) place r g) (call _ (reconnects_walks (there {h = Over m} g) r) (λ e t. give _) (λ d t. give _)))

  pub reconnect_walks : (m : Machine) (n place : ℕ) → Walks law (Over m) (λ done. Over (record m { store = done.1 })) (reconnect_of n place m.store)
  reconnect_walks m n place = and_then (reconnect_in_walks m place) polled
    where
      polled : (done : Result (Answer (Unit {0})) BaseStop × Records) → Walks law (Over (record m { store = done.1 })) (λ now. Over (record m { store = now.1 })) (Give (beside_polled n done))
      polled (Ok Pending, store) = give _
      polled (Ok (Ready d), store) = gives _ (EndsBeside _ n)
      polled (Err stop, store) = gives _ (EndsBeside _ n)
