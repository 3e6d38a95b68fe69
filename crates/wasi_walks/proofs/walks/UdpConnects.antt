-- Connects of UDP sockets of 0.3, as moves.
use Rattle.std.specs.Prelude.{◌≡◌, ⊤, ℕ, Bool, true, false, if◌then◌else◌, not, Option, Some, None, Result, Ok, Err}
use Rattle.wasi_addr.specs.declared.address.IpSocketAddress.{IpSocketAddress}
use Rattle.wasi_addr.specs.declared.code.ErrorCode.TheVariants.{InvalidState}
use Rattle.wasi_addr.specs.Code.{p3_of_code}
use Rattle.wasi_walks.proofs.Words.{Answer, Done, End, ErrorCode, Give, Has, InvalidArgument, Item, Machine, Operation, Pending, Ready, Refused, Step, Waits, WasiSocketsCtx, List}
use Rattle.wasi_walks.proofs.Words.{ap, bind, inl, inr, kind_at, left_of, own_of, poll_asks, refl, subst, sym}
use Rattle.wasi_machine.specs.Machine.{first_ids}
use Rattle.wasi_world.specs.declared.ids.Ids.{Ids}
use Rattle.wasi_world.specs.declared.ids.OpId.{OpId}
use Rattle.wasi_udp.specs.Connect.{connect_asks, connect_start, is_connectable}
use Rattle.wasi_udp.specs.Shape.{Socket}
use Rattle.wasi_udp.specs.Socket.{bound_asks}
use Rattle.udp_records.specs.declared.udp.OpenUdp.{OpenUdp}
use Rattle.udp_records.specs.declared.udp.UdpRecord.TheVariants.{Open}
use Rattle.udp_records.specs.Datagrams.{has_streams, udp_alone_begun, udp_connect_asks, udp_reconnect_asks, udp_reconnect_ended, udp_reconnect_left, udp_reconnecting}
use Rattle.wasi_records.specs.Records.{open_at}
use Rattle.record_common.specs.Stops.{Code}
use Rattle.udp_records.specs.Udp.{with_udp_inner}
use Rattle.host_store.specs.declared.store.StandingCall.TheVariants.{UdpConnect3}
use Rattle.host_store.specs.BaseStops.{renamed}
use Rattle.host_store.specs.Lines.{Answered, keeps}
use Rattle.host_store.specs.Block.{Call, goes_on, or_trap, need, ◌>>=◌, ◌>>◌}
use Rattle.host_store.specs.Machine.{udp3_at}
use Rattle.host_store.specs.Store.{with_open_udp}
use Rattle.host_udp.specs.UdpConnects.{udp_connect_of, udp_reconnect_of}
use Rattle.wasi_p3.specs.Udp.{connect_to}
use Rattle.wasi_steps.specs.Steps.{handles_of}
use Rattle.wasi_walks.specs.Licence.{IsUdpConnectTo}
use Rattle.wasi_walks.proofs.walks.Here.{no_open}
use Rattle.wasi_walks.proofs.walks.Moves.{BeginsUdpConnect, EndsConnect, FoundUdp, Here, NoStart, NoStartStands, ReachesUdp, Spends, StandsConnect, ToConnect, Unused, Used, put_udp}
use Rattle.wasi_walks.proofs.walks.Datagrams.{Ends, Going, HasUdpConnect, KeepsBound, bound_given, goes}
use Rattle.wasi_walks.proofs.walks.Law.{Given, Law, Walks, and_given, and_then, by_if, from, give, given_along, given_on, given_then, gives, move}
use Rattle.wasi_walks.proofs.walks.Lines.{call_given, look}
use Rattle.wasi_walks.proofs.walks.SocketSteps.{on_named}
use Rattle.wasi_walks.proofs.walks.States.{At, OverWith, Put, udp3_record}
use Rattle.wasi_walks.proofs.walks.States as states
use Rattle.wasi_walks.proofs.walks.Udp.{bound_walks, opened, udp_there}
use Rattle.wasi_walks.proofs.walks.UdpLaw.{HasUdp, over_at, poll_reconnect_walks, udp_found, udp_put_put, udp_put_same}

-- one that waits is in progress
abbrev WaitsAlone : Answered × OpenUdp → Type 0
WaitsAlone (Ok Pending, o) = HasUdpConnect o.connecting
WaitsAlone _ = ⊤

again_given : (o : OpenUdp) (connecting : Option Operation) → Given WaitsAlone (udp_reconnecting o connecting)
again_given o None = tt
again_given o (Some op) = given_then WaitsAlone (udp_reconnect_ended op o) ended (poll_asks op)
  where
    ended : (e : End × List Item) → WaitsAlone (udp_reconnect_ended op o e)
    ended (Waits, items) = record { op = left_of op items; is = refl }
    ended (Done given, items) = tt
    ended (Refused c given, items) = tt

begun_given : (o : OpenUdp) (begun : Result Operation ErrorCode × Socket) → Given WaitsAlone (udp_alone_begun o begun)
begun_given o (Ok op, socket) = again_given (record o { inner = socket; connecting = Some op }) (Some op)
begun_given o (Err c, socket) = tt

-- A connect that begins knows whether its socket is bound.
record StartsSo (own : OpId) (a : IpSocketAddress) (op : Operation) (socket : Socket) : Type 0 where
  pub bound : Bool
  pub is : op ≡ connect_start own socket a bound
  pub known : bound ≡ true → socket.bound ≡ true

abbrev Starts : OpId → IpSocketAddress → Result Operation ErrorCode × Socket → Type 0
Starts own a (Ok op, socket) = StartsSo own a op socket
Starts own a (Err c, socket) = ⊤

starts_given : (own : OpId) (socket : Socket) (a : IpSocketAddress) → Given (Starts own a) (connect_asks own socket a)
starts_given own socket a = by_test (is_connectable socket a)
  where
    by_test : (b : Bool) → Given (Starts own a) (if b then bind (bound_asks own socket) (λ b. Give (Ok (connect_start own b.1 a b.0), b.1)) else Give (Err InvalidArgument, socket))
    by_test false = tt
    by_test true = given_along KeepsBound (Starts own a) (bound_asks own socket) _ (bound_given own socket) (λ b k. record { bound = b.0; is = refl; known = k })

module _ {contexts : List WasiSocketsCtx} {line : ℕ} {origin : Step} {law : Law contexts line origin} where
  -- == one that was begun is polled, by the line that it goes on by
  module _ {h : Here} {place : ℕ} (here : HasUdp h place) (quiet : NoStart h) where
    ended_walks : (op : Operation) (o : OpenUdp) (ended : End × List Item) → Walks law (put_udp (Going h place) place (Open (udp_reconnect_left op o ended))) (Ends h place) (Give (udp_reconnect_ended op o ended))
    ended_walks op o (Waits, items) = give _
    ended_walks op o (Done given, items) = gives _ (EndsConnect _ place refl (inl (over_at (goes here) (udp_reconnect_left op o (Done given, items)) refl)))
    ended_walks op o (Refused c given, items) = gives _ (EndsConnect _ place refl (inl (over_at (goes here) (udp_reconnect_left op o (Refused c given, items)) refl)))

    polled_by : (o : OpenUdp) (connecting : Option Operation) → o.connecting ≡ connecting → Walks law (put_udp (Going h place) place (Open o)) (Ends h place) (udp_reconnecting o connecting)
    polled_by o None e = gives _ (EndsConnect _ place refl (inl (over_at (goes here) o e)))
    polled_by o (Some op) e = and_then (poll_reconnect_walks (goes here) o op quiet e) (ended_walks op o)

  -- == it begins, where it is known whether the socket is bound
  module _ {h : Here} {place : ℕ} (here : HasUdp h place) (at : h.at ≡ Some (place, line)) (free : h.own ≡ Unused) (quiet : NoStart h) (a : IpSocketAddress) (to : IsUdpConnectTo a origin) where
    where_walks : (o : OpenUdp) (bound : Bool) → (bound ≡ true → o.inner.bound ≡ true) → has_streams o ≡ false → Walks law (put_udp h place (Open o)) (Ends h place) (udp_alone_begun o (Ok (connect_start (own_of line) o.inner a bound), o.inner))
    where_walks o bound k none =
        let op : Operation = connect_start (own_of line) o.inner a bound in
        let now : OpenUdp = record o { connecting = Some op } in
        move (BeginsUdpConnect _ place o a bound at (udp_found here (Open o)) to k none free)
        (from (ap (λ (x : Here). record x { own = ToConnect place }) (sym (udp_put_put h place (Open o) (Open now)))) (polled_by here quiet now (Some op) refl))

    -- the test of its address, and whether it is bound
    tests_walks : (o : OpenUdp) → Walks law (put_udp h place (Open o)) (λ begun. put_udp h place (Open (with_udp_inner o begun.1))) (connect_asks (own_of line) o.inner a)
    tests_walks o = by_if (is_connectable o.inner a) (λ yes. and_then (bound_walks here at o) (λ b. give _)) (λ no. give _)

    begun_walks : (o : OpenUdp) → has_streams o ≡ false → (begun : Result Operation ErrorCode × Socket) → Starts (own_of line) a begun → Walks law (put_udp h place (Open (with_udp_inner o begun.1))) (Ends h place) (udp_alone_begun o begun)
    begun_walks o none (Err c, socket) s = gives _ (Spends _ free)
    begun_walks o none (Ok op, socket) s = subst (λ (x : Operation). Walks law (put_udp h place (Open (with_udp_inner o socket))) (Ends h place) (udp_alone_begun o (Ok x, socket))) (sym s.is) (where_walks (with_udp_inner o socket) s.bound s.known none)

    begin_walks : (o : OpenUdp) → has_streams o ≡ false → Walks law (put_udp h place (Open o)) (Ends h place) (udp_connect_asks (own_of line) o a)
    begin_walks o none = and_given (Starts (own_of line) a) (starts_given (own_of line) o.inner a) (tests_walks o) (begun_walks o none)

  -- == an answer: pending, the call stands
  answered_walks : (m : Machine) (ids : Ids) (place : ℕ) → NoStartStands m.store.standing → HasUdp (At ids.line m place Used) place → (answer : Answer (Unit {0})) (now : OpenUdp) → WaitsAlone (Ok answer, now)
      → Walks law (Ends (At ids.line m place Used) place (Ok answer, now)) (Put ids.line m place) (keeps ids (UdpConnect3 place) answer (with_open_udp m.store place now))
  answered_walks m ids place q here Pending now waits = move (StandsConnect _ ids place now waits.op q refl refl (udp_found here (Open now)) waits.is) (gives _ (EndsConnect _ place refl (inr refl)))
  answered_walks m ids place q here (Ready done) now waits = give _

  -- == on the records
  pub udp_reconnect_walks : (m : Machine) (ids : Ids) → NoStartStands m.store.standing → (place : ℕ) → Walks law (At ids.line m place (ToConnect place)) (Put ids.line m place) (udp_reconnect_of ids place m.store)
  udp_reconnect_walks m ids q place =
      by_record (open_at m.store.records place) refl
    where
      by_record : (found : Option OpenUdp) → open_at m.store.records place ≡ found
          → Walks law (At ids.line m place (ToConnect place)) (Put ids.line m place) (or_trap (λ o. goes_on (Call Code (λ store. o) (λ store now. with_open_udp store place now) udp_reconnect_asks) (keeps ids (UdpConnect3 place))) m.store found)
      by_record None e = gives _ (EndsConnect _ place refl (inl (no_open (At ids.line m place Used) place e)))
      by_record (Some o) e =
          let g : FoundUdp (At ids.line m place Used) place (Open o) = opened line m place o e in
          from (udp_put_same (At ids.line m place (ToConnect place)) place (Open o) g)
          (call_given _ WaitsAlone (again_given o o.connecting) (polled_by (udp_there {h = At ids.line m place Used} g) q o o.connecting refl) (λ c now. give _) (answered_walks m ids place q (udp_there {h = At ids.line m place Used} g)))

  connect_of_walks : (m : Machine) (a : IpSocketAddress) → IsUdpConnectTo a origin → NoStartStands m.store.standing → (place : ℕ) → Walks law (At line m place Unused) (Put line m place) (udp_connect_of (first_ids line) place a m.store)
  connect_of_walks m a to q place =
      look (λ o. need (not (has_streams o)) (Code InvalidState) >> (Call Code (λ store. o) (λ store now. with_open_udp store place now) (λ o. udp_connect_asks (own_of line) o a) >>= keeps (first_ids line) (UdpConnect3 place))) (open_at m.store.records place) (gives _ (Spends _ refl))
      (λ o e. let g = opened line m place o e in by_streams o g (has_streams o) refl)
    where
      by_streams : (o : OpenUdp) → FoundUdp (At line m place Unused) place (Open o) → (live : Bool) → has_streams o ≡ live → Walks law (At line m place Unused) (Put line m place) (if not live then goes_on (Call Code (λ store. o) (λ store now. with_open_udp store place now) (λ o. udp_connect_asks (own_of line) o a)) (keeps (first_ids line) (UdpConnect3 place)) m.store else Give (Err (Code InvalidState), m.store))
      by_streams o g true e = gives _ (Spends _ refl)
      by_streams o g false e =
          from (udp_put_same (At line m place Unused) place (Open o) g)
          (call_given _ WaitsAlone (given_on WaitsAlone (udp_alone_begun o) (begun_given o) (connect_asks (own_of line) o.inner a)) (begin_walks (udp_there g) refl refl q a to o e) (λ c now. give _) (answered_walks m (first_ids line) place q (udp_there {h = At line m place Used} g)))

  pub p3_udp_connect_walks : (m : Machine) (s : ℕ) (a : IpSocketAddress) → Has (handles_of origin) s → IsUdpConnectTo a origin → NoStartStands m.store.standing → Walks law (states.Starts m Unused) OverWith (connect_to (first_ids line) s a m)
  p3_udp_connect_walks m s a named to q = on_named (renamed p3_of_code) m (udp3_at m s) (λ place e. ReachesUdp _ s place named (udp3_record (kind_at m.table s) place e)) (λ place. udp_connect_of (first_ids line) place a) (connect_of_walks m a to q)
