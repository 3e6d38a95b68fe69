-- Binds of 0.3, and binds of either interface that were pending, as moves.
use Rattle.std.specs.Prelude.{◌≡◌, ⊤, ℕ, List, Some, Result, Ok, Err, refl}
use Rattle.std.proofs.Common.{inl, inr, sym}
use Rattle.wasi_addr.specs.declared.address.IpSocketAddress.{IpSocketAddress}
use Rattle.wasi_addr.specs.Code.{p3_of_code}
use Rattle.wasi_world.specs.declared.ids.Ids.{Ids}
use Rattle.wasi_world.specs.declared.outcome.Answer.{Answer}
use Rattle.wasi_world.specs.declared.outcome.Answer.TheVariants.{Ready, Pending}
use Rattle.wasi_world.specs.declared.outcome.TrapKind.TheVariants.{NoSuchHandle}
use Rattle.wasi_world.specs.declared.outcome.WasiSocketsCtx.{WasiSocketsCtx}
use Rattle.wasi_world.specs.Asks.{Asks, Give}
use Rattle.tcp_records.specs.declared.socket.TcpRecord.{TcpRecord}
use Rattle.udp_records.specs.declared.udp.OpenUdp.{OpenUdp}
use Rattle.udp_records.specs.declared.udp.UdpInProgress.TheVariants as udp
use Rattle.udp_records.specs.declared.udp.UdpRecord.TheVariants.{Open}
use Rattle.tcp_records.specs.Binding.{begin_bind_asks, poll_bind_asks}
use Rattle.record_common.specs.Names.{own_of}
use Rattle.wasi_records.specs.Records.{open_at, tcp2_at}
use Rattle.record_common.specs.Stops.{Code, Trap}
use Rattle.udp_records.specs.Udp.{begin_udp_bind_asks, poll_udp_bind_asks, with_udp_progress}
use Rattle.host_store.specs.declared.kind.Interface.{Interface}
use Rattle.host_store.specs.declared.kind.Interface.TheVariants.{P2, P3}
use Rattle.host_store.specs.declared.machine.Machine.{Machine}
use Rattle.host_store.specs.declared.store.StandingCall.{StandingCall}
use Rattle.host_store.specs.declared.store.StandingCall.TheVariants.{Bind, UdpBind}
use Rattle.host_store.specs.BaseStops.{BaseStop, renamed}
use Rattle.host_store.specs.Lines.{Answered, keeps}
use Rattle.host_tcp.specs.Binds.{bind_told, binds, rebind_of, rebinds, stands_of}
use Rattle.host_udp.specs.UdpBinds.{udp_bind_told, udp_binds, udp_rebind_of, udp_rebinds, udp_stands_of}
use Rattle.host_tcp.specs.Binds.{bind_of}
use Rattle.host_udp.specs.UdpBinds.{udp_bind_of}
use Rattle.host_store.specs.Block.{Call, goes_on}
use Rattle.host_store.specs.Kinds.{kind_at}
use Rattle.host_store.specs.Machine.{tcp3_at, udp3_at}
use Rattle.host_store.specs.Standing.{call_place}
use Rattle.host_store.specs.Store.{with_socket}
use Rattle.host_store.specs.Store.{with_open_udp}
use Rattle.wasi_p3.specs.Tcp.{bind_to}
use Rattle.wasi_p3.specs.Udp.{bind_to as udp_bind_to}
use Rattle.wasi_machine.specs.Machine.{first_ids}
use Rattle.wasi_steps.specs.declared.step.Step.{Step}
use Rattle.wasi_steps.specs.Steps.{handles_of}
use Rattle.wasi_walks.specs.Licence.{Has, IsBindTo, IsUdpBindTo}
use Rattle.wasi_walks.proofs.walks.Moves.{Changes, FoundUdp, Here, NoStartStands, Own, Reaches, ReachesUdp, Spends, Stands, StandsUdpBind, StreamStays, UdpChanges, Unused, Used, put, put_udp}
use Rattle.wasi_walks.proofs.walks.Law.{Given, HasRecord, Law, Walks, found, from, give, given_along, gives, and_given, move, on, put_same}
use Rattle.wasi_walks.proofs.walks.Lines.{call_given, look}
use Rattle.wasi_walks.proofs.walks.SocketSteps.{on_named}
use Rattle.wasi_walks.proofs.walks.Sockets.{BindsSo, WaitsSo, begin_bind_walks, begun_bind_given, idled, poll_bind_walks, polled_given}
use Rattle.wasi_walks.proofs.walks.States.{At, OverWith, Put, Starts, tcp3_record, there, udp3_record}
use Rattle.wasi_walks.proofs.walks.Udp.{WaitsUdp, begin_given, begin_udp_walks, opened, poll_given, udp_there}
use Rattle.wasi_walks.proofs.walks.Udp.{poll_bind_walks as poll_udp_walks}
use Rattle.wasi_walks.proofs.walks.UdpLaw.{HasUdp, udp_found, udp_put_put, udp_put_same}

-- one that waits is in progress
told_waits : (place : ℕ) (face : Interface) (done : Answered × TcpRecord) → BindsSo done → WaitsSo (Bind place face) (bind_told face done)
told_waits place P2 (Ok Pending, r) b = b
told_waits place P3 (Ok Pending, r) b = b
told_waits place P2 (Ok (Ready d), r) b = tt
told_waits place P3 (Ok (Ready d), r) b = tt
told_waits place face (Err c, r) b = tt

-- the same of a UDP socket
abbrev WaitsUdpSo : Answered × OpenUdp → Type 0
WaitsUdpSo (Ok Pending, o) = WaitsUdp (Ok Pending, o)
WaitsUdpSo _ = ⊤

udp_told_waits : (face : Interface) (done : Answered × OpenUdp) → WaitsUdp done → WaitsUdpSo (udp_bind_told face done)
udp_told_waits P2 (Ok Pending, o) w = w
udp_told_waits P3 (Ok Pending, o) w = w
udp_told_waits P2 (Ok (Ready d), o) w = tt
udp_told_waits P3 (Ok (Ready d), o) w = tt
udp_told_waits face (Err c, o) w = tt

module _ {contexts : List WasiSocketsCtx} {line : ℕ} {origin : Step} {law : Law contexts line origin} where
  -- == what a bind that is done leaves
  told_walks : {h : Here} {place : ℕ} (here : HasRecord h place) (face : Interface) (done : Answered × TcpRecord) → BindsSo done → Walks law (put h place done.1) (λ now. put h place now.1) (Give (bind_told face done))
  told_walks here P2 (Ok answer, r) b = give _
  told_walks here P3 (Ok Pending, r) b = give _
  told_walks here P3 (Ok (Ready d), r) b = on here r _ (Changes _ _ _ _ (found here r) (idled r b)) (give _)
  told_walks here face (Err c, r) b = give _

  -- a call on the record of a place that may be pending
  stands_walks : (m : Machine) (ids : Ids) (call : StandingCall) (own : Own) (asked : TcpRecord → Asks (Answered × TcpRecord)) → NoStartStands m.store.standing
      → Walks law (At ids.line m (call_place call) own) (Put {A = Result (Answer (Unit {0})) BaseStop} ids.line m (call_place call)) (Give (Err (Trap NoSuchHandle), m.store))
      → ((r : TcpRecord) → Given (WaitsSo call) (asked r))
      → ((r : TcpRecord) → HasRecord (At ids.line m (call_place call) own) (call_place call) → Walks law (put (At ids.line m (call_place call) own) (call_place call) r) (λ done. put (At ids.line m (call_place call) Used) (call_place call) done.1) (asked r))
      → Walks law (At ids.line m (call_place call) own) (Put ids.line m (call_place call)) (stands_of ids call asked m.store)
  stands_walks m ids call own asked q none given w =
      let place = call_place call in
      look (λ r. goes_on (Call Code (λ store. r) (λ store now. with_socket store place now) asked) (keeps ids call)) (tcp2_at m.store.records place) none
      (λ r g. from (put_same (At ids.line m place own) place r g)
      (call_given _ (WaitsSo call) (given r) (w r (there g)) (λ c now. give _) (kept r g)))
    where
      kept : (r : TcpRecord) → tcp2_at m.store.records (call_place call) ≡ Some r → (answer : Answer (Unit {0})) (now : TcpRecord) → WaitsSo call (Ok answer, now)
          → Walks law (put (At ids.line m (call_place call) Used) (call_place call) now) (Put ids.line m (call_place call)) (keeps ids call answer (with_socket m.store (call_place call) now))
      kept r g Pending now waits = gives _ (Stands _ ids call now q refl (found (there {h = At ids.line m (call_place call) Used} g) now) waits)
      kept r g (Ready done) now waits = give _

  pub rebind_walks : (m : Machine) (ids : Ids) → NoStartStands m.store.standing → (face : Interface) (place : ℕ) → Walks law (At ids.line m place Used) (Put ids.line m place) (rebind_of face ids place m.store)
  rebind_walks m ids q face place =
      stands_walks m ids (Bind place face) Used (rebinds face) q (give _)
      (λ r. given_along BindsSo (WaitsSo (Bind place face)) (poll_bind_asks r) _ (polled_given r r.in_progress) (told_waits place face))
      (λ r here. and_given BindsSo (polled_given r r.in_progress) (poll_bind_walks here q r) (told_walks here face))

  bind_of_walks : (m : Machine) (a : IpSocketAddress) → IsBindTo a origin → NoStartStands m.store.standing → (place : ℕ) → Walks law (At line m place Unused) (Put line m place) (bind_of (first_ids line) place a m.store)
  bind_of_walks m a to q place =
      stands_walks m (first_ids line) (Bind place P3) Unused (binds (own_of line) a) q (gives _ (Spends _ refl))
      (λ r. given_along BindsSo (WaitsSo (Bind place P3)) (begin_bind_asks (own_of line) r a) _ (begun_bind_given (own_of line) r a) (told_waits place P3))
      (λ r here. and_given BindsSo (begun_bind_given (own_of line) r a) (begin_bind_walks here refl a to refl q r) (told_walks (record { was = here.was; found = here.found }) P3))

  pub p3_bind_walks : (m : Machine) (s : ℕ) (a : IpSocketAddress) → Has (handles_of origin) s → IsBindTo a origin → NoStartStands m.store.standing → Walks law (Starts m Unused) OverWith (bind_to (first_ids line) s a m)
  p3_bind_walks m s a named to q = on_named (renamed p3_of_code) m (tcp3_at m s) (λ place e. Reaches _ s place named (tcp3_record (kind_at m.table s) place e)) (λ place. bind_of (first_ids line) place a) (bind_of_walks m a to q)

  -- == of a UDP socket: the same
  udp_told_walks : {h : Here} {place : ℕ} (here : HasUdp h place) (face : Interface) (done : Answered × OpenUdp) → WaitsUdp done → Walks law (put_udp h place (Open done.1)) (λ now. put_udp h place (Open now.1)) (Give (udp_bind_told face done))
  udp_told_walks here P2 (Ok answer, o) w = give _
  udp_told_walks here P3 (Ok Pending, o) w = give _
  udp_told_walks here P3 (Ok (Ready d), o) w =
      move (UdpChanges _ _ o (with_udp_progress o udp.Nothing) (udp_found here (Open o)) (record { side = refl; maker = refl; family = refl; remote = refl; bound = λ b. b; binds = inr (w, tt); connects = refl; sends = inl refl; receives = inl refl; came = inl refl; dropped = refl }) (record { incoming = StreamStays _; makes = inl (λ some. some) })) (from (sym (udp_put_put _ _ _ _)) (give _))
  udp_told_walks here face (Err c, o) w = give _

  udp_stands_walks : (m : Machine) (ids : Ids) (place : ℕ) (face : Interface) (own : Own) (asked : OpenUdp → Asks (Answered × OpenUdp)) → NoStartStands m.store.standing
      → Walks law (At ids.line m place own) (Put {A = Result (Answer (Unit {0})) BaseStop} ids.line m place) (Give (Err (Trap NoSuchHandle), m.store))
      → ((o : OpenUdp) → Given WaitsUdpSo (asked o))
      → ((o : OpenUdp) → HasUdp (At ids.line m place own) place → Walks law (put_udp (At ids.line m place own) place (Open o)) (λ done. put_udp (At ids.line m place Used) place (Open done.1)) (asked o))
      → Walks law (At ids.line m place own) (Put ids.line m place) (udp_stands_of ids (UdpBind place face) asked m.store)
  udp_stands_walks m ids place face own asked q none given w =
      look (λ o. goes_on (Call Code (λ store. o) (λ store now. with_open_udp store place now) asked) (keeps ids (UdpBind place face))) (open_at m.store.records place) none
      (λ o e. let g = opened line m place o e in from (udp_put_same (At ids.line m place own) place (Open o) g)
      (call_given _ WaitsUdpSo (given o) (w o (udp_there g)) (λ c now. give _) (kept o g)))
    where
      kept : (o : OpenUdp) → FoundUdp (At ids.line m place own) place (Open o) → (answer : Answer (Unit {0})) (now : OpenUdp) → WaitsUdpSo (Ok answer, now)
          → Walks law (put_udp (At ids.line m place Used) place (Open now)) (Put ids.line m place) (keeps ids (UdpBind place face) answer (with_open_udp m.store place now))
      kept o g Pending now waits = gives _ (StandsUdpBind _ ids place face now waits.op q refl (udp_found (udp_there {h = At ids.line m place Used} g) (Open now)) waits.is)
      kept o g (Ready done) now waits = give _

  pub udp_rebind_walks : (m : Machine) (ids : Ids) → NoStartStands m.store.standing → (face : Interface) (place : ℕ) → Walks law (At ids.line m place Used) (Put ids.line m place) (udp_rebind_of face ids place m.store)
  udp_rebind_walks m ids q face place =
      udp_stands_walks m ids place face Used (udp_rebinds face) q (give _)
      (λ o. given_along WaitsUdp WaitsUdpSo (poll_udp_bind_asks o) _ (poll_given o o.in_progress) (udp_told_waits face))
      (λ o here. and_given WaitsUdp (poll_given o o.in_progress) (poll_udp_walks here q o) (udp_told_walks here face))

  udp_bind_of_walks : (m : Machine) (a : IpSocketAddress) → IsUdpBindTo a origin → NoStartStands m.store.standing → (place : ℕ) → Walks law (At line m place Unused) (Put line m place) (udp_bind_of (first_ids line) place a m.store)
  udp_bind_of_walks m a to q place =
      udp_stands_walks m (first_ids line) place P3 Unused (udp_binds (own_of line) a) q (gives _ (Spends _ refl))
      (λ o. given_along WaitsUdp WaitsUdpSo (begin_udp_bind_asks (own_of line) o a) _ (begin_given (own_of line) o a) (udp_told_waits P3))
      (λ o here. and_given WaitsUdp (begin_given (own_of line) o a) (begin_udp_walks here refl refl q a to o) (udp_told_walks (record { was = here.was; at = here.at }) P3))

  pub p3_udp_bind_walks : (m : Machine) (s : ℕ) (a : IpSocketAddress) → Has (handles_of origin) s → IsUdpBindTo a origin → NoStartStands m.store.standing → Walks law (Starts m Unused) OverWith (udp_bind_to (first_ids line) s a m)
  p3_udp_bind_walks m s a named to q = on_named (renamed p3_of_code) m (udp3_at m s) (λ place e. ReachesUdp _ s place named (udp3_record (kind_at m.table s) place e)) (λ place. udp_bind_of (first_ids line) place a) (udp_bind_of_walks m a to q)
