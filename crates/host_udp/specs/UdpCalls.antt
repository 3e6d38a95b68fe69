-- The calls on the UDP socket of a number: what each asks, what it answers, and the records afterwards.
use Rattle.std.specs.Prelude.{ℕ, Bool, true, false, Option, Some, None, Result, Ok, Err}
use Rattle.wasi_addr.specs.declared.address.IpSocketAddress.{IpSocketAddress}
use Rattle.wasi_addr.specs.declared.address.SocketAddressFamily.{SocketAddressFamily}
use Rattle.wasi_addr.specs.declared.code.ErrorCode.{ErrorCode}
use Rattle.wasi_addr.specs.declared.p2.ErrorCode.TheVariants.{ConcurrencyConflict, InvalidState, NotInProgress}
use Rattle.wasi_world.specs.declared.ids.OpId.{OpId}
use Rattle.wasi_world.specs.declared.ids.Ids.{Ids}
use Rattle.wasi_world.specs.declared.call.Opt.{Opt}
use Rattle.wasi_world.specs.declared.outcome.Answer.{Answer}
use Rattle.wasi_world.specs.declared.outcome.TrapKind.TheVariants.{NoSuchHandle}
use Rattle.wasi_world.specs.Asks.{Asks, Give, bind}
use Rattle.wasi_udp.specs.Socket.{remote_of}
use Rattle.wasi_udp.specs.Options.{get_option_asks, set_option_asks}
use Rattle.host_store.specs.declared.kind.Interface.TheVariants.{P2}
use Rattle.host_store.specs.declared.store.StandingCall.{StandingCall}
use Rattle.host_store.specs.declared.store.StandingCall.TheVariants.{UdpBind}
use Rattle.udp_records.specs.declared.udp.OpenUdp.{OpenUdp}
use Rattle.udp_records.specs.declared.udp.UdpRecord.{UdpRecord}
use Rattle.udp_records.specs.declared.udp.UdpRecord.TheVariants.{Creating, Open, Closed}
use Rattle.udp_records.specs.declared.udp.UdpInProgress.TheVariants.{Nothing}
use Rattle.udp_records.specs.Datagrams.{has_streams}
use Rattle.host_store.specs.GivingBack.{given_back}
use Rattle.record_common.specs.Stops.{Stop, Code, Trap, code_stop}
use Rattle.record_common.specs.Names.{own_of}
use Rattle.host_store.specs.Store.{code_told, Records, with_udp, with_open_udp}
use Rattle.host_store.specs.Standing.{allowed_answer, call_place, stood}
use Rattle.udp_records.specs.Udp.{with_udp_progress, is_udp_idle, is_udp_bound, begin_udp_bind_asks, udp_local_asks, close_udp_asks}

-- one whose network socket is closed is given back
abbrev pub udp_left : Records → ℕ → UdpRecord → Records
udp_left store place (Closed side) = given_back place (with_udp store place (Closed side))
udp_left store place (Creating create) = with_udp store place (Creating create)
udp_left store place (Open o) = with_udp store place (Open o)

-- what a call on a socket answered, and the records afterwards
abbrev pub udp_put_back : {T : Type 0} → Records → ℕ → Result T ErrorCode × OpenUdp → Result T Stop × Records
udp_put_back store place (Ok value, o) = (Ok value, with_open_udp store place o)
udp_put_back store place (Err c, o) = (Err (code_stop c), with_open_udp store place o)

-- the same of a call that may be pending: it is kept under its line's number
abbrev pub udp_call_answered : Records → Ids → StandingCall → Result (Answer (Unit {0})) ErrorCode × OpenUdp → Result (Answer (Unit {0})) Stop × Records
udp_call_answered store ids call (Ok answer, o) = allowed_answer (stood (with_open_udp store (call_place call) o) ids call answer)
udp_call_answered store ids call (Err c, o) = (Err (code_stop c), with_open_udp store (call_place call) o)

-- == a bind
abbrev pub start_udp_bind_unless : Records → Ids → ℕ → IpSocketAddress → OpenUdp → Bool → Asks (Result (Answer (Unit {0})) Stop × Records)
start_udp_bind_unless store ids place a o true = Give (Err (Code InvalidState), store)
start_udp_bind_unless store ids place a o false = bind (begin_udp_bind_asks (own_of ids.line) o a) (λ begun. Give (udp_call_answered store ids (UdpBind place P2) begun))

abbrev pub start_udp_bind_by : Records → Ids → ℕ → IpSocketAddress → OpenUdp → Bool → Asks (Result (Answer (Unit {0})) Stop × Records)
start_udp_bind_by store ids place a o true = start_udp_bind_unless store ids place a o (has_streams o)
start_udp_bind_by store ids place a o false = Give (Err (Code ConcurrencyConflict), store)

-- with an operation in progress it is refused, and while a stream of it is live
abbrev pub start_udp_bind_at : Records → Ids → ℕ → IpSocketAddress → Option OpenUdp → Asks (Result (Answer (Unit {0})) Stop × Records)
start_udp_bind_at store ids place a None = Give (Err (Trap NoSuchHandle), store)
start_udp_bind_at store ids place a (Some o) = start_udp_bind_by store ids place a o (is_udp_idle o.in_progress)

-- only what was started is finished
abbrev pub finish_udp_bind_by : Records → ℕ → OpenUdp → Bool → Result (Unit {0}) Stop × Records
finish_udp_bind_by store place o true = (Ok tt, with_open_udp store place (with_udp_progress o Nothing))
finish_udp_bind_by store place o false = (Err (Code NotInProgress), store)

abbrev pub finish_udp_bind_at : Records → ℕ → Option OpenUdp → Result (Unit {0}) Stop × Records
finish_udp_bind_at store place None = (Err (Trap NoSuchHandle), store)
finish_udp_bind_at store place (Some o) = finish_udp_bind_by store place o (is_udp_bound o.in_progress)

-- == what a socket says of itself
abbrev pub udp_local_at : Records → OpId → ℕ → Option OpenUdp → Asks (Result IpSocketAddress Stop × Records)
udp_local_at store op place None = Give (Err (Trap NoSuchHandle), store)
udp_local_at store op place (Some o) = bind (udp_local_asks op o) (λ done. Give (udp_put_back store place done))

-- the remote address that is kept; nothing is asked
abbrev pub udp_remote_at : Option OpenUdp → Result IpSocketAddress Stop
udp_remote_at None = Err (Trap NoSuchHandle)
udp_remote_at (Some o) = code_told (remote_of o.inner.remote)

abbrev pub udp_family_at : Option OpenUdp → Result SocketAddressFamily Stop
udp_family_at None = Err (Trap NoSuchHandle)
udp_family_at (Some o) = Ok o.inner.family

-- == its options; the records stay as they were
abbrev pub get_udp_option_at : Records → OpId → Opt → Option OpenUdp → Asks (Result ℕ Stop × Records)
get_udp_option_at store op option None = Give (Err (Trap NoSuchHandle), store)
get_udp_option_at store op option (Some o) = bind (get_option_asks op o.inner option) (λ told. Give (code_told told, store))

abbrev pub set_udp_option_at : Records → OpId → Opt → ℕ → Option OpenUdp → Asks (Result (Unit {0}) Stop × Records)
set_udp_option_at store op option value None = Give (Err (Trap NoSuchHandle), store)
set_udp_option_at store op option value (Some o) = bind (set_option_asks op o.inner option value) (λ told. Give (code_told told, store))

-- == its end
abbrev pub udp_closed : Records → ℕ → Unit {0} × UdpRecord → Unit {0} × Records
udp_closed store place done = (tt, udp_left store place done.1)

abbrev pub release_udp_at : Records → OpId → ℕ → Option UdpRecord → Asks (Unit {0} × Records)
release_udp_at store op place None = Give (tt, store)
release_udp_at store op place (Some u) = bind (close_udp_asks op u) (λ done. Give (udp_closed store place done))
