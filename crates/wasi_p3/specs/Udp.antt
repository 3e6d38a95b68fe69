-- The 0.3 calls of UDP sockets: what each asks, returns and leaves.
use Rattle.std.specs.Prelude.{ℕ, Result, Ok}
use Rattle.wasi_addr.specs.declared.address.IpSocketAddress.{IpSocketAddress}
use Rattle.wasi_addr.specs.declared.address.SocketAddressFamily.{SocketAddressFamily}
use Rattle.wasi_addr.specs.declared.code.ErrorCode.{ErrorCode}
use Rattle.wasi_addr.specs.declared.p3.ErrorCode.{ErrorCode as P3Code}
use Rattle.wasi_addr.specs.Code.{p3_of_code}
use Rattle.wasi_world.specs.declared.call.Opt.{Opt}
use Rattle.wasi_world.specs.declared.datagram.IncomingDatagram.{IncomingDatagram}
use Rattle.wasi_world.specs.declared.datagram.OutgoingDatagram.{OutgoingDatagram}
use Rattle.wasi_world.specs.declared.ids.Ids.{Ids}
use Rattle.wasi_world.specs.declared.ids.OpId.{OpId}
use Rattle.wasi_world.specs.declared.outcome.Answer.{Answer}
use Rattle.wasi_world.specs.declared.outcome.WasiSocketsCtx.{WasiSocketsCtx}
use Rattle.wasi_world.specs.Asks.{Asks, Give, bind}
use Rattle.wasi_udp.specs.Shape.{Socket}
use Rattle.wasi_udp.specs.Options.{get_option_asks, set_option_asks}
use Rattle.wasi_udp.specs.Socket.{disconnect_asks, remote_of}
use Rattle.udp_records.specs.declared.udp.OpenUdp.{OpenUdp}
use Rattle.udp_records.specs.Udp.{udp_local_asks, with_udp_inner}
use Rattle.host_store.specs.declared.kind.Interface.TheVariants.{P3}
use Rattle.host_store.specs.declared.machine.Machine.{Machine}
use Rattle.host_udp.specs.UdpBinds.{udp_bind_of}
use Rattle.host_store.specs.Block.{Does, last, ◌>>=◌}
use Rattle.host_udp.specs.SocketDatagrams.{receive_of, send_of}
use Rattle.host_udp.specs.UdpConnects.{udp_connect_of}
use Rattle.host_udp.specs.UdpCreates.{create_udp, created_by}
use Rattle.wasi_p3.specs.Lines.{in_base, of_udp, udp_named, udp_of, told_of}
use Rattle.wasi_p3.specs.Stops.{P3Stop}

-- == a socket is made: its network socket is waited for, and then it has a handle
abbrev pub create : Ids → WasiSocketsCtx → SocketAddressFamily → Machine → Asks (Result (Answer ℕ) P3Stop × Machine)
create ids ctx family m = bind (create_udp P3 m ids ctx family) (λ done. Give (created_by p3_of_code done))

-- == a bind
abbrev pub bind_to : Ids → ℕ → IpSocketAddress → Does P3Code Machine (Answer (Unit {0}))
bind_to ids socket a = do
  place ← udp_named socket
  last (in_base (udp_bind_of ids place a))

-- == a connect
abbrev pub connect_to : Ids → ℕ → IpSocketAddress → Does P3Code Machine (Answer (Unit {0}))
connect_to ids socket a = do
  place ← udp_named socket
  last (in_base (udp_connect_of ids place a))

-- == a datagram
abbrev pub send : ℕ → ℕ → OutgoingDatagram → Does P3Code Machine (Answer (Unit {0}))
send line socket d = do
  place ← udp_named socket
  last (in_base (send_of line place d))

abbrev pub receive : ℕ → ℕ → Does P3Code Machine (Answer IncomingDatagram)
receive line socket = do
  place ← udp_named socket
  last (in_base (receive_of line place))

-- == what a socket says of itself
abbrev pub local_address : OpId → ℕ → Does P3Code Machine IpSocketAddress
local_address own socket = of_udp socket (udp_local_asks own)

-- told without asking
abbrev pub remote_address : Machine → ℕ → Result IpSocketAddress P3Stop
remote_address m socket = told_of (λ o. remote_of o.inner.remote) (udp_of m socket)

abbrev pub address_family : Machine → ℕ → Result SocketAddressFamily P3Stop
address_family m socket = told_of (λ o. Ok o.inner.family) (udp_of m socket)

-- == the socket itself is called
abbrev pub inner_told : {A : Type 0} → OpenUdp → Result A ErrorCode × Socket → Result A ErrorCode × OpenUdp
inner_told o done = (done.0, with_udp_inner o done.1)

-- its remote address is taken away
abbrev pub disconnect_of : OpId → OpenUdp → Asks (Result (Unit {0}) ErrorCode × OpenUdp)
disconnect_of own o = bind (disconnect_asks own o.inner) (λ done. Give (inner_told o done))

abbrev pub disconnect : OpId → ℕ → Does P3Code Machine (Unit {0})
disconnect own socket = of_udp socket (disconnect_of own)

-- == its options: it stays as it is
abbrev pub staying : {A : Type 0} → OpenUdp → Asks (Result A ErrorCode) → Asks (Result A ErrorCode × OpenUdp)
staying o asks = bind asks (λ told. Give (told, o))

abbrev pub get_option : OpId → ℕ → Opt → Does P3Code Machine ℕ
get_option own socket option = of_udp socket (λ o. staying o (get_option_asks own o.inner option))

abbrev pub set_option : OpId → ℕ → Opt → ℕ → Does P3Code Machine (Unit {0})
set_option own socket option value = of_udp socket (λ o. staying o (set_option_asks own o.inner option value))
