-- The 0.3 calls of TCP sockets: what each asks, returns and leaves.
use Rattle.std.specs.Prelude.{ℕ, Bool, Result, Ok, Err}
use Rattle.wasi_addr.specs.declared.address.IpSocketAddress.{IpSocketAddress}
use Rattle.wasi_addr.specs.declared.address.SocketAddressFamily.{SocketAddressFamily}
use Rattle.wasi_addr.specs.declared.code.ErrorCode.{ErrorCode}
use Rattle.wasi_addr.specs.declared.p3.ErrorCode.{ErrorCode as P3Code}
use Rattle.wasi_world.specs.declared.call.Opt.{Opt}
use Rattle.wasi_world.specs.declared.ids.Ids.{Ids}
use Rattle.wasi_world.specs.declared.ids.OpId.{OpId}
use Rattle.wasi_world.specs.declared.outcome.Answer.{Answer}
use Rattle.wasi_world.specs.declared.outcome.WasiSocketsCtx.{WasiSocketsCtx}
use Rattle.wasi_world.specs.Asks.{Asks}
use Rattle.wasi_tcp.specs.Addresses.{is_listening as listens}
use Rattle.wasi_tcp.specs.Options.{get_option_asks, set_option_asks, set_backlog_asks}
use Rattle.record_common.specs.Stops.{Stop}
use Rattle.tcp_records.specs.Sockets.{tell_local_asks, tell_remote_asks}
use Rattle.host_store.specs.declared.kind.Kind.TheVariants.{Tcp3}
use Rattle.host_store.specs.declared.machine.Machine.{Machine}
use Rattle.host_tcp.specs.Creates.{create_to}
use Rattle.host_tcp.specs.Binds.{bind_of}
use Rattle.host_store.specs.Block.{Does, last, ◌>>=◌}
use Rattle.host_tcp.specs.Connects.{connect_of}
use Rattle.wasi_p3.specs.Lines.{of_tcp, in_base, inner_call, tcp_named, tcp_of, told_of}
use Rattle.wasi_p3.specs.Stops.{P3Stop, p3_stop, trap_of}

-- == a socket is made: it has its record, whether or not a handle is made for it
abbrev pub code_told : ErrorCode → Result ℕ P3Stop
code_told c = Err (p3_stop c)

abbrev pub handle_told : Result ℕ Stop → Result ℕ P3Stop
handle_told (Ok handle) = Ok handle
handle_told (Err stop) = Err (trap_of stop)

abbrev pub create : OpId → WasiSocketsCtx → SocketAddressFamily → Machine → Asks (Result ℕ P3Stop × Machine)
create own ctx family m = create_to handle_told code_told Tcp3 m own ctx family

-- == a bind
abbrev pub bind_to : Ids → ℕ → IpSocketAddress → Does P3Code Machine (Answer (Unit {0}))
bind_to ids socket a = do
  place ← tcp_named socket
  last (in_base (bind_of ids place a))

-- == a connect
abbrev pub connect_to : ℕ → ℕ → IpSocketAddress → Does P3Code Machine (Answer (Unit {0}))
connect_to line socket a = do
  place ← tcp_named socket
  last (in_base (connect_of line place a))

-- == what a socket says of itself
abbrev pub local_address : OpId → ℕ → Does P3Code Machine IpSocketAddress
local_address own socket = of_tcp socket (tell_local_asks own)

abbrev pub remote_address : OpId → ℕ → Does P3Code Machine IpSocketAddress
remote_address own socket = of_tcp socket (tell_remote_asks own)

-- told without asking
abbrev pub is_listening : Machine → ℕ → Result Bool P3Stop
is_listening m socket = told_of (λ r. Ok (listens r.inner.state)) (tcp_of m socket)

abbrev pub address_family : Machine → ℕ → Result SocketAddressFamily P3Stop
address_family m socket = told_of (λ r. Ok r.inner.family) (tcp_of m socket)

-- == its options, and its backlog
abbrev pub get_option : OpId → ℕ → Opt → Does P3Code Machine ℕ
get_option own socket option = of_tcp socket (inner_call (λ s. get_option_asks own s option))

abbrev pub set_option : OpId → ℕ → Opt → ℕ → Does P3Code Machine (Unit {0})
set_option own socket option value = of_tcp socket (inner_call (λ s. set_option_asks own s option value))

abbrev pub set_backlog : OpId → ℕ → ℕ → Does P3Code Machine (Unit {0})
set_backlog own socket value = of_tcp socket (inner_call (λ s. set_backlog_asks own s value))
