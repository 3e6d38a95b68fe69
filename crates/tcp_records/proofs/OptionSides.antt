-- The options of a socket, and its backlog, make and close no network socket.
use Rattle.std.proofs.Common.{ℕ, ◌==◌, Result, Ok, Err, refl}
use Rattle.wasi_addr.specs.declared.code.ErrorCode.{ErrorCode}
use Rattle.wasi_addr.specs.Clamp.{clamped_backlog}
use Rattle.wasi_world.specs.declared.call.Opt.{Opt}
use Rattle.wasi_world.specs.declared.ids.OpId.{OpId}
use Rattle.wasi_world.specs.Asks.{bind}
use Rattle.wasi_tcp.specs.declared.socket.TcpState.{TcpState}
use Rattle.wasi_tcp.specs.declared.socket.TcpState.TheVariants as state
use Rattle.socket_common.specs.Options.{zero_test, refused_before, get_of_side_asks, set_of_side_asks}
use Rattle.wasi_tcp.specs.Options.{option_side, get_where, get_option_asks, set_where, set_option_asks, set_backlog_in, set_backlog_asks}
use Rattle.wasi_tcp.specs.Shape.{Socket}
use Rattle.record_common.proofs.SideCounts.{Calm, Any, calm_then}
use Rattle.record_common.proofs.OptionSides.{calm_if, calm_get_side, calm_set_side}

calm_get_where : (op : OpId) (s : Socket) (option : Opt) (side : Result OpId ErrorCode) → Calm Any (get_where op s option side)
calm_get_where op s option (Ok side) = calm_then Any Any (get_of_side_asks op side option) _ (calm_get_side op side option) (λ a k. tt)
calm_get_where op s option (Err c) = tt

pub calm_get : (op : OpId) (s : Socket) (option : Opt) → Calm Any (get_option_asks op s option)
calm_get op s option = calm_get_where op s option (option_side s)

calm_set_where : (op : OpId) (s : Socket) (option : Opt) (value : ℕ) (side : Result OpId ErrorCode) → Calm Any (set_where op s option value side)
calm_set_where op s option value (Ok side) = calm_then Any Any (set_of_side_asks op side option value) _ (calm_set_side op side option value) (λ a k. tt)
calm_set_where op s option value (Err c) = tt

pub calm_set : (op : OpId) (s : Socket) (option : Opt) (value : ℕ) → Calm Any (set_option_asks op s option value)
calm_set op s option value = calm_if (refused_before (zero_test option) value) _ _ tt (calm_set_where op s option value (option_side s))

calm_backlog_in : (op : OpId) (s : Socket) (backlog : ℕ) (st : TcpState) → Calm Any (set_backlog_in op s backlog st)
unfolding bind
calm_backlog_in op s backlog (state.Default side) = tt
calm_backlog_in op s backlog (state.Listening side) = ((λ t. refl, refl), λ t. tt)
calm_backlog_in op s backlog (state.Connecting connect) = tt
calm_backlog_in op s backlog (state.Connected connection) = tt
calm_backlog_in op s backlog (state.Closed c) = tt

pub calm_backlog : (op : OpId) (s : Socket) (value : ℕ) → Calm Any (set_backlog_asks op s value)
calm_backlog op s value = calm_if (value == 0) _ _ tt (calm_backlog_in op s (clamped_backlog value) s.state)
