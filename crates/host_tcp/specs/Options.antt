-- The options of a socket, and its backlog, by the number of its record.
use Rattle.std.specs.Prelude.{ℕ, Option, Some, None, Result, Err}
use Rattle.wasi_addr.specs.declared.code.ErrorCode.{ErrorCode}
use Rattle.wasi_world.specs.declared.ids.OpId.{OpId}
use Rattle.wasi_world.specs.declared.call.Opt.{Opt}
use Rattle.wasi_world.specs.declared.outcome.TrapKind.TheVariants.{NoSuchHandle}
use Rattle.wasi_world.specs.Asks.{Asks, Give, bind}
use Rattle.wasi_tcp.specs.Shape.{Socket}
use Rattle.wasi_tcp.specs.Options.{get_option_asks, set_option_asks, set_backlog_asks}
use Rattle.tcp_records.specs.declared.socket.TcpRecord.{TcpRecord}
use Rattle.record_common.specs.Stops.{Stop, Trap}
use Rattle.host_store.specs.Store.{Records, put_back, code_told}
use Rattle.tcp_records.specs.Sockets.{inner_answered}

-- what it answers; the records stay as they were
abbrev pub looked_at : {T : Type 0} → Records → (Socket → Asks (Result T ErrorCode × Socket)) → Option TcpRecord → Asks (Result T Stop × Records)
looked_at store call None = Give (Err (Trap NoSuchHandle), store)
looked_at store call (Some r) = bind (call r.inner) (λ done. Give (code_told done.0, store))

abbrev pub get_option_at : Records → OpId → Opt → Option TcpRecord → Asks (Result ℕ Stop × Records)
get_option_at store op option found = looked_at store (λ socket. get_option_asks op socket option) found

abbrev pub set_option_at : Records → OpId → Opt → ℕ → Option TcpRecord → Asks (Result (Unit {0}) Stop × Records)
set_option_at store op option value found = looked_at store (λ socket. set_option_asks op socket option value) found

-- == the backlog
abbrev pub set_backlog_at : Records → OpId → ℕ → ℕ → Option TcpRecord → Asks (Result (Unit {0}) Stop × Records)
set_backlog_at store op place value None = Give (Err (Trap NoSuchHandle), store)
set_backlog_at store op place value (Some r) = bind (set_backlog_asks op r.inner value) (λ done. Give (put_back store place (inner_answered r done)))
