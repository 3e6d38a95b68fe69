-- The limits of contexts on the bytes that their writers hold or are permitted.
use Rattle.std.specs.Prelude.{ℕ, ◌-◌, ◌==◌, min, if◌then◌else◌, List, [], ◌∷◌, ◌++◌, Option, Some, None, Result}
use Rattle.wasi_world.specs.declared.ids.OpId.{OpId}
use Rattle.wasi_world.specs.declared.outcome.WasiSocketsCtx.{WasiSocketsCtx}
use Rattle.wasi_world.specs.Asks.{Asks}
use Rattle.wasi_streams.specs.StreamStop.{StreamStop}
use Rattle.wasi_tcp.specs.Writer.{check_write_asks}
use Rattle.tcp_records.specs.declared.socket.TcpRecord.{TcpRecord}
use Rattle.tcp_records.specs.Halves.{writer_asks}
use Rattle.tcp_records.specs.Used.{held_in}
use Rattle.wasi_records.specs.Used.{used}
use Rattle.host_store.specs.declared.limits.Limit.{Limit}
use Rattle.host_store.specs.Store.{Records}

-- the limit that is kept of a context
abbrev pub limit_in : List Limit → ℕ → Option ℕ
limit_in [] context = None
limit_in (l ∷ limits) context = if l.context == context then Some l.most else limit_in limits context

-- one that is kept stays as it is
abbrev pub with_limit_by : List Limit → WasiSocketsCtx → Option ℕ → List Limit
with_limit_by limits ctx None = limits ++ record { context = ctx.name; most = ctx.write_limit } ∷ []
with_limit_by limits ctx (Some most) = limits

abbrev pub with_limit : Records → WasiSocketsCtx → Records
with_limit store ctx = record store { limits = with_limit_by store.limits ctx (limit_in store.limits ctx.name) }

-- a context of which none is kept has no socket
abbrev pub limit_or : Option ℕ → ℕ
limit_or (Some most) = most
limit_or None = 0

-- what its other writers leave to one that holds so many bytes
abbrev pub left : Records → ℕ → ℕ → ℕ
left store context own = limit_or (limit_in store.limits context) - (used context store.records - own)

-- what may be permitted to the writer of a socket
abbrev pub most_of : Records → TcpRecord → ℕ
most_of store r = min 65536 (left store r.maker (held_in r.streams))

-- none where there is no socket
abbrev pub most_at : Records → Option TcpRecord → ℕ
most_at store None = 0
most_at store (Some r) = most_of store r

-- a permit is at most what the other writers of the socket's maker leave of its limit
abbrev pub check_record : Records → OpId → TcpRecord → Asks (Result ℕ StreamStop × TcpRecord)
check_record store own r = writer_asks (check_write_asks (most_of store r) own) r
