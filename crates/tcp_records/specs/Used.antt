-- How many bytes the writer of a TCP socket holds or is permitted.
use Rattle.std.specs.Prelude.{ℕ, ◌==◌, if◌then◌else◌, Option, Some, None}
use Rattle.wasi_tcp.specs.Bounds.{held}
use Rattle.tcp_records.specs.declared.socket.Streams.{Streams}
use Rattle.tcp_records.specs.declared.socket.TcpRecord.{TcpRecord}

abbrev pub held_in : Option Streams → ℕ
held_in None = 0
held_in (Some s) = held s.writer

-- of a socket, where this context made it; a writer of 0.3 is permitted nothing, and begins no job
abbrev pub used_by : ℕ → TcpRecord → ℕ
used_by context r = if r.maker == context then held_in r.streams else 0
