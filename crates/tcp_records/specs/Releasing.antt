-- How a TCP socket is released: what goes with its record.
use Rattle.std.specs.Prelude.{Option, Some, None}
use Rattle.wasi_world.specs.declared.ids.OpId.{OpId}
use Rattle.wasi_world.specs.Asks.{Asks, Give, bind}
use Rattle.wasi_tcp.specs.Shape.{Socket}
use Rattle.wasi_tcp.specs.Closing.{close_asks}
use Rattle.wasi_tcp.specs.Reader.{reader_shutdown_asks}
use Rattle.wasi_tcp.specs.Writer.{writer_give_up_asks}
use Rattle.tcp_records.specs.declared.tcp_binding.InProgress.TheVariants as doing
use Rattle.tcp_records.specs.declared.tcp_listening.Listening.TheVariants.{Not}
use Rattle.tcp_records.specs.declared.socket.Streams.{Streams}
use Rattle.tcp_records.specs.declared.socket.TcpRecord.{TcpRecord}
use Rattle.tcp_records.specs.Listening.{give_up_asks}

-- == a socket
-- the open halves are released, the receiving one first; a write in progress ends there
abbrev pub give_streams_up : OpId → Option Streams → Asks (Unit {0})
give_streams_up op None = Give tt
give_streams_up op (Some s) = bind (reader_shutdown_asks op s.reader) (λ done. writer_give_up_asks op s.writer)

-- the record without what it had
abbrev pub gone : TcpRecord → Socket → TcpRecord
gone r socket = record r { inner = socket; in_progress = doing.Nothing; listening = Not; streams = None }

abbrev pub close_record : OpId → TcpRecord → Asks (Unit {0} × TcpRecord)
close_record op r = bind (close_asks op r.inner) (λ done. Give (tt, gone r done.1))

-- then its network socket is closed, where it has one
abbrev pub release_connection : OpId → TcpRecord → Asks (Unit {0} × TcpRecord)
release_connection op r = bind (give_streams_up op r.streams) (λ done. close_record op r)

-- a listener goes before
abbrev pub release_asks : OpId → TcpRecord → Asks (Unit {0} × TcpRecord)
release_asks op r = bind (give_up_asks r.listening) (λ done. release_connection op r)
