-- A guest's shutdown of a connection, by halves.
use Rattle.std.specs.Prelude.{Option, Some, None, Result, Ok, Err}
use Rattle.wasi_addr.specs.declared.address.ShutdownType.{ShutdownType}
use Rattle.wasi_addr.specs.declared.address.ShutdownType.TheVariants.{Receive, Send, Both}
use Rattle.wasi_addr.specs.declared.p2.ErrorCode.TheVariants.{InvalidState}
use Rattle.wasi_world.specs.declared.ids.OpId.{OpId}
use Rattle.wasi_world.specs.Asks.{Asks, Give, bind}
use Rattle.wasi_tcp.specs.Reader.{reader_shutdown_asks}
use Rattle.wasi_tcp.specs.Writer.{writer_shutdown_asks}
use Rattle.tcp_records.specs.declared.socket.Streams.{Streams}
use Rattle.tcp_records.specs.declared.socket.TcpRecord.{TcpRecord}
use Rattle.record_common.specs.Stops.{Stop, Code}

abbrev pub shut_receive : OpId → Streams → Asks (Unit {0} × Streams)
shut_receive op s = bind (reader_shutdown_asks op s.reader) (λ done. Give (tt, record s { reader = done.1 }))

abbrev pub shut_send : OpId → Streams → Asks (Unit {0} × Streams)
shut_send op s = bind (writer_shutdown_asks op s.writer) (λ done. Give (tt, record s { writer = done.1 }))

-- the receiving half, the sending half, or the one after the other
abbrev pub shut_streams : OpId → ShutdownType → Streams → Asks (Unit {0} × Streams)
shut_streams op Receive s = shut_receive op s
shut_streams op Send s = shut_send op s
shut_streams op Both s = bind (shut_receive op s) (λ done. shut_send op done.1)

abbrev pub with_streams : TcpRecord → Streams → TcpRecord
with_streams r s = record r { streams = Some s }

-- before its streams were made it is refused
abbrev pub shut_record : OpId → ShutdownType → TcpRecord → Option Streams → Asks (Result (Unit {0}) Stop × TcpRecord)
shut_record op how r None = Give (Err (Code InvalidState), r)
shut_record op how r (Some s) = bind (shut_streams op how s) (λ done. Give (Ok tt, with_streams r done.1))
