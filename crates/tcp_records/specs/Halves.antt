-- The streams of a connection: calls on what a record reads and writes by, and the write in the background.
use Rattle.std.specs.Prelude.{Option, Some, None, Result, Err, Bool, true, false, not, ◌&&◌}
use Rattle.wasi_world.specs.declared.outcome.TrapKind.TheVariants.{NoSuchHandle}
use Rattle.wasi_world.specs.Asks.{Asks, Give, bind}
use Rattle.wasi_streams.specs.StreamStop.{StreamStop}
use Rattle.wasi_streams.specs.StreamStop as stream
use Rattle.wasi_tcp.specs.declared.reader.ReadState.{ReadState}
use Rattle.wasi_tcp.specs.declared.writer.WriteState.{WriteState}
use Rattle.wasi_tcp.specs.Writer.{flush_of, turn_asks}
use Rattle.tcp_records.specs.declared.socket.Streams.{Streams}
use Rattle.tcp_records.specs.declared.socket.TcpRecord.{TcpRecord}
use Rattle.wasi_world.specs.Operation.{End, Waits}
use Rattle.wasi_tcp.specs.declared.writer.WriteState.TheVariants as writing

-- == the streams of a connection
abbrev pub with_reader : TcpRecord → Streams → ReadState → TcpRecord
with_reader r s reader = record r { streams = Some (record s { reader = reader }) }

abbrev pub with_writer : TcpRecord → Streams → WriteState → TcpRecord
with_writer r s writer = record r { streams = Some (record s { writer = writer }) }

abbrev pub reader_of : {T : Type 0} → TcpRecord → (ReadState → Asks (Result T StreamStop × ReadState)) → Option Streams → Asks (Result T StreamStop × TcpRecord)
reader_of r call None = Give (Err (stream.Trap NoSuchHandle), r)
reader_of r call (Some s) = bind (call s.reader) (λ done. Give (done.0, with_reader r s done.1))

-- a call on what a record reads by
abbrev pub reader_asks : {T : Type 0} → (ReadState → Asks (Result T StreamStop × ReadState)) → TcpRecord → Asks (Result T StreamStop × TcpRecord)
reader_asks call r = reader_of r call r.streams

abbrev pub writer_of : {T : Type 0} → TcpRecord → (WriteState → Asks (Result T StreamStop × WriteState)) → Option Streams → Asks (Result T StreamStop × TcpRecord)
writer_of r call None = Give (Err (stream.Trap NoSuchHandle), r)
writer_of r call (Some s) = bind (call s.writer) (λ done. Give (done.0, with_writer r s done.1))

-- a call on what a record writes by
abbrev pub writer_asks : {T : Type 0} → (WriteState → Asks (Result T StreamStop × WriteState)) → TcpRecord → Asks (Result T StreamStop × TcpRecord)
writer_asks call r = writer_of r call r.streams

-- a flush asks nothing, and leaves the writer as it was
abbrev pub flush_asks : WriteState → Asks (Result (Unit {0}) StreamStop × WriteState)
flush_asks w = Give (flush_of w, w)

-- == which records have a job
abbrev pub goes_on : End → Bool
goes_on Waits = true
goes_on _ = false

-- a write isn't over
abbrev pub is_working : WriteState → Bool
is_working (writing.Writing job) = goes_on job.end
is_working (writing.Closing job) = goes_on job.end
is_working _ = false

abbrev pub works_in : Option Streams → Bool
works_in None = false
works_in (Some s) = is_working s.writer

abbrev pub has_job : Option TcpRecord → Bool
has_job None = false
has_job (Some r) = works_in r.streams

-- a write began on the record, and is in progress
abbrev pub begins_job : Option TcpRecord → Option TcpRecord → Bool
begins_job before now = not (has_job before) && has_job now

-- == a turn
-- the record's write is polled once, where one is in progress
abbrev pub turned : TcpRecord → Option Streams → Asks TcpRecord
turned r None = Give r
turned r (Some s) = bind (turn_asks s.writer) (λ done. Give (with_writer r s done.1))

abbrev pub turn_record : TcpRecord → Asks TcpRecord
turn_record r = turned r r.streams
