-- The calls of streams.
use Rattle.std.specs.Prelude.{ℕ, zero, suc, min, Bool, true, false, List, [], ◌∷◌, length, Option, Some, None, Result, Ok, Err}
use Rattle.wasi_addr.specs.declared.code.ErrorCode.{ErrorCode}
use Rattle.wasi_world.specs.declared.ids.OpId.{OpId}
use Rattle.wasi_world.specs.declared.outcome.TrapKind.TheVariants.{NoSuchHandle}
use Rattle.wasi_world.specs.Asks.{Asks, Give, bind}
use Rattle.wasi_streams.specs.StreamStop.{StreamStop}
use Rattle.wasi_streams.specs.StreamStop as stream
use Rattle.wasi_streams.specs.Streams.{zeros}
use Rattle.wasi_tcp.specs.Reader.{read_state_asks}
use Rattle.wasi_tcp.specs.Writer.{write_state_asks}
use Rattle.wasi_records.specs.Records.{tcp2_at}
use Rattle.host_store.specs.declared.kind.Kind.TheVariants.{ErrorValue}
use Rattle.host_store.specs.declared.machine.Machine.{Machine}
use Rattle.tcp_records.specs.declared.socket.TcpRecord.{TcpRecord}
use Rattle.record_common.specs.Stops.{Stop}
use Rattle.host_store.specs.CallStops.{CallStop, Closed, Traps, failed_with}
use Rattle.host_store.specs.declared.kind.PlainInput.{PlainInput}
use Rattle.host_store.specs.declared.kind.PlainOutput.{PlainOutput}
use Rattle.host_store.specs.Kinds.{kind_at, make_asks, is_readable, is_writable, plain_input_of, plain_output_of}
use Rattle.host_streams.specs.PlainStreams.{read_plain, check_plain, write_plain, flush_plain}
use Rattle.host_store.specs.Store.{Records, stream_at}
use Rattle.tcp_records.specs.Halves.{reader_asks, writer_asks, flush_asks}
use Rattle.host_store.specs.Limits.{check_record}
use Rattle.host_store.specs.Jobs.{write_at}
use Rattle.host_store.specs.Machine.{with_table, with_store, input_at, output_at, side_at}

abbrev pub failed_made : ErrorCode → Result ℕ Stop × Machine → CallStop × Machine
failed_made c (made, m) = (failed_with c made, m)

-- why a stream's call gave no value: a failure gets the handle of a new error, whose parent is the stream
abbrev pub convert_asks : Machine → OpId → ℕ → ℕ → StreamStop → Asks (CallStop × Machine)
convert_asks m own handle place (stream.Failed c) =
    bind (make_asks m.table own ErrorValue (Some handle) (side_at (tcp2_at m.store.records place))) (λ made. Give (failed_made c (with_table m made)))
convert_asks m own handle place stream.Closed = Give (Closed, m)
convert_asks m own handle place (stream.Trap kind) = Give (Traps kind, m)

abbrev pub stopped : {T : Type 0} → CallStop × Machine → Result T CallStop × Machine
stopped (stop, m) = (Err stop, m)

abbrev pub converted : {T : Type 0} → OpId → ℕ → ℕ → Result T StreamStop × Machine → Asks (Result T CallStop × Machine)
converted own handle place (Ok value, m) = Give (Ok value, m)
converted own handle place (Err stop, m) = bind (convert_asks m own handle place stop) (λ c. Give (stopped c))

-- a call on a stream of the record of this number
abbrev pub stream_on : {T : Type 0} → Machine → OpId → ℕ → (TcpRecord → Asks (Result T StreamStop × TcpRecord)) → Option ℕ → Asks (Result T CallStop × Machine)
stream_on m own handle call None = Give (Err (Traps NoSuchHandle), m)
stream_on m own handle call (Some place) = bind (stream_at m.store place call (tcp2_at m.store.records place)) (λ done. converted own handle place (with_store m done))

-- a write, which may become a job
abbrev pub write_on : {T : Type 0} → Machine → OpId → ℕ → (TcpRecord → Asks (Result T StreamStop × TcpRecord)) → Option ℕ → Asks (Result T CallStop × Machine)
write_on m own handle call None = Give (Err (Traps NoSuchHandle), m)
write_on m own handle call (Some place) = bind (write_at m.store place call (tcp2_at m.store.records place)) (λ done. converted own handle place (with_store m done))

-- == an input or an output of no connection doesn't fail
abbrev pub plain_stop : StreamStop → CallStop
plain_stop (stream.Failed c) = Traps NoSuchHandle
plain_stop stream.Closed = Closed
plain_stop (stream.Trap kind) = Traps kind

abbrev pub plain_answer : {T : Type 0} → Result T StreamStop → Result T CallStop
plain_answer (Ok value) = Ok value
plain_answer (Err stop) = Err (plain_stop stop)

abbrev pub plain_done : {T : Type 0} → Machine → Result T StreamStop × Records → Result T CallStop × Machine
plain_done m done = (plain_answer done.0, record m { store = done.1 })

abbrev pub plain_input_at : Machine → ℕ → Option PlainInput
plain_input_at m h = plain_input_of (kind_at m.table h)

abbrev pub plain_output_at : Machine → ℕ → Option PlainOutput
plain_output_at m h = plain_output_of (kind_at m.table h)

-- == the calls
abbrev pub read_by : Machine → OpId → ℕ → ℕ → Option PlainInput → Asks (Result (List ℕ) CallStop × Machine)
read_by m own input len (Some plain) = Give (plain_done m (read_plain m.store plain len))
read_by m own input len None = stream_on m own input (reader_asks (λ r. read_state_asks own r len)) (input_at m input)

abbrev pub read_asks : Machine → OpId → ℕ → ℕ → Asks (Result (List ℕ) CallStop × Machine)
read_asks m own input len = read_by m own input len (plain_input_at m input)

-- how many bytes there were
abbrev pub counted : Result (List ℕ) CallStop × Machine → Result ℕ CallStop × Machine
counted (Ok bytes, m) = (Ok (length bytes), m)
counted (Err stop, m) = (Err stop, m)

abbrev pub skip_asks : Machine → OpId → ℕ → ℕ → Asks (Result ℕ CallStop × Machine)
skip_asks m own input len = bind (read_asks m own input len) (λ done. Give (counted done))

abbrev pub check_by : Machine → OpId → ℕ → Option PlainOutput → Asks (Result ℕ CallStop × Machine)
check_by m own output (Some plain) = Give (plain_answer (check_plain m.store plain), m)
check_by m own output None = stream_on m own output (check_record m.store own) (output_at m output)

abbrev pub check_asks : Machine → OpId → ℕ → Asks (Result ℕ CallStop × Machine)
check_asks m own output = check_by m own output (plain_output_at m output)

abbrev pub write_by : Machine → OpId → ℕ → List ℕ → Option PlainOutput → Asks (Result (Unit {0}) CallStop × Machine)
write_by m own output bytes (Some plain) = Give (plain_done m (write_plain m.store plain bytes))
write_by m own output bytes None = write_on m own output (writer_asks (λ w. write_state_asks own w bytes)) (output_at m output)

abbrev pub write_asks : Machine → OpId → ℕ → List ℕ → Asks (Result (Unit {0}) CallStop × Machine)
write_asks m own output bytes = write_by m own output bytes (plain_output_at m output)

-- at most 65537 zeros, which are more than any permit
abbrev pub write_zeroes_asks : Machine → OpId → ℕ → ℕ → Asks (Result (Unit {0}) CallStop × Machine)
write_zeroes_asks m own output len = write_asks m own output (zeros len)

abbrev pub flush_by : Machine → OpId → ℕ → Option PlainOutput → Asks (Result (Unit {0}) CallStop × Machine)
flush_by m own output (Some plain) = Give (plain_answer (flush_plain plain), m)
flush_by m own output None = stream_on m own output (writer_asks flush_asks) (output_at m output)

abbrev pub flushed_asks : Machine → OpId → ℕ → Asks (Result (Unit {0}) CallStop × Machine)
flushed_asks m own output = flush_by m own output (plain_output_at m output)

-- == a splice: what may be written is read, and written
abbrev pub spliced : ℕ → Result (Unit {0}) CallStop × Machine → Result ℕ CallStop × Machine
spliced count (Ok done, m) = (Ok count, m)
spliced count (Err stop, m) = (Err stop, m)

abbrev pub splice_read : OpId → ℕ → Result (List ℕ) CallStop × Machine → Asks (Result ℕ CallStop × Machine)
splice_read own to (Ok [], m) = Give (Ok 0, m)
splice_read own to (Ok (b ∷ bytes), m) = bind (write_asks m own to (b ∷ bytes)) (λ done. Give (spliced (length (b ∷ bytes)) done))
splice_read own to (Err stop, m) = Give (Err stop, m)

abbrev pub splice_some : OpId → ℕ → ℕ → Machine → ℕ → Asks (Result ℕ CallStop × Machine)
splice_some own to from m zero = Give (Ok 0, m)
splice_some own to from m (suc count) = bind (read_asks m own from (suc count)) (λ read. splice_read own to read)

abbrev pub splice_checked : OpId → ℕ → ℕ → ℕ → Result ℕ CallStop × Machine → Asks (Result ℕ CallStop × Machine)
splice_checked own to from len (Ok permit, m) = splice_some own to from m (min permit len)
splice_checked own to from len (Err stop, m) = Give (Err stop, m)

-- both handles are tested before anything is asked
abbrev pub splice_when : Machine → OpId → ℕ → ℕ → ℕ → Bool → Bool → Asks (Result ℕ CallStop × Machine)
splice_when m own to from len true true = bind (check_asks m own to) (λ checked. splice_checked own to from len checked)
splice_when m own to from len true false = Give (Err (Traps NoSuchHandle), m)
splice_when m own to from len false reads = Give (Err (Traps NoSuchHandle), m)

abbrev pub splice_asks : Machine → OpId → ℕ → ℕ → ℕ → Asks (Result ℕ CallStop × Machine)
splice_asks m own to from len = splice_when m own to from len (is_writable (kind_at m.table to)) (is_readable (kind_at m.table from))
