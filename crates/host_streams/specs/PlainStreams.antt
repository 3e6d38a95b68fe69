-- Inputs and outputs of no connection: pipes, sinks and closed streams. Nothing is asked of the network.
use Rattle.std.specs.Prelude.{ℕ, List, [], ◌∷◌, ◌++◌, length, Option, Some, None, Result, Ok, Err}
use Rattle.wasi_world.specs.declared.ids.OpId.{OpId}
use Rattle.wasi_world.specs.declared.outcome.TrapKind.TheVariants.{NoSuchHandle}
use Rattle.wasi_world.specs.Asks.{Asks, Give, bind}
use Rattle.wasi_streams.specs.StreamStop.{StreamStop}
use Rattle.wasi_streams.specs.StreamStop as stream
use Rattle.memory_streams.specs.Plain.{Contents, no_contents, pipe_read, pipe_write, pipe_check}
use Rattle.host_store.specs.declared.kind.Kind.{Kind}
use Rattle.host_store.specs.declared.kind.Kind.TheVariants as kind
use Rattle.host_store.specs.declared.kind.PlainInput.{PlainInput}
use Rattle.host_store.specs.declared.kind.PlainInput.TheVariants as input
use Rattle.host_store.specs.declared.kind.PlainOutput.{PlainOutput}
use Rattle.host_store.specs.declared.kind.PlainOutput.TheVariants as output
use Rattle.host_store.specs.declared.machine.Machine.{Machine}
use Rattle.wasi_records.specs.declared.records.Record.{Record}
use Rattle.wasi_records.specs.declared.records.Record.TheVariants.{InputPipe, OutputPipe}
use Rattle.host_store.specs.GivingBack.{given_back}
use Rattle.record_common.specs.Stops.{Stop, Trap}
use Rattle.host_store.specs.Kinds.{HandleTable, kind_at, plain_output_of, make_asks}
use Rattle.wasi_records.specs.Records.{input_pipe_at, input_pipe_put, output_pipe_at, output_pipe_put}
use Rattle.host_store.specs.Store.{Records}

abbrev pub with_input_bytes : Records → ℕ → List ℕ → Records
with_input_bytes store place bytes = record store { records = input_pipe_put store.records place bytes }

abbrev pub with_contents : Records → ℕ → Contents → Records
with_contents store place pipe = record store { records = output_pipe_put store.records place pipe }

-- == reading
abbrev pub bytes_put : {T : Type 0} → Records → ℕ → Result T StreamStop × List ℕ → Result T StreamStop × Records
bytes_put store place done = (done.0, with_input_bytes store place done.1)

abbrev pub read_pipe_at : Records → ℕ → ℕ → Option (List ℕ) → Result (List ℕ) StreamStop × Records
read_pipe_at store place len None = (Err (stream.Trap NoSuchHandle), store)
read_pipe_at store place len (Some bytes) = bytes_put store place (pipe_read len bytes)

abbrev pub read_plain : Records → PlainInput → ℕ → Result (List ℕ) StreamStop × Records
read_plain store (input.Pipe place) len = read_pipe_at store place len (input_pipe_at store.records place)
read_plain store input.Closed len = (Err stream.Closed, store)

-- == writing
abbrev pub check_pipe_at : Option Contents → Result ℕ StreamStop
check_pipe_at None = Err (stream.Trap NoSuchHandle)
check_pipe_at (Some pipe) = pipe_check pipe

abbrev pub check_plain : Records → PlainOutput → Result ℕ StreamStop
check_plain store (output.Pipe place) = check_pipe_at (output_pipe_at store.records place)
check_plain store output.Sink = Ok 65536
check_plain store output.Closed = Err stream.Closed

abbrev pub contents_put : {T : Type 0} → Records → ℕ → Result T StreamStop × Contents → Result T StreamStop × Records
contents_put store place done = (done.0, with_contents store place done.1)

abbrev pub write_pipe_at : Records → ℕ → List ℕ → Option Contents → Result (Unit {0}) StreamStop × Records
write_pipe_at store place bytes None = (Err (stream.Trap NoSuchHandle), store)
write_pipe_at store place bytes (Some pipe) = contents_put store place (pipe_write pipe bytes)

abbrev pub write_plain : Records → PlainOutput → List ℕ → Result (Unit {0}) StreamStop × Records
write_plain store (output.Pipe place) bytes = write_pipe_at store place bytes (output_pipe_at store.records place)
write_plain store output.Sink bytes = (Ok tt, store)
write_plain store output.Closed bytes = (Err stream.Closed, store)

-- a closed one alone has no flush
abbrev pub flush_plain : PlainOutput → Result (Unit {0}) StreamStop
flush_plain (output.Pipe place) = Ok tt
flush_plain output.Sink = Ok tt
flush_plain output.Closed = Err stream.Closed

-- == how they are made, and go
abbrev pub with_record_more : Records → Record → Records
with_record_more store r = record store { records = store.records ++ r ∷ [] }

-- the record comes once its handle was made
abbrev pub piped : Machine → Record → Result ℕ Stop × HandleTable → Result ℕ Stop × Machine
piped m r (Ok handle, t) = (Ok handle, record { table = t; store = with_record_more m.store r })
piped m r (Err stop, t) = (Err stop, record m { table = t })

abbrev pub pipe_asks : Machine → OpId → Kind → Record → Asks (Result ℕ Stop × Machine)
pipe_asks m own k r = bind (make_asks m.table own k None None) (λ made. Give (piped m r made))

abbrev pub input_pipe_asks : Machine → OpId → List ℕ → Asks (Result ℕ Stop × Machine)
input_pipe_asks m own bytes = pipe_asks m own (kind.PlainInput (input.Pipe (length m.store.records))) (InputPipe bytes)

abbrev pub output_pipe_asks : Machine → OpId → ℕ → Asks (Result ℕ Stop × Machine)
output_pipe_asks m own capacity = pipe_asks m own (kind.PlainOutput (output.Pipe (length m.store.records))) (OutputPipe (no_contents capacity))

-- one that has no record
abbrev pub plain_asks : Machine → OpId → Kind → Asks (Result ℕ Stop × Machine)
plain_asks m own k = bind (make_asks m.table own k None None) (λ made. Give (made.0, record m { table = made.1 }))

abbrev pub contents_at : Option Contents → Result (List ℕ) Stop
contents_at None = Err (Trap NoSuchHandle)
contents_at (Some pipe) = Ok pipe.held

-- what was written to a pipe; of another output, no such handle
abbrev pub contents_on : Machine → Option PlainOutput → Result (List ℕ) Stop
contents_on m (Some (output.Pipe place)) = contents_at (output_pipe_at m.store.records place)
contents_on m _ = Err (Trap NoSuchHandle)

abbrev pub contents_asks : Machine → ℕ → Result (List ℕ) Stop
contents_asks m handle = contents_on m (plain_output_of (kind_at m.table handle))

-- a pipe goes with its bytes
abbrev pub drop_input_pipe_at : Records → ℕ → Option (List ℕ) → Records
drop_input_pipe_at store place None = store
drop_input_pipe_at store place (Some bytes) = given_back place store

abbrev pub drop_output_pipe_at : Records → ℕ → Option Contents → Records
drop_output_pipe_at store place None = store
drop_output_pipe_at store place (Some pipe) = given_back place store

abbrev pub drop_plain_input : Records → PlainInput → Records
drop_plain_input store (input.Pipe place) = drop_input_pipe_at store place (input_pipe_at store.records place)
drop_plain_input store input.Closed = store

abbrev pub drop_plain_output : Records → PlainOutput → Records
drop_plain_output store (output.Pipe place) = drop_output_pipe_at store place (output_pipe_at store.records place)
drop_plain_output store output.Sink = store
drop_plain_output store output.Closed = store
