-- The two ends of a connection, as things to wait for.
use Rattle.std.specs.Prelude.{Bool, true, false, Result, Ok, Err}
use Rattle.wasi_world.specs.declared.ids.OpId.{OpId}
use Rattle.wasi_world.specs.declared.outcome.Answer.{Answer}
use Rattle.wasi_world.specs.declared.outcome.Answer.TheVariants.{Ready, Pending}
use Rattle.wasi_world.specs.Asks.{Asks, Give, bind}
use Rattle.wasi_streams.specs.StreamStop.{StreamStop}
use Rattle.wasi_tcp.specs.declared.reader.ReadState.{ReadState}
use Rattle.wasi_tcp.specs.declared.writer.WriteState.{WriteState}
use Rattle.wasi_tcp.specs.Reader.{reader_ready_asks}
use Rattle.wasi_tcp.specs.Writer.{look_asks, flush_of}

abbrev pub is_come : Answer (Unit {0}) → Bool
is_come (Ready done) = true
is_come Pending = false

-- an error has come too
abbrev pub is_told : Result (Answer (Unit {0})) StreamStop → Bool
is_told (Ok answer) = is_come answer
is_told (Err stop) = true

abbrev pub reader_waits : OpId → ReadState → Asks (Bool × ReadState)
reader_waits op s = bind (reader_ready_asks op s) (λ done. Give (is_come done.0, done.1))

abbrev pub writer_waits : OpId → WriteState → Asks (Bool × WriteState)
writer_waits op s = bind (look_asks op s) (λ looked. Give (is_told looked.0, looked.1))

-- a flush asks nothing
abbrev pub flush_asks : OpId → WriteState → Asks (Result (Unit {0}) StreamStop × WriteState)
flush_asks op s = Give (flush_of s, s)
