-- What contracts see of a write stream, and how it ends.
use Rattle.std.specs.Prelude.{◌≡◌, ◌-◌, ℕ, Bool, true, false, List, [], ◌∷◌, ◌++◌, ◌==◌, if◌then◌else◌, length, Result, Ok, Err, OnOk, IfErr}
use Rattle.std.specs.List.{concat}
use Rattle.world_io.specs.Io.{Writing, CountRose}
use Rattle.world_io.specs.Written.{TookAll, TookFront}
use Rattle.wasi_streams.specs.declared.error.StreamError.{StreamError}
use Rattle.wasi_streams.specs.declared.error.StreamError.TheVariants.{LastOperationFailed, Closed, Trap, Memory}
use Rattle.worker_shared.specs.declared.finished.Ended.{Ended}
use Rattle.worker_shared.specs.declared.finished.Ended.TheVariants as ended
use Rattle.wasi_writer.specs.Knows.{OwnerKnows}
use Rattle.wasi_writer.specs.Worked.{IsFlushed}

pub record WriteStream : Type 0 where
  pub began : Writing  -- what was known of the sink when the stream was made
  pub chunks : List (List ℕ)  -- the chunks that were accepted, in order
  pub permit : ℕ  -- how many bytes may be written at once: what the last look told, less what was accepted since
  pub flush : Bool  -- whether a flush was accepted, and no byte after it
  pub ready : Bool  -- whether it was found ready, and no write or flush was accepted since
  pub told : Bool  -- whether the fault was told
  pub stopped : Bool  -- whether it was cancelled

-- a stream over this sink that nothing was written to
abbrev pub opened : Writing → WriteStream
opened began = record { began = began; chunks = []; permit = 0; flush = false; ready = false; told = false; stopped = false }

-- how many bytes were accepted
abbrev pub accepted : WriteStream → ℕ
accepted s = length (concat s.chunks)

-- what its owner knows under the lock
abbrev pub knows_of : WriteStream → OwnerKnows
knows_of s = record { accepted = accepted s; pushed = length s.chunks; permit = s.permit; flush = s.flush; ready = s.ready; told = s.told; stopped = s.stopped; done = false }

-- the stream once a call was answered by this error
abbrev pub with_error : WriteStream → StreamError → WriteStream
with_error s (LastOperationFailed code) = record s { told = true }
with_error s Closed = s
with_error s (Trap kind) = s
with_error s (Memory e) = s

-- the stream once these bytes were accepted: they are a chunk, unless there are none
abbrev pub with_bytes : WriteStream → List ℕ → WriteStream
with_bytes s bytes = if length bytes == 0 then s else record s { chunks = s.chunks ++ bytes ∷ []; permit = s.permit - length bytes; flush = false; ready = false }

-- the stream once a write of these bytes was answered
abbrev pub after_write : WriteStream → List ℕ → Result (Unit {0}) StreamError → WriteStream
after_write s bytes (Ok done) = with_bytes s bytes
after_write s bytes (Err e) = with_error s e

-- the stream once a flush was answered
abbrev pub after_flush : WriteStream → Result (Unit {0}) StreamError → WriteStream
after_flush s (Ok done) = record s { flush = true; ready = false }
after_flush s (Err e) = with_error s e

-- the stream once a look at its budget was answered
abbrev pub after_check : WriteStream → Result ℕ StreamError → WriteStream
after_check s (Ok count) = record s { permit = count }
after_check s (Err e) = with_error s e

-- how a stream ends, where its worker failed or not, and it was cancelled or not
abbrev pub outcome_of : Bool → Bool → Result (Unit {0}) Ended
outcome_of true cancelled = Err ended.Fault
outcome_of false true = Err ended.Cancelled
outcome_of false false = Ok tt

-- why a stream ended early: the sink counted a fault or a refused piece, or its owner cancelled it
abbrev pub EndCause : WriteStream → Writing → Ended → Type 0
EndCause s now ended.Fault = CountRose s.began now
EndCause s now ended.Cancelled = s.stopped ≡ true
EndCause s now ended.Memory = ⊥

-- A stream was finished, with its sink as it is now.
pub record HasFinished (s : WriteStream) (now : Writing) (outcome : Result (Unit {0}) Ended) : Type 0 where
  pub front : TookFront s.began (concat s.chunks) now  -- in every case the sink took the front of what was accepted
  pub whole : OnOk outcome (TookAll s.began (concat s.chunks) now)  -- at Ok all of it
  pub flushed : OnOk outcome (s.flush ≡ true → IsFlushed now)  -- and it was flushed, where a flush was accepted and no byte after it
  pub uncancelled : OnOk outcome (s.stopped ≡ false)
  pub cause : IfErr outcome (λ e. EndCause s now e)
  pub told : s.told ≡ true → outcome ≡ Err ended.Fault
