-- What contracts see of a read stream, and how it ends.
use Rattle.std.specs.Prelude.{◌≡◌, ◌≤◌, ◌<◌, ◌-◌, ◌⊎◌, ℕ, Bool, true, false, if◌then◌else◌, List, [], ◌++◌, length, take, min, Result, Ok, Err}
use Rattle.std.specs.List.{concat}
use Rattle.world_io.specs.Io.{Reading, Gave, HasEnded}
use Rattle.wasi_world.specs.Seen.{Rose}
use Rattle.wasi_streams.specs.declared.error.StreamError.{StreamError}
use Rattle.wasi_streams.specs.declared.error.StreamError.TheVariants.{LastOperationFailed, Closed, Trap, Memory}
use Rattle.worker_shared.specs.declared.finished.Ended.{Ended}
use Rattle.worker_shared.specs.declared.finished.Ended.TheVariants as ended
use Rattle.wasi_reader.specs.declared.stage.Stage.{Stage}
use Rattle.wasi_reader.specs.declared.stage.Stage.TheVariants as stage

pub record ReadStream : Type 0 where
  pub began : Reading  -- what was known of the source when the stream was made
  pub given : List ℕ  -- the bytes that reads gave, in order
  pub kept : List ℕ  -- what is left of the chunk that was taken last
  pub ready : Bool  -- whether it was found ready, and no chunk was taken since
  pub stopped : Bool  -- whether it was cancelled
  pub closed : Bool  -- whether a read told how it ended
  pub heard : Stage  -- what of its worker's end a read told: nothing, the end of the source, a fault, or want of memory

-- what was given of these chunks, where this is left of them
abbrev pub given_of : List (List ℕ) → List ℕ → List ℕ
given_of chunks kept = take (length (concat chunks) - length kept) (concat chunks)

-- a stream over this source that nothing was read of
abbrev pub opened : Reading → ReadStream
opened began = record { began = began; given = []; kept = []; ready = false; stopped = false; closed = false; heard = stage.Open }

-- the next read of at least one byte gives bytes or an error
abbrev pub IsReady : ReadStream → Type 0
IsReady s = (0 < length s.kept) ⊎ (s.ready ≡ true) ⊎ (s.closed ≡ true)

-- there may be nothing to read yet
pub record MayWait (s : ReadStream) : Type 0 where
  pub kept : s.kept ≡ []
  pub ready : s.ready ≡ false
  pub stopped : s.stopped ≡ false
  pub closed : s.closed ≡ false

-- From old to new a read gave these bytes, of the size that was asked for.
pub record ReadBytes (old : ReadStream) (size : ℕ) (bytes : List ℕ) (new : ReadStream) : Type 0 where
  pub stream : new ≡ record old { given = old.given ++ bytes; kept = new.kept; ready = new.ready }
  pub fits : length bytes ≤ size
  pub front : 0 < length old.kept → old.kept ≡ bytes ++ new.kept  -- what was kept comes first
  pub some : 0 < size → IsReady old → 0 < length bytes
  pub none : 0 < size → length bytes ≡ 0 → MayWait old  -- nothing only where there may be nothing yet

-- the stream once a read reported `Closed`: the end of the source, unless the stream was cancelled or a read reported an end
-- before
abbrev pub closed_of : ReadStream → ReadStream
closed_of s = if s.closed then s else if s.stopped then record s { closed = true } else record s { closed = true; heard = stage.Ended }

-- From old to new a read reported how the stream ended. Nothing that was given or kept changes.
abbrev pub EndsReads : ReadStream → ReadStream → StreamError → Type 0
EndsReads old new (LastOperationFailed code) = (old.closed ≡ false) × (new ≡ record old { closed = true; heard = stage.Failed })
EndsReads old new Closed = new ≡ closed_of old
EndsReads old new (Trap kind) = ⊥
EndsReads old new (Memory e) = (old.closed ≡ false) × (new ≡ record old { closed = true; heard = stage.Starved })

abbrev pub IsMemory : StreamError → Type 0
IsMemory (Memory e) = Unit {0}
IsMemory _ = ⊥

-- From old to new there was no memory to cut a chunk: nothing is lost of what was kept.
pub record WantsMemory (old new : ReadStream) (e : StreamError) : Type 0 where
  pub memory : IsMemory e
  pub stream : new ≡ record old { kept = new.kept; ready = new.ready }
  pub kept : 0 < length old.kept → new.kept ≡ old.kept

-- From old to new the next chunk was taken, where there is one.
pub record Refilled (old new : ReadStream) : Type 0 where
  pub stream : new ≡ record old { kept = new.kept; ready = new.ready }
  pub some : IsReady old → 0 < length new.kept
  pub none : length new.kept ≡ 0 → MayWait old

-- From old to new these bytes were cut off the front of what was kept.
pub record IsCut (old : ReadStream) (size : ℕ) (bytes : List ℕ) (new : ReadStream) : Type 0 where
  pub stream : new ≡ record old { given = old.given ++ bytes; kept = new.kept }
  pub front : old.kept ≡ bytes ++ new.kept
  pub count : length bytes ≡ min size (length old.kept)

-- the answer of a read
abbrev pub HasRead : ReadStream → ℕ → Result (List ℕ) StreamError → ReadStream → Type 0
HasRead old size (Ok bytes) new = ReadBytes old size bytes new
HasRead old size (Err e) new = EndsReads old new e ⊎ WantsMemory old new e

-- how a stream ends, whose worker is at this stage
abbrev pub outcome_of : Stage → Result (Unit {0}) Ended
outcome_of stage.Open = Err ended.Cancelled
outcome_of stage.Ended = Ok tt
outcome_of stage.Failed = Err ended.Fault
outcome_of stage.Starved = Err ended.Memory

-- what is known of the source, where the stream ends so: only at Ok it gave its end, and only at `Fault` it counted a fault
abbrev pub EndsBy : Result (Unit {0}) Ended → Reading → Reading → Type 0
EndsBy (Ok done) began now = HasEnded now × (now.faults ≡ began.faults)
EndsBy (Err ended.Fault) began now = (now.ended ≡ began.ended) × Rose began.faults now.faults
EndsBy (Err ended.Cancelled) began now = (now.ended ≡ began.ended) × (now.faults ≡ began.faults)
EndsBy (Err ended.Memory) began now = (now.ended ≡ began.ended) × (now.faults ≡ began.faults)

-- what a read reported of the worker's end is how the stream ends
abbrev pub IsOutcome : Stage → Result (Unit {0}) Ended → Type 0
IsOutcome stage.Open outcome = Unit {0}
IsOutcome stage.Ended outcome = outcome ≡ Ok tt
IsOutcome stage.Failed outcome = outcome ≡ Err ended.Fault
IsOutcome stage.Starved outcome = outcome ≡ Err ended.Memory

-- A stream was finished, with its source as it is now.
pub record HasFinished (s : ReadStream) (now : Reading) (outcome : Result (Unit {0}) Ended) : Type 0 where
  pub more : List ℕ  -- what the source gave beside it
  pub front : Gave s.began (s.given ++ more) now  -- in every case what reads gave is the front of what the source gave
  pub whole : s.heard ≡ stage.Ended → more ≡ []  -- and all of it, where a read told the end
  pub cause : EndsBy outcome s.began now
  pub told : IsOutcome s.heard outcome
