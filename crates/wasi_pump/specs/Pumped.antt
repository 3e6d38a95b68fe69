-- What a pump makes of its source and its sink.
use Rattle.std.specs.Prelude.{◌≡◌, ℕ, List, [], length, Option, Some, Result, Ok, Err}
use Rattle.world_io.specs.Io.{Reading, Writing, Gave, Took, HasEnded, CountRose}
use Rattle.world_io.specs.Written.{TookAll, TookFront}
use Rattle.wasi_world.specs.Seen.{Rose}
use Rattle.worker_shared.specs.declared.finished.Ended.{Ended}
use Rattle.worker_shared.specs.declared.finished.Ended.TheVariants as ended
use Rattle.wasi_writer.specs.Worked.{IsFlushed}
use Rattle.wasi_pump.specs.declared.error.PumpError.{PumpError}
use Rattle.wasi_pump.specs.declared.error.PumpError.TheVariants.{NoBudget, NoWorker, SourceFault, SinkFault, Memory}
use Rattle.wasi_pump.specs.Copying.{counted}

-- The source gave its end, the sink took exactly what the source gave, so many bytes, and was flushed.
pub record MovedAll (s s' : Reading) (k k' : Writing) (count : ℕ) : Type 0 where
  pub bytes : List ℕ
  pub gave : Gave s bytes s'
  pub ended : HasEnded s'
  pub took : TookAll k bytes k'
  pub flushed : IsFlushed k'
  pub count_is : count ≡ counted (length bytes)

-- The sink took a prefix of what the source gave.
pub record MovedFront (s s' : Reading) (k k' : Writing) : Type 0 where
  pub bytes : List ℕ
  pub gave : Gave s bytes s'
  pub took : TookFront k bytes k'

-- Nothing was read, and the sink took nothing.
pub record MovedNone (s s' : Reading) (k k' : Writing) : Type 0 where
  pub source : s' ≡ s
  pub sink : Took k [] k'

-- the cause of each outcome, and what was moved
abbrev pub PumpEnds : Reading → Reading → Writing → Writing → Result ℕ PumpError → Type 0
PumpEnds s s' k k' (Ok count) = MovedAll s s' k k' count
PumpEnds s s' k k' (Err NoBudget) = (s' ≡ s) × (k' ≡ k)
PumpEnds s s' k k' (Err NoWorker) = MovedNone s s' k k'
PumpEnds s s' k k' (Err SourceFault) = MovedFront s s' k k' × Rose s.faults s'.faults
PumpEnds s s' k k' (Err SinkFault) = MovedFront s s' k k' × CountRose k k' × (s'.faults ≡ s.faults)
PumpEnds s s' k k' (Err Memory) = MovedFront s s' k k' × (s'.faults ≡ s.faults)

-- how a pump ends, whose streams ended so; the count is there where the end was read and a flush was accepted
abbrev pub outcome_of : Option ℕ → Result (Unit {0}) Ended → Result (Unit {0}) Ended → Result ℕ PumpError
outcome_of moved (Err ended.Fault) written = Err SourceFault
outcome_of moved (Ok read) (Err ended.Fault) = Err SinkFault
outcome_of moved (Err ended.Cancelled) (Err ended.Fault) = Err SinkFault
outcome_of moved (Err ended.Memory) (Err ended.Fault) = Err SinkFault
outcome_of (Some count) (Ok read) (Ok written) = Ok count
outcome_of _ _ _ = Err Memory
