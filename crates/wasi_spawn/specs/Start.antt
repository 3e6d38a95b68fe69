-- What comes back of a start that failed.
use Rattle.std.specs.Prelude.{ℕ, ⊤, List, Contains}
use Rattle.wasi_world.specs.Seen.{Rose, one_more}
use Rattle.wasi_spawn.specs.declared.job.StartError.{StartError}
use Rattle.wasi_spawn.specs.declared.job.StartError.TheVariants.{NoWorker, Memory}

module _ {T : Type 0} where
  -- the job that comes back
  abbrev pub job_of : StartError T → T
  job_of (NoWorker job) = job
  job_of (Memory job) = job

  -- where no worker was to be had, a refusal was counted
  abbrev pub RefusedAs : StartError T → ℕ → ℕ → Type 0
  RefusedAs (NoWorker job) old new = Rose old new
  RefusedAs (Memory job) old new = ⊤

-- The start after so many is one of those that are refused. Their numbers count from 1, in 32 bits.
abbrev pub IsRefused : List ℕ → ℕ → Type 0
IsRefused refuse tried = Contains refuse (one_more tried)
