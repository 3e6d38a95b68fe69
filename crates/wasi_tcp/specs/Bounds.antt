-- How many asks one poll of a write makes at most.
use Rattle.std.specs.Prelude.{◌≡◌, ℕ, ◌+◌, Bool, List, length, Option, Some, None}
use Rattle.wasi_world.specs.declared.ids.OpId.{OpId}
use Rattle.wasi_world.specs.Operation.{End, Waits, Done, Refused}
use Rattle.wasi_tcp.specs.declared.job.WriteStage.{WriteStage}
use Rattle.wasi_tcp.specs.declared.writer.WriteState.{WriteState}
use Rattle.wasi_tcp.specs.declared.writer.WriteState.TheVariants as state
use Rattle.wasi_tcp.specs.Job.{Job, write_operation}
use Rattle.wasi_tcp.specs.Taken.{bytes_left}

-- What a job does is a write, at one of its stages.
pub record IsWrite (job : Job) : Type 0 where
  pub op : OpId
  pub side : OpId
  pub rest : List ℕ
  pub closing : Bool
  pub stage : WriteStage
  pub write : job.write ≡ write_operation op side rest closing stage

-- what a writing end keeps is a write
abbrev pub HoldsWrite : WriteState → Type 0
HoldsWrite (state.Ready half permit) = Unit {0}
HoldsWrite (state.Writing job) = IsWrite job
HoldsWrite (state.Closing job) = IsWrite job
HoldsWrite (state.Closed e) = Unit {0}

abbrev pub most_until : Job → End → ℕ
most_until job Waits = length (bytes_left job.write.left) + 1
most_until job (Done given) = 0
most_until job (Refused c given) = 0

-- one ask for each byte that is left, and one more, which shuts the half down; none of a job that ended
abbrev pub most_polled : Job → ℕ
most_polled job = most_until job job.end

-- the same of a writing end, which asks nothing where no write is in progress
abbrev pub most_turned : WriteState → ℕ
most_turned (state.Ready half permit) = 0
most_turned (state.Writing job) = most_polled job
most_turned (state.Closing job) = most_polled job
most_turned (state.Closed e) = 0

-- what is not taken yet of a write that is in progress
abbrev pub rest_until : Job → End → Option (List ℕ)
rest_until job Waits = Some (bytes_left job.write.left)
rest_until job (Done given) = None
rest_until job (Refused c given) = None

abbrev pub rest_of : WriteState → Option (List ℕ)
rest_of (state.Ready half permit) = None
rest_of (state.Writing job) = rest_until job job.end
rest_of (state.Closing job) = rest_until job job.end
rest_of (state.Closed e) = None

-- how many bytes that is; none of a write that is over
abbrev pub length_of : Option (List ℕ) → ℕ
length_of None = 0
length_of (Some rest) = length rest

-- how many bytes a writing end may be given, or still has to write
abbrev pub held : WriteState → ℕ
held (state.Ready half permit) = permit
held (state.Writing job) = length_of (rest_until job job.end)
held (state.Closing job) = length_of (rest_until job job.end)
held (state.Closed e) = 0
