-- What each side of a read stream knows while the other has the lock.
use Rattle.std.specs.Prelude.{ℕ, Bool, false}
use Rattle.wasi_reader.specs.declared.stage.Stage.{Stage}
use Rattle.wasi_reader.specs.declared.stage.Stage.TheVariants.{Open}

pub record OwnerKnows : Type 0 where
  pub popped : ℕ  -- how many chunks were popped
  pub ready : Bool  -- whether the stream was found ready, and nothing was taken since
  pub stopped : Bool
  pub heard : Stage  -- what it was told of the worker's end

pub record WorkerKnows : Type 0 where
  pub pushed : ℕ  -- how many chunks were pushed
  pub stage : Stage

-- what is known of a new stream
abbrev pub nothing_yet : OwnerKnows
nothing_yet = record { popped = 0; ready = false; stopped = false; heard = Open }

-- what is known of a worker that did nothing yet
abbrev pub idle : WorkerKnows
idle = record { pushed = 0; stage = Open }
