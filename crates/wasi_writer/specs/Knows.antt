-- What each side of a write stream knows while the other has the lock.
use Rattle.std.specs.Prelude.{ℕ, Bool, false}

pub record OwnerKnows : Type 0 where
  pub accepted : ℕ  -- how many bytes were accepted
  pub pushed : ℕ  -- how many chunks were pushed
  pub permit : ℕ  -- how many bytes may be written at once: what the last look told, less what was accepted since
  pub flush : Bool  -- whether a flush was accepted, and no byte after it
  pub ready : Bool  -- whether the stream was found ready, and no write or flush was accepted since
  pub told : Bool  -- whether the fault was told
  pub stopped : Bool
  pub done : Bool  -- whether nothing was left to wait for when it was stopped

pub record WorkerKnows : Type 0 where
  pub popped : ℕ  -- how many chunks were popped
  pub met : Bool  -- whether a fault was met
  pub hand : Bool  -- whether a chunk is in hand
  pub drained : Bool  -- whether a flush was found pending, with all written, and isn't done
  pub flushed : Bool  -- whether the sink was flushed after the last chunk that was popped

-- what is known of a new stream
abbrev pub nothing_yet : OwnerKnows
nothing_yet = record { accepted = 0; pushed = 0; permit = 0; flush = false; ready = false; told = false; stopped = false; done = false }

-- what is known of a worker that did nothing yet
abbrev pub idle : WorkerKnows
idle = record { popped = 0; met = false; hand = false; drained = false; flushed = false }
