-- What the lock of a read stream answers, by what each side knows.
use Rattle.std.specs.Prelude.{◌≡◌, ◌<◌, ◌+◌, ℕ, false, if◌then◌else◌, List, [], ◌∷◌, ◌++◌, length}
use Rattle.wasi_streams.specs.declared.error.StreamError.{StreamError}
use Rattle.wasi_streams.specs.declared.error.StreamError.TheVariants.{LastOperationFailed, Closed, Trap, Memory}
use Rattle.worker_shared.specs.Ends.{End, with_chunk}
use Rattle.wasi_reader.specs.declared.stage.Stage.{Stage}
use Rattle.wasi_reader.specs.declared.stage.Stage.TheVariants.{Open, Ended, Failed, Starved}
use Rattle.wasi_reader.specs.declared.taken.Taken.{Taken}
use Rattle.wasi_reader.specs.declared.taken.Taken.TheVariants as taken
use Rattle.wasi_reader.specs.declared.taken.Offered.{Offered}
use Rattle.wasi_reader.specs.declared.taken.Offered.TheVariants as offered
use Rattle.wasi_reader.specs.Knows.{OwnerKnows, WorkerKnows}

-- what is known once the owner was answered by this error: `Closed` reports the end, unless the stream was stopped
abbrev pub after_told : OwnerKnows → StreamError → OwnerKnows
after_told knows (LastOperationFailed code) = record knows { heard = Failed }
after_told knows (Memory e) = record knows { heard = Starved }
after_told knows Closed = if knows.stopped then knows else record knows { heard = Ended }
after_told knows (Trap kind) = knows

-- no trap is reported
abbrev pub IsNoTrap : StreamError → Type 0
IsNoTrap (Trap kind) = ⊥
IsNoTrap _ = Unit {0}

-- what the owner knows, and popped, once it was given this: nothing only where it didn't know the stream to be ready
abbrev pub HasTaken : OwnerKnows → End → OwnerKnows → End → Taken → Type 0
HasTaken old end new end' (taken.Chunk chunk) = (new ≡ record old { popped = old.popped + 1; ready = false }) × (end' ≡ with_chunk end chunk) × (0 < length chunk)
HasTaken old end new end' taken.Nothing = (new ≡ old) × (end' ≡ end) × (old.ready ≡ false) × (old.stopped ≡ false)
HasTaken old end new end' (taken.Told e) = (new ≡ after_told old e) × (end' ≡ end) × IsNoTrap e

-- what the owner knows once it found the slot empty
abbrev pub TakesNone : OwnerKnows → OwnerKnows → Taken → Type 0
TakesNone old new (taken.Chunk chunk) = ⊥
TakesNone old new taken.Nothing = (new ≡ old) × (old.ready ≡ false) × (old.stopped ≡ false)
TakesNone old new (taken.Told e) = (new ≡ after_told old e) × IsNoTrap e

-- what the worker knows, and pushed, once its chunk had this fate
abbrev pub HasOffered : WorkerKnows → End → List ℕ → WorkerKnows → End → Offered → Type 0
HasOffered old end chunk new end' offered.Put = (new ≡ record old { pushed = old.pushed + 1 }) × (end' ≡ with_chunk end chunk)
HasOffered old end chunk new end' (offered.Full back) = (new ≡ old) × (end' ≡ end) × (back ≡ chunk)
HasOffered old end chunk new end' offered.Stopped = (new ≡ old) × (end' ≡ end)
HasOffered old end chunk new end' offered.Refused = (new ≡ old) × (end' ≡ end)

-- the chunk isn't handed back
abbrev pub IsDone : Offered → Type 0
IsDone (offered.Full back) = ⊥
IsDone _ = Unit {0}

-- what was heard is how the worker ended
abbrev pub IsHeard : Stage → Stage → Type 0
IsHeard Open stage = Unit {0}
IsHeard Ended stage = stage ≡ Ended
IsHeard Failed stage = stage ≡ Failed
IsHeard Starved stage = stage ≡ Starved

-- What each side knows of the other, once both are back in one place.
pub record Settled (owner : OwnerKnows) (worker : WorkerKnows) : Type 0 where
  pub heard : IsHeard owner.heard worker.stage
  pub popped : owner.heard ≡ Ended → owner.popped ≡ worker.pushed

-- What was popped is a prefix of what was pushed, and all of it where as many were popped.
pub record HasLeft (pushed popped : List (List ℕ)) : Type 0 where
  pub items : List (List ℕ)
  pub in_order : pushed ≡ popped ++ items
  pub none : length popped ≡ length pushed → items ≡ []
