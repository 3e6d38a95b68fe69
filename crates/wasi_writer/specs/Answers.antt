-- What a write stream answers, by what its owner knows.
use Rattle.std.specs.Prelude.{◌≡◌, ◌≤◌, ◌<◌, ◌+◌, ◌-◌, ◌⊎◌, ⊤, ℕ, true, false, ◌==◌, if◌then◌else◌, List, [], ◌++◌, length, Result, Ok, Err}
use Rattle.wasi_world.specs.declared.outcome.TrapKind.{TrapKind}
use Rattle.wasi_world.specs.declared.outcome.TrapKind.TheVariants as trap
use Rattle.wasi_streams.specs.declared.error.StreamError.{StreamError}
use Rattle.wasi_streams.specs.declared.error.StreamError.TheVariants.{LastOperationFailed, Closed, Trap, Memory}
use Rattle.wasi_streams.specs.StreamError.{UnlessMemory}
use Rattle.worker_shared.specs.Ends.{End, with_chunk}
use Rattle.wasi_writer.specs.declared.task.Task.{Task}
use Rattle.wasi_writer.specs.declared.task.Task.TheVariants as task
use Rattle.wasi_writer.specs.Knows.{OwnerKnows, WorkerKnows}

-- what is known once a call was answered by this error
abbrev pub after_error : OwnerKnows → StreamError → OwnerKnows
after_error knows (LastOperationFailed code) = record knows { told = true }
after_error knows Closed = knows
after_error knows (Trap kind) = knows
after_error knows (Memory e) = knows

-- what is known once so many bytes were accepted
abbrev pub with_bytes : OwnerKnows → ℕ → OwnerKnows
with_bytes knows len = if len == 0 then knows else record knows { accepted = knows.accepted + len; pushed = knows.pushed + 1; permit = knows.permit - len; flush = false; ready = false }

-- what is known once a write of so many bytes was answered
abbrev pub after_write : OwnerKnows → ℕ → Result (Unit {0}) StreamError → OwnerKnows
after_write knows len (Ok done) = with_bytes knows len
after_write knows len (Err e) = after_error knows e

-- what is known once a flush was answered
abbrev pub after_flush : OwnerKnows → Result (Unit {0}) StreamError → OwnerKnows
after_flush knows (Ok done) = record knows { flush = true; ready = false }
after_flush knows (Err e) = after_error knows e

-- what is known once a look at the budget was answered
abbrev pub after_check : OwnerKnows → Result ℕ StreamError → OwnerKnows
after_check knows (Ok count) = record knows { permit = count }
after_check knows (Err e) = after_error knows e

-- the cause of a trap, for a write of so many bytes: it is above the budget and the permit, or a flush was accepted
abbrev pub TrapCause : ℕ → OwnerKnows → ℕ → TrapKind → Type 0
TrapCause initial knows len trap.Budget = (initial < len + knows.accepted) × (knows.permit < len)
TrapCause initial knows len trap.FlushPending = knows.flush ≡ true
TrapCause initial knows len _ = ⊥

-- the cause of an error that is no trap
abbrev pub ErrorCause : OwnerKnows → (TrapKind → Type 0) → StreamError → Type 0
ErrorCause knows P (LastOperationFailed code) = knows.told ≡ false
ErrorCause knows P Closed = (knows.told ≡ true) ⊎ (knows.stopped ≡ true)
ErrorCause knows P (Trap kind) = P kind
ErrorCause knows P (Memory e) = ⊤

module _ {A : Type 0} where
  -- an error that is no trap
  abbrev pub IsUntrapped : Result A StreamError → Type 0
  IsUntrapped (Ok done) = ⊥
  IsUntrapped (Err (Trap kind)) = ⊥
  IsUntrapped (Err e) = ⊤

  -- Once the fault was reported a call is answered `Closed`; once the stream was stopped, by the fault or `Closed`, and by no trap.
  pub record IsRefused (knows : OwnerKnows) (result : Result A StreamError) : Type 0 where
    pub told : knows.told ≡ true → UnlessMemory result (result ≡ Err Closed)
    pub stopped : knows.stopped ≡ true → IsUntrapped result

-- why the budget may be used up: a flush was accepted, or so many bytes were
abbrev pub IsFull : ℕ → OwnerKnows → Type 0
IsFull initial knows = (knows.flush ≡ true) ⊎ (initial ≤ knows.accepted)

-- the owner's end of the line, once a write of this chunk was answered
abbrev pub after_push : End → List ℕ → Result (Unit {0}) StreamError → End
after_push end chunk (Ok done) = if length chunk == 0 then end else with_chunk end chunk
after_push end chunk (Err e) = end

-- what is known, and popped, once the worker was given this task
abbrev pub HasTask : WorkerKnows → End → WorkerKnows → End → Task → Type 0
HasTask old end new end' (task.Write chunk) = (new ≡ record old { popped = old.popped + 1; hand = true; flushed = false }) × (end' ≡ with_chunk end chunk)
HasTask old end new end' task.Flush = (new ≡ record old { drained = true }) × (end' ≡ end)
HasTask old end new end' task.Stop = (new ≡ old) × (end' ≡ end)
HasTask old end new end' task.Again = (new ≡ old) × (end' ≡ end)

-- What each side knows of the other, once both are back in one place.
pub record Settled (owner : OwnerKnows) (worker : WorkerKnows) : Type 0 where
  pub popped : owner.done ≡ true → worker.met ≡ false → worker.popped ≡ owner.pushed
  pub flushed : owner.done ≡ true → worker.met ≡ false → owner.flush ≡ true → worker.flushed ≡ true
  pub told : owner.told ≡ true → worker.met ≡ true

-- What was popped is a prefix of what was pushed, and all of it once all was done without a fault.
pub record HasLeft (pushed popped : List (List ℕ)) (Done NoFault : Type 0) : Type 0 where
  pub items : List (List ℕ)
  pub in_order : pushed ≡ popped ++ items
  pub none : Done → NoFault → items ≡ []
