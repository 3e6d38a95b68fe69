-- What the lock of a write stream keeps: how the core relates to what each side knows.
use Rattle.std.specs.Prelude.{◌≡◌, ◌≤◌, ◌+◌, ℕ, Bool, true, false, [], length, sum, is_some}
use Rattle.wasi_addr.specs.declared.code.ErrorCode.{ErrorCode}
use Rattle.wasi_pipes.specs.declared.cores.fault.WorkerFault.{WorkerFault}
use Rattle.wasi_pipes.specs.declared.cores.fault.WorkerFault.TheVariants.{Unmet, Kept, Told}
use Rattle.wasi_pipes.specs.Fault.{is_met}
use Rattle.wasi_pipes.specs.WriteState.{WriteState, initial_of, outstanding, is_ready}
use Rattle.wasi_writer.specs.Knows.{OwnerKnows, WorkerKnows}

-- whether the fault was reported
abbrev pub is_told : WorkerFault ErrorCode → Bool
is_told Unmet = false
is_told (Kept code) = false
is_told (Told code) = true

-- all that was accepted is written, and no flush is pending
pub record IsSettled (s : WriteState) : Type 0 where
  pub written : outstanding s ≡ []
  pub flushed : s.flags.flushing ≡ false

-- the budget equation, and how many bytes and chunks there are
pub record KeepsCounts (initial : ℕ) (s : WriteState) (owner : OwnerKnows) (worker : WorkerKnows) : Type 0 where
  pub budget : initial_of s ≡ initial
  pub accepted : sum (outstanding s) ≤ owner.accepted  -- no more is unwritten than was accepted
  pub permit : owner.permit ≤ s.budget
  pub chunks : worker.popped + length s.queued ≡ owner.pushed  -- as many chunks are in the line as lengths are queued

-- what the owner knows
pub record KeepsOwner (s : WriteState) (owner : OwnerKnows) (worker : WorkerKnows) : Type 0 where
  pub flush : s.flags.flushing ≡ true → owner.flush ≡ true
  pub ready : owner.ready ≡ true → is_ready s ≡ true
  pub told : owner.told ≡ is_told s.flags.fault
  pub stopped : owner.stopped ≡ s.flags.stopped
  pub done : owner.done ≡ true → owner.stopped ≡ true
  pub settled : owner.done ≡ true → worker.met ≡ false → IsSettled s

-- what the worker knows
pub record KeepsWorker (s : WriteState) (owner : OwnerKnows) (worker : WorkerKnows) : Type 0 where
  pub met : worker.met ≡ is_met s.flags.fault
  pub hand : worker.hand ≡ is_some s.hand
  pub pending : worker.drained ≡ true → s.flags.flushing ≡ true
  pub drained : worker.drained ≡ true → outstanding s ≡ []

-- a flush that was accepted is pending or done: then all is written, and the sink was flushed after it
pub record KeepsFlush (s : WriteState) (owner : OwnerKnows) (worker : WorkerKnows) : Type 0 where
  pub written : owner.flush ≡ true → s.flags.flushing ≡ false → worker.met ≡ false → outstanding s ≡ []
  pub flushed : owner.flush ≡ true → s.flags.flushing ≡ false → worker.met ≡ false → worker.flushed ≡ true
