-- What the lock of a read stream keeps: how the core relates to what each side knows.
use Rattle.std.specs.Prelude.{◌≡◌, ◌+◌, Bool, true, false, length, None}
use Rattle.std.specs.Option.{option_to_list}
use Rattle.wasi_pipes.specs.declared.cores.fault.WorkerFault.{WorkerFault}
use Rattle.wasi_pipes.specs.declared.cores.fault.WorkerFault.TheVariants.{Unmet, Kept, Told}
use Rattle.wasi_pipes.specs.declared.cores.read.ReadFault.{ReadFault}
use Rattle.wasi_pipes.specs.declared.cores.read.ReadFault.TheVariants as fault
use Rattle.wasi_pipes.specs.ReadState.{ReadState, is_ready}
use Rattle.wasi_reader.specs.declared.stage.Stage.{Stage}
use Rattle.wasi_reader.specs.declared.stage.Stage.TheVariants.{Open, Ended, Failed, Starved}
use Rattle.wasi_reader.specs.Knows.{OwnerKnows, WorkerKnows}

-- the stage that a fault ends
abbrev pub stage_of : ReadFault → Stage
stage_of (fault.Failed code) = Failed
stage_of fault.Starved = Starved

-- how far the worker is, by its fault and whether it met the end
abbrev pub stage_by : WorkerFault ReadFault → Bool → Stage
stage_by Unmet false = Open
stage_by Unmet true = Ended
stage_by (Kept fault) ended = stage_of fault
stage_by (Told fault) ended = stage_of fault

-- the fault that was reported
abbrev pub told_by : WorkerFault ReadFault → Stage
told_by Unmet = Open
told_by (Kept fault) = Open
told_by (Told fault) = stage_of fault

-- the fault that was heard: an end is none
abbrev pub fault_in : Stage → Stage
fault_in Open = Open
fault_in Ended = Open
fault_in Failed = Failed
fault_in Starved = Starved

pub record Keeps (s : ReadState) (owner : OwnerKnows) (worker : WorkerKnows) : Type 0 where
  pub chunks : owner.popped + length (option_to_list s.slot) ≡ worker.pushed  -- the line holds as many chunks as the slot
  pub stage : worker.stage ≡ stage_by s.flags.fault s.flags.ended
  pub ready : owner.ready ≡ true → is_ready s ≡ true
  pub stopped : owner.stopped ≡ s.flags.stopped
  pub told : fault_in owner.heard ≡ told_by s.flags.fault
  pub ended : owner.heard ≡ Ended → worker.stage ≡ Ended
  pub taken : owner.heard ≡ Ended → s.slot ≡ None
