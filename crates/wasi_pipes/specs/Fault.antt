-- A worker's fault, which its owner is told once.
use Rattle.std.specs.Prelude.{Bool, true, false, Option, Some, None}
use Rattle.wasi_pipes.specs.declared.cores.fault.WorkerFault.{WorkerFault}
use Rattle.wasi_pipes.specs.declared.cores.fault.WorkerFault.TheVariants.{Unmet, Kept, Told}

-- the cause of a kept fault
abbrev pub kept_cause : {C : Type 0} → WorkerFault C → Option C
kept_cause Unmet = None
kept_cause (Kept cause) = Some cause
kept_cause (Told cause) = None

-- the fault once the owner was told of a kept one
abbrev pub after_telling : {C : Type 0} → WorkerFault C → WorkerFault C
after_telling Unmet = Unmet
after_telling (Kept cause) = Told cause
after_telling (Told cause) = Told cause

-- whether there was a fault, kept or reported
abbrev pub is_met : {C : Type 0} → WorkerFault C → Bool
is_met Unmet = false
is_met (Kept cause) = true
is_met (Told cause) = true
