-- The errors of host calls, made of others.
use Rattle.wasi_addr.specs.declared.p2.ErrorCode.{ErrorCode as P2Code}
use Rattle.wasi_addr.specs.Code.{p2_of_code}
use Rattle.wasi_world.specs.declared.outcome.Refusal.{Refusal}
use Rattle.wasi_world.specs.declared.outcome.Refusal.TheVariants as refusal
use Rattle.wasi_streams.specs.declared.fault.Fault.{Fault}
use Rattle.wasi_streams.specs.declared.fault.Fault.TheVariants as fault
use Rattle.wasi_streams.specs.declared.fault.HostError.{HostError}
use Rattle.wasi_streams.specs.declared.fault.HostError.TheVariants.{Code, Trap, Memory}

-- a trap and out of memory stay what they are
abbrev pub of_fault : {C : Type 0} → Fault → HostError C
of_fault (fault.Trap k) = Trap k
of_fault (fault.Memory e) = Memory e

-- a code by its 0.2 name
abbrev pub of_refusal : Refusal → HostError P2Code
of_refusal (refusal.Code c) = Code (p2_of_code c)
of_refusal (refusal.Memory e) = Memory e
