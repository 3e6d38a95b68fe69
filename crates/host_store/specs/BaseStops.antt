-- How calls end, with codes of any type, and the names that an interface gives them.
use Rattle.std.specs.Prelude.{Result, Ok, Err}
use Rattle.std.specs.declared.alloc.AllocError.{AllocError}
use Rattle.wasi_addr.specs.declared.code.ErrorCode.{ErrorCode}
use Rattle.wasi_world.specs.declared.outcome.Refusal.{Refusal}
use Rattle.wasi_world.specs.declared.outcome.Refusal.TheVariants as refusal
use Rattle.wasi_world.specs.declared.outcome.TrapKind.TheVariants.{Full}
use Rattle.wasi_streams.specs.declared.fault.HostError.{HostError}
use Rattle.wasi_streams.specs.declared.fault.HostError.TheVariants as error
use Rattle.record_common.specs.Stops.{Stop, StopOf, Code, Trap}

-- that of a call whose codes have no interface's names yet
abbrev pub BaseStop : Type 0
BaseStop = StopOf ErrorCode

-- a code and a trap are answers; only running out of memory isn't
abbrev pub ends_as : {C T : Type 0} → Result T (HostError C) → Result (Result T (StopOf C)) AllocError
ends_as (Ok value) = Ok (Ok value)
ends_as (Err (error.Code c)) = Ok (Err (Code c))
ends_as (Err (error.Trap k)) = Ok (Err (Trap k))
ends_as (Err (error.Memory e)) = Err e

-- the same of what a socket answered
abbrev pub base_outcome : {T : Type 0} → Result T Refusal → Result (Result T BaseStop) AllocError
base_outcome (Ok value) = Ok (Ok value)
base_outcome (Err (refusal.Code c)) = Ok (Err (Code c))
base_outcome (Err (refusal.Memory e)) = Err e

-- with other names for its codes
abbrev pub renamed : {C D : Type 0} → (C → D) → StopOf C → StopOf D
renamed name (Code c) = Code (name c)
renamed name (Trap k) = Trap k

abbrev pub told_as : {C D T : Type 0} → (C → D) → Result T (StopOf C) → Result T (StopOf D)
told_as name (Ok value) = Ok value
told_as name (Err stop) = Err (renamed name stop)

abbrev pub named_as : {C D T : Type 0} → (C → D) → Result (Result T (StopOf C)) AllocError → Result (Result T (StopOf D)) AllocError
named_as name (Ok told) = Ok (told_as name told)
named_as name (Err e) = Err e

-- the trap in place of a handle; the table gives no code
abbrev pub trap_of : {C : Type 0} → Stop → StopOf C
trap_of (Trap k) = Trap k
trap_of (Code c) = Trap Full
