-- How the calls of 0.3 end, with codes of any type.
use Rattle.std.specs.Prelude.{ℕ, Result, Ok, Err}
use Rattle.std.specs.declared.alloc.AllocError.{AllocError}
use Rattle.wasi_addr.specs.declared.code.ErrorCode.{ErrorCode}
use Rattle.wasi_addr.specs.declared.p3.ErrorCode.{ErrorCode as P3Code}
use Rattle.wasi_addr.specs.Code.{p3_of_code}
use Rattle.wasi_world.specs.declared.outcome.Refusal.{Refusal}
use Rattle.wasi_world.specs.declared.outcome.Refusal.TheVariants as refusal
use Rattle.wasi_streams.specs.declared.fault.HostError.{HostError}
use Rattle.wasi_streams.specs.declared.fault.HostError.TheVariants as error
use Rattle.record_common.specs.Stops.{StopOf, Code, Trap}
pub use Rattle.host_store.specs.BaseStops.{ends_as, trap_of}

-- that of a call of a socket
abbrev pub P3Stop : Type 0
P3Stop = StopOf P3Code

-- a code by its 0.3 name
abbrev pub p3_stop : ErrorCode → P3Stop
p3_stop c = Code (p3_of_code c)

-- what a socket told, by the 0.3 name of its code
abbrev pub p3_told : {T : Type 0} → Result T ErrorCode → Result T P3Stop
p3_told (Ok value) = Ok value
p3_told (Err c) = Err (p3_stop c)

-- the same of what the code answers
abbrev pub p3_outcome : {T : Type 0} → Result T Refusal → Result (Result T P3Stop) AllocError
p3_outcome (Ok value) = Ok (Ok value)
p3_outcome (Err (refusal.Code c)) = Ok (Err (p3_stop c))
p3_outcome (Err (refusal.Memory e)) = Err e

-- it is a code or a trap, of which this holds
abbrev pub IsStopOf : {C : Type 0} → HostError C → (StopOf C → Type 0) → Type 0
IsStopOf (error.Code c) P = P (Code c)
IsStopOf (error.Trap k) P = P (Trap k)
IsStopOf (error.Memory e) P = ⊥
