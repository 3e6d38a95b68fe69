-- How calls of streams end.
use Rattle.std.specs.Prelude.{ℕ, Result, Ok, Err}
use Rattle.std.specs.declared.alloc.AllocError.{AllocError}
use Rattle.wasi_addr.specs.declared.code.ErrorCode.{ErrorCode}
use Rattle.wasi_world.specs.declared.outcome.TrapKind.{TrapKind}
use Rattle.wasi_world.specs.declared.outcome.TrapKind.TheVariants.{Full, NoSuchHandle}
use Rattle.wasi_streams.specs.declared.error.StreamError.{StreamError}
use Rattle.wasi_streams.specs.declared.error.StreamError.TheVariants as told
use Rattle.wasi_streams.specs.StreamStop.{StreamStop}
use Rattle.wasi_streams.specs.StreamStop as stop
use Rattle.host_store.specs.declared.error.CallError.{CallError}
use Rattle.host_store.specs.declared.error.CallError.TheVariants as stream
use Rattle.wasi_streams.specs.declared.fault.Fault.{Fault}
use Rattle.wasi_streams.specs.declared.fault.Fault.TheVariants as fault
use Rattle.record_common.specs.Stops.{Code, Stop, Trap}

-- why a call of a stream gave no value, other than for lack of memory
pub data CallStop : Type 0 where
  Failed : ErrorCode → ℕ → CallStop  -- with the handle of the error
  Closed : CallStop
  Traps : TrapKind → CallStop

abbrev pub call_outcome : {T : Type 0} → Result T CallError → Result (Result T CallStop) AllocError
call_outcome (Ok t) = Ok (Ok t)
call_outcome (Err (stream.Failed c e)) = Ok (Err (Failed c e))
call_outcome (Err stream.Closed) = Ok (Err Closed)
call_outcome (Err (stream.Trap k)) = Ok (Err (Traps k))
call_outcome (Err (stream.Memory e)) = Err e

-- a trap and out of memory stay what they are
abbrev pub call_fault : Fault → CallError
call_fault (fault.Trap k) = stream.Trap k
call_fault (fault.Memory e) = stream.Memory e

-- the error alone
abbrev pub error_outcome : CallError → Result CallStop AllocError
error_outcome (stream.Failed c e) = Ok (Failed c e)
error_outcome stream.Closed = Ok Closed
error_outcome (stream.Trap k) = Ok (Traps k)
error_outcome (stream.Memory e) = Err e

-- a handle of an error, or the trap in its place; a table gives no code
abbrev pub failed_with : ErrorCode → Result ℕ Stop → CallStop
failed_with c (Ok e) = Failed c e
failed_with c (Err (Trap k)) = Traps k
failed_with c (Err (Code d)) = Traps Full

-- it is none but out of memory, of which this holds
abbrev pub IsCallStop : CallError → (CallStop → Type 0) → Type 0
IsCallStop (stream.Failed c e) P = P (Failed c e)
IsCallStop stream.Closed P = P Closed
IsCallStop (stream.Trap k) P = P (Traps k)
IsCallStop (stream.Memory e) P = ⊥

-- of a stream that doesn't fail: its end, a trap and out of memory stay what they are
abbrev pub plain_outcome : {T : Type 0} → Result T StreamError → Result (Result T CallStop) AllocError
plain_outcome (Ok value) = Ok (Ok value)
plain_outcome (Err (told.LastOperationFailed c)) = Ok (Err (Traps NoSuchHandle))
plain_outcome (Err told.Closed) = Ok (Err Closed)
plain_outcome (Err (told.Trap k)) = Ok (Err (Traps k))
plain_outcome (Err (told.Memory e)) = Err e

-- the same of what the code answers
abbrev pub failed_outcome : ErrorCode → Result ℕ Fault → Result CallStop AllocError
failed_outcome c (Ok e) = Ok (Failed c e)
failed_outcome c (Err (fault.Trap k)) = Ok (Traps k)
failed_outcome c (Err (fault.Memory e)) = Err e

-- of an error of a stream that isn't out of memory this holds
abbrev pub IsStreamStop : StreamError → (StreamStop → Type 0) → Type 0
IsStreamStop (told.LastOperationFailed c) P = P (stop.Failed c)
IsStreamStop told.Closed P = P stop.Closed
IsStreamStop (told.Trap k) P = P (stop.Trap k)
IsStreamStop (told.Memory e) P = Unit {0}

-- and of one that is
abbrev pub IfStreamMemory : StreamError → (AllocError → Type 0) → Type 0
IfStreamMemory (told.Memory e) P = P e
IfStreamMemory _ P = Unit {0}
