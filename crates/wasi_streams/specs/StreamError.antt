-- Answers that may be out of memory.
use Rattle.std.specs.Prelude.{Result, Ok, Err}
use Rattle.wasi_streams.specs.declared.error.StreamError.{StreamError}
use Rattle.wasi_streams.specs.declared.error.StreamError.TheVariants.{LastOperationFailed, Closed, Trap, Memory}

-- a fact for when memory runs out
abbrev pub OnMemory : {A : Type 0} → Result A StreamError → Type 0 → Type 0
OnMemory (Ok value) P = Unit {0}
OnMemory (Err (LastOperationFailed code)) P = Unit {0}
OnMemory (Err Closed) P = Unit {0}
OnMemory (Err (Trap kind)) P = Unit {0}
OnMemory (Err (Memory e)) P = P

-- a fact for every other answer
abbrev pub UnlessMemory : {A : Type 0} → Result A StreamError → Type 0 → Type 0
UnlessMemory (Ok value) P = P
UnlessMemory (Err (LastOperationFailed code)) P = P
UnlessMemory (Err Closed) P = P
UnlessMemory (Err (Trap kind)) P = P
UnlessMemory (Err (Memory e)) P = Unit {0}
