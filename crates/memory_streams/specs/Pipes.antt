-- What contracts see of pipes in memory, and what their calls answer.
use Rattle.std.specs.Prelude.{◌≡◌, ◌<◌, ◌≤◌, ◌+◌, ◌-◌, ℕ, List, [], ◌++◌, length, take, drop, Result, Ok, Err}
use Rattle.wasi_world.specs.declared.outcome.TrapKind.{TrapKind}
use Rattle.wasi_world.specs.declared.outcome.TrapKind.TheVariants as trap
use Rattle.wasi_streams.specs.declared.error.StreamError.{StreamError}
use Rattle.wasi_streams.specs.declared.error.StreamError.TheVariants.{LastOperationFailed, Closed, Trap, Memory}

-- the answer of a read of at most so many of the bytes that are left, and what is left then
abbrev pub HasRead : List ℕ → ℕ → Result (List ℕ) StreamError → List ℕ → Type 0
HasRead old size (Ok bytes) new = (0 < length old) × (bytes ≡ take size old) × (new ≡ drop size old)
HasRead old size (Err Closed) new = (old ≡ []) × (new ≡ [])
HasRead old size (Err (Memory e)) new = (0 < length old) × (new ≡ old)
HasRead old size (Err (Trap kind)) new = ⊥
HasRead old size (Err (LastOperationFailed code)) new = ⊥

pub record OutputPipe : Type 0 where
  pub held : List ℕ  -- the bytes that were written
  pub capacity : ℕ  -- how many it may hold
  pub room : ℕ  -- for how many more it has memory

-- how many more it may hold
abbrev pub free : OutputPipe → ℕ
free pipe = pipe.capacity - length pipe.held

-- From old to new these bytes were written.
pub record Wrote (old : OutputPipe) (bytes : List ℕ) (new : OutputPipe) : Type 0 where
  pub held : new.held ≡ old.held ++ bytes
  pub capacity : new.capacity ≡ old.capacity
  pub fits : length bytes ≤ free old
  pub room : old.room ≤ new.room + length bytes

-- From old to new there was no memory for these bytes.
pub record Wanted (old : OutputPipe) (bytes : List ℕ) (new : OutputPipe) : Type 0 where
  pub held : new.held ≡ old.held
  pub capacity : new.capacity ≡ old.capacity
  pub fits : length bytes ≤ free old
  pub room : old.room < length bytes

-- the cause of a trap of a write: the bytes are more than are free
abbrev pub IsTooMuch : OutputPipe → List ℕ → TrapKind → Type 0
IsTooMuch old bytes trap.Capacity = free old < length bytes
IsTooMuch old bytes _ = ⊥

-- the answer of a write, and the pipe then
abbrev pub HasWritten : OutputPipe → List ℕ → Result (Unit {0}) StreamError → OutputPipe → Type 0
HasWritten old bytes (Ok done) new = Wrote old bytes new
HasWritten old bytes (Err (Trap kind)) new = IsTooMuch old bytes kind × (new ≡ old)
HasWritten old bytes (Err (Memory e)) new = Wanted old bytes new
HasWritten old bytes (Err Closed) new = ⊥
HasWritten old bytes (Err (LastOperationFailed code)) new = ⊥

-- the answer of a look at the room
abbrev pub HasChecked : OutputPipe → Result ℕ StreamError → Type 0
HasChecked pipe (Ok count) = (count ≡ free pipe) × (0 < count)
HasChecked pipe (Err Closed) = free pipe ≡ 0
HasChecked pipe (Err _) = ⊥
