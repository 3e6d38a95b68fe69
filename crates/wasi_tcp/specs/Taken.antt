-- The bytes that a network socket took.
use Rattle.std.specs.Prelude.{◌≡◌, ℕ, if◌then◌else◌, List, [], ◌∷◌, ◌++◌, Result, Ok, Err}
use Rattle.wasi_world.specs.declared.ids.OpId.{OpId}
use Rattle.wasi_world.specs.declared.call.Call.{Call}
use Rattle.wasi_world.specs.declared.call.Call.TheVariants.{Write}
use Rattle.wasi_world.specs.declared.call.Told.{Told}
use Rattle.wasi_world.specs.declared.call.Told.TheVariants.{Took}
use Rattle.wasi_world.specs.declared.call.Entry.{Entry}
use Rattle.wasi_world.specs.Sides.{is_same}
use Rattle.wasi_world.specs.Operation.{Item}
use Rattle.wasi_world.specs.Operation as item
use Rattle.wasi_streams.specs.StreamStop.{StreamStop}
use Rattle.wasi_tcp.specs.declared.writer.WriteState.{WriteState}
use Rattle.wasi_tcp.specs.declared.writer.WriteState.TheVariants as state

abbrev pub took : Told → List ℕ
took (Took bytes) = bytes
took _ = []

-- what a network socket took by one call
abbrev pub taken_by : OpId → Call → Told → List ℕ
taken_by side (Write sock offered) told = if is_same sock side then took told else []
taken_by side _ told = []

-- what a network socket took by these calls, in order
abbrev pub taken_in : OpId → List Entry → List ℕ
taken_in side [] = []
taken_in side (e ∷ es) = taken_by side e.call e.answer ++ taken_in side es

-- the first of the bytes
abbrev pub IsFrontOf : List ℕ → List ℕ → Type 0
IsFrontOf front bytes = (rest : List ℕ) × (front ++ rest ≡ bytes)

-- the bytes that are still to be written
abbrev pub bytes_left : List Item → List ℕ
bytes_left (item.Write bytes ∷ items) = bytes
bytes_left items = []

-- What a write leaves: where the half is ready again all was taken, and a write that is in progress continues with the rest. Of
-- a write that isn't permitted nothing is taken; after a code it is the front, of any length.
abbrev pub IsTakenBy : List ℕ → List ℕ → Result (Unit {0}) StreamStop × WriteState → Type 0
IsTakenBy bytes taken (Ok done, state.Ready half permit) = taken ≡ bytes
IsTakenBy bytes taken (Ok done, state.Writing job) = taken ++ bytes_left job.write.left ≡ bytes
IsTakenBy bytes taken (Ok done, state.Closing job) = Unit {0}
IsTakenBy bytes taken (Ok done, state.Closed e) = Unit {0}
IsTakenBy bytes taken (Err stop, state.Ready half permit) = taken ≡ []
IsTakenBy bytes taken (Err stop, state.Writing job) = taken ≡ []
IsTakenBy bytes taken (Err stop, state.Closing job) = taken ≡ []
IsTakenBy bytes taken (Err stop, state.Closed e) = Unit {0}
