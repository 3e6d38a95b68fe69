-- The lines of a script: which step began an operation, how many handles the log marks, and which network sockets a step names.
use Rattle.std.specs.Prelude.{◌≡◌, ℕ, zero, suc, ◌+◌, List, [], ◌∷◌, Option, Some, None, slice_get}
use Rattle.wasi_world.specs.declared.ids.OpId.{OpId}
use Rattle.wasi_world.specs.declared.call.Call.{Call}
use Rattle.wasi_world.specs.declared.call.Call.TheVariants.{Made}
use Rattle.wasi_world.specs.declared.call.HandleKind.{HandleKind}
use Rattle.wasi_world.specs.declared.call.Told.{Told}
use Rattle.wasi_world.specs.declared.call.Entry.{Entry}
use Rattle.wasi_steps.specs.declared.step.Step.{Step}
use Rattle.wasi_steps.specs.Steps.{handles_of}
use Rattle.wasi_walks.specs.Allowed.{Has, IsSide, entry}

-- == entries
-- how many handles the entries mark
abbrev pub marked_by : Call → ℕ
marked_by (Made handle kind parent sock) = 1
marked_by _ = 0

abbrev pub marks_in : List Entry → ℕ
marks_in [] = 0
marks_in (e ∷ es) = marked_by e.call + marks_in es

-- == steps
-- the step of this line, counted from 1
abbrev pub step_at : List Step → ℕ → Option Step
step_at steps zero = None
step_at steps (suc n) = slice_get steps n

-- The step whose line began the operation is one of which this holds.
pub record BeganBy (steps : List Step) (op : OpId) (P : Step → Type 0) : Type 0 where
  pub origin : Step
  pub at : step_at steps op.step ≡ Some origin
  pub holds : P origin

-- == network sockets
-- The mark of a handle says this of its network socket.
pub record IsMarkedWith (before : List Entry) (handle : ℕ) (sock : Option OpId) : Type 0 where
  pub op : OpId
  pub kind : HandleKind
  pub parent : Option ℕ
  pub told : Told
  pub mark : Has before (entry op (Made handle kind parent sock) told)

-- The step names a handle of this network socket.
pub record NamesSide (before : List Entry) (side : OpId) (origin : Step) : Type 0 where
  pub handle : ℕ
  pub named : Has (handles_of origin) handle
  pub is : IsSide before handle side
