use Rattle.std.proofs.Common.{◌≡◌, length}
use Rattle.wasi_steps.specs.HandleLists.{handles_at}
use Rattle.world_text.proofs.UpTo.{before}
use Rattle.wasi_steps.proofs.handle_list.pollables.Given as goal

abbrev pub invariant-loop-fields : goal.invariant-loop-fields
invariant-loop-fields l = handles_at l.initial.fields ≡ before l.handles.items (handles_at l.fields)

abbrev pub decreases-loop-fields : goal.decreases-loop-fields
decreases-loop-fields l = length l.fields
