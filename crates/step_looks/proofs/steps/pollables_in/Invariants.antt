use Rattle.std.specs.Prelude.{map, take, Some}
use Rattle.std.proofs.Common.{◌≡◌}
use Rattle.step_looks.specs.Calls.{pollable_outlook}
use Rattle.step_looks.specs.Outlooks.{looks_in}
use Rattle.step_looks.proofs.steps.pollables_in.Given as goal

-- the looks so far
abbrev pub invariant-loop-pollable : goal.invariant-loop-pollable
invariant-loop-pollable l = looks_in (map (pollable_outlook l.machine l.first) (take l.pollable-index l.pollables)) ≡ Some l.looks.items
