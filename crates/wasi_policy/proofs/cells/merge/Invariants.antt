use Rattle.std.proofs.Common.{◌≡◌, ◌+◌, ◌-◌, ◌≤◌, ◌++◌, length, drop}
use Rattle.wasi_policy.specs.Reach.{no_rule}
use Rattle.wasi_policy.specs.Cells.{merged_cells}
use Rattle.wasi_policy.proofs.cells.merge.Given as goal

abbrev pub invariant-merging : goal.invariant-merging
invariant-merging l = record {
  done : l.cells.items ++ merged_cells l.first l.other (drop l.at l.these) (drop l.beside l.those) ≡ merged_cells no_rule no_rule l.these l.those;
  here : l.at ≤ length l.these;
  there : l.beside ≤ length l.those;
}

abbrev pub decreases-merging : goal.decreases-merging
decreases-merging l = (length l.these - l.at) + (length l.those - l.beside)
