use Rattle.std.proofs.Common.{◌≤◌, ◌<◌, ◌-◌, length}
use Rattle.wasi_policy.specs.Nodes.{AreAlike}
use Rattle.wasi_policy.proofs.nodes.count_alike.Given as goal

abbrev pub invariant-alike : goal.invariant-alike
invariant-alike l = record {
  some : 0 < l.count;
  bound : l.count ≤ length l.reaches;
  alike : AreAlike l.reaches l.count;
}

abbrev pub decreases-alike : goal.decreases-alike
decreases-alike l = length l.reaches - l.count
