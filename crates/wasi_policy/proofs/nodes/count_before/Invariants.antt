use Rattle.std.proofs.Common.{◌≤◌, length}
use Rattle.wasi_policy.proofs.NodeLaws.{EndBefore}
use Rattle.wasi_policy.proofs.nodes.count_before.Given as goal

abbrev pub invariant-back : goal.invariant-back
invariant-back l = record {
  bound : l.at ≤ length l.nodes;
  ended : EndBefore l.nodes l.low l.at;
}

abbrev pub decreases-back : goal.decreases-back
decreases-back l = l.at
