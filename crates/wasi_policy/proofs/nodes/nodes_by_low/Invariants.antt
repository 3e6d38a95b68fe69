use Rattle.std.proofs.Common.{◌-◌, length}
use Rattle.wasi_policy.proofs.NodeLaws.{HasNodesTo}
use Rattle.wasi_policy.proofs.nodes.nodes_by_low.Given as goal

abbrev pub invariant-runs : goal.invariant-runs
invariant-runs l = HasNodesTo l.reaches l.at l.nodes.items

abbrev pub decreases-runs : goal.decreases-runs
decreases-runs l = length l.reaches - l.at
