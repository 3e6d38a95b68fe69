use Rattle.wasi_policy.proofs.NodeLaws.{LeftTo}
use Rattle.wasi_policy.proofs.nodes.first_in.Given as goal

abbrev pub invariant-walk : goal.invariant-walk
invariant-walk l = LeftTo l.nodes l.number l.port l.begun l.at l.first

abbrev pub decreases-walk : goal.decreases-walk
decreases-walk l = l.at
