use Rattle.wasi_policy.specs.Nodes.{Gathers}
use Rattle.wasi_policy.proofs.nodes.gather.Given as goal

abbrev pub invariant-gathering : goal.invariant-gathering
invariant-gathering l = Gathers l.nodes l.high l.before l.initial.cells.items l.at l.cells.items

abbrev pub decreases-gathering : goal.decreases-gathering
decreases-gathering l = l.at
