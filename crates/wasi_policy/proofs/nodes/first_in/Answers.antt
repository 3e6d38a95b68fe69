use Rattle.wasi_policy.proofs.NodeLaws.{walk_starts, walk_next, walk_ends}
use Rattle.wasi_policy.proofs.nodes.first_in.Goals as goal

pub walk-init : goal.walk-init
walk-init c = walk_starts c.args.nodes.now c.args.number c.args.port c.count_from-begun.result c.count_from-begun.ensures.bound c.count_from-begun.ensures.begun c.count_from-begun.ensures.later

pub walk-preserved : goal.walk-preserved
walk-preserved c = rw (c.min-first.ensures, c.first_at.ensures, c.next_for-at.ensures) (walk_next c.args.nodes.now c.args.number c.args.port c.count_from-begun.result c.walk.at c.walk.first c.index-nodes-at.result c.requires c.walk-test.true c.index-nodes-at.is c.walk.invariant)

pub returns : goal.returns
returns c = walk_ends c.args.nodes.now c.args.number c.args.port c.count_from-begun.result c.walk.at c.walk.first c.walk-test.false c.walk.invariant
