use Rattle.wasi_policy.proofs.NodeLaws.{adds, index_more}
use Rattle.wasi_policy.proofs.nodes.add.Goals as goal

pub returns-clause-index : goal.returns-clause-index
returns-clause-index c = rw c.in_ok-push.ensures.items (index_more c.args.nodes.now.items _ c.args.own.items c.requires.index c.requires.begun (rw (← c.as_slice.ensures.value) c.count_before-before.ensures.bound) (rw (← c.as_slice.ensures.value) c.count_before-before.ensures.ended) (rw (← c.as_slice-2.ensures.value) c.in_ok-cells.ensures))

pub returns-clause-added : goal.returns-clause-added
returns-clause-added c = λ number port. rw c.in_ok-push.ensures.items (adds c.args.nodes.now.items _ c.args.own.items c.requires.index c.requires.begun (rw (← c.as_slice.ensures.value) c.count_before-before.ensures.bound) (rw (← c.as_slice.ensures.value) c.count_before-before.ensures.ended) (rw (← c.as_slice-2.ensures.value) c.in_ok-cells.ensures) number port)
