use Rattle.std.proofs.Common.{sym, ◌∙◌}
use Rattle.wasi_policy.proofs.Gathering.{gathers_none, gathers_one}
use Rattle.wasi_policy.proofs.nodes.gather.Goals as goal

pub gathering-init : goal.gathering-init
gathering-init c = gathers_none c.args.nodes.now c.args.high c.args.before c.args.own.items c.requires.rising

pub gathering-preserved : goal.gathering-preserved
gathering-preserved c =
    rw (c.in_ok-cells.ensures, c.as_slice.ensures.value, c.as_slice-in-gathering.ensures.value) (gathers_one c.args.nodes.now c.args.high c.args.before c.gathering.at c.args.own.items c.gathering.cells.items c.index-nodes-at.result c.index-nodes-at-in-gathering.result _ c.requires.index c.requires.bound c.gathering-test.true c.index-nodes-at.is c.index-nodes-at-in-gathering.is (sym c.joins.ensures ∙ c.if-joins.true) c.gathering.invariant)
