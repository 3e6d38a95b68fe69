use Rattle.std.proofs.Common.{arith}
use Rattle.wasi_policy.proofs.NodeLaws.{alike_first, alike_more}
use Rattle.wasi_policy.proofs.nodes.count_alike.Goals as goal

pub alike-init : goal.alike-init
alike-init c = record {
  some = omega arith;
  bound = omega (arith, c.requires);
  alike = alike_first c.args.reaches.now;
}

pub alike-preserved : goal.alike-preserved
alike-preserved c = record {
  some = omega arith;
  bound = omega (arith, c.alike-test.true);
  alike = alike_more c.args.reaches.now c.alike.count _ c.alike.invariant.some c.alike-test.true c.alike.invariant.alike c.if-reaches-count.true c.if-reaches-count-2.true;
}
