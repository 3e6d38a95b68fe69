use Rattle.std.proofs.Common.{arith}
use Rattle.wasi_asking.proofs.Searches.{found, is_so, isnt, none_after, none_at_first}
use Rattle.wasi_asking.specs.Asks.{AsksThis}
use Rattle.wasi_asking.proofs.asks.Asks.place_of.Goals as goal

pub loop-place-init : goal.loop-place-init
loop-place-init c = none_at_first _ _

pub returns-then-asks : goal.returns-then-asks
returns-then-asks c = record {
  found = found (AsksThis c.args.question) c.args.self.now.asked.items c.index.result.now (grind (arith, c.loop-place-test.true, c.len-place-end.ensures, c.args.self.now.asked.ok)) c.index.ensures (is_so c.asks.ensures c.if-asks.true) c.loop-place.invariant;
  bound = grind (arith, c.loop-place-test.true, c.len-place-end.ensures, c.args.self.now.asked.ok);
}

pub loop-place-preserved : goal.loop-place-preserved
loop-place-preserved c = none_after (AsksThis c.args.question) c.args.self.now.asked.items c.index.result.now (grind (arith, c.loop-place-test.true, c.len-place-end.ensures, c.args.self.now.asked.ok)) c.index.ensures (isnt c.asks.ensures c.if-asks.false) c.loop-place.invariant
