use Rattle.std.proofs.Common.{arith}
use Rattle.wasi_asking.proofs.Searches.{found, is_so, isnt, none_after, none_at_first}
use Rattle.wasi_asking.specs.Asks.{WaitsAs}
use Rattle.wasi_asking.proofs.asks.Asks.place_under.Goals as goal

pub loop-place-init : goal.loop-place-init
loop-place-init c = none_at_first _ _

pub returns-then-waits_as : goal.returns-then-waits_as
returns-then-waits_as c = record {
  found = found (WaitsAs c.args.number) c.args.self.now.asked.items c.index.result.now (grind (arith, c.loop-place-test.true, c.len-place-end.ensures, c.args.self.now.asked.ok)) c.index.ensures (is_so c.waits_as.ensures c.if-waits_as.true) c.loop-place.invariant;
  bound = grind (arith, c.loop-place-test.true, c.len-place-end.ensures, c.args.self.now.asked.ok);
}

pub loop-place-preserved : goal.loop-place-preserved
loop-place-preserved c = none_after (WaitsAs c.args.number) c.args.self.now.asked.items c.index.result.now (grind (arith, c.loop-place-test.true, c.len-place-end.ensures, c.args.self.now.asked.ok)) c.index.ensures (isnt c.waits_as.ensures c.if-waits_as.false) c.loop-place.invariant
