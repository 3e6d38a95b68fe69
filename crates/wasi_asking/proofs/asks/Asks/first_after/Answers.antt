use Rattle.std.proofs.Common.{arith, refl}
use Rattle.wasi_asking.proofs.Searches.{found, is_so, isnt, none_after, none_at_first}
use Rattle.wasi_asking.specs.Asks.{WaitsAfter}
use Rattle.wasi_asking.proofs.asks.Asks.first_after.Goals as goal

pub loop-place-init : goal.loop-place-init
loop-place-init c = none_at_first _ _

pub returns-then-waits_after : goal.returns-then-waits_after
unfolding found
returns-then-waits_after c = record { place = c.loop-place.place; found = found (WaitsAfter c.args.number) c.args.self.now.asked.items c.index.result.now (grind (arith, c.loop-place-test.true, c.len-place-end.ensures, c.args.self.now.asked.ok)) c.index.ensures (is_so c.waits_after.ensures c.if-waits_after.true) c.loop-place.invariant; shown = refl }

pub loop-place-preserved : goal.loop-place-preserved
loop-place-preserved c = none_after (WaitsAfter c.args.number) c.args.self.now.asked.items c.index.result.now (grind (arith, c.loop-place-test.true, c.len-place-end.ensures, c.args.self.now.asked.ok)) c.index.ensures (isnt c.waits_after.ensures c.if-waits_after.false) c.loop-place.invariant
