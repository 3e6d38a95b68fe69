use Rattle.wasi_net.specs.Known.{known_sides}
use Rattle.wasi_net.proofs.AskedLooks.{asked_next, asked_over}
use Rattle.wasi_net.proofs.network.Network.asked_by.Goals as goal

pub returns-in_default : goal.returns-in_default
returns-in_default g c = asked_over (known_sides c.args.self.now.sides) c.args.looks.now _ c.loop-look-test.true c.loop-look.invariant c.asked_of.ensures c.in_default.is

pub loop-look-preserved : goal.loop-look-preserved
loop-look-preserved g c = asked_next (known_sides c.args.self.now.sides) c.args.looks.now _ c.loop-look-test.true c.loop-look.invariant c.asked_of.ensures c.in-Some.is c.in_ok-push.ensures.items
