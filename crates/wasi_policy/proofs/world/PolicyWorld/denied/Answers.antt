use Rattle.std.proofs.Common.{length}
use Rattle.wasi_policy.proofs.Handing.{policed}
use Rattle.wasi_policy.proofs.world.PolicyWorld.denied.Goals as goal

pub returns-clause-policed : goal.returns-clause-policed
returns-clause-policed g c = λ inner log is told. rw c.as_slice.ensures.value (policed g.R.Rules.rules c.args.self.now.denied.items (length c.args.self.now.handed.items) (g.W.World.seen c.args.self.now.inner) inner log c.args.self.now.under is told)
