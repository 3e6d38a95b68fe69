use Rattle.std.proofs.Common.{length}
use Rattle.wasi_policy.proofs.Handing.{policed}
use Rattle.wasi_policy.proofs.world.PolicyWorld.into_parts.Goals as goal

pub returns-clause-policed : goal.returns-clause-policed
returns-clause-policed g c = λ inner log is told. (policed g.R.Rules.rules c.args.self.denied.items (length c.args.self.handed.items) (g.W.World.seen c.args.self.inner) inner log c.args.self.under is told)
