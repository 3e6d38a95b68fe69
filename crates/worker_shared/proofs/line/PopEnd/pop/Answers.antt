use Rattle.std.proofs.Common.{ap}
use Rattle.worker_shared.proofs.Relays.{gets}
use Rattle.worker_shared.proofs.line.PopEnd.pop.Goals as goal

pub pop_as-requires-clause-rule : goal.pop_as-requires-clause-rule
pop_as-requires-clause-rule g c = (gets _ _ (ap (λ v. v.pops) c.self.invariant.1), λ items views held at. tt)
