use Rattle.std.proofs.Common.{ap}
use Rattle.worker_shared.proofs.Relays.{sends}
use Rattle.worker_shared.proofs.line.PushEnd.push.Goals as goal

pub push_as-requires-clause-rule : goal.push_as-requires-clause-rule
push_as-requires-clause-rule g c = λ n. sends n _ _ _ (ap (λ v. v.pushes) c.self.invariant.1) c.requires.filled
