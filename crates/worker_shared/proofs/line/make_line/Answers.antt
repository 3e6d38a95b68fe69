use Rattle.std.proofs.Common.{ap}
use Rattle.worker_shared.proofs.Relays.{begins, forks}
use Rattle.worker_shared.proofs.line.make_line.Goals as goal

pub with_rule-requires : goal.with_rule-requires
with_rule-requires c = begins

pub another-theirs-requires-clause-rule : goal.another-theirs-requires-clause-rule
another-theirs-requires-clause-rule c = forks _ _ (ap (λ v. v.pushes) c.in_ok-queue.ensures.2) (ap (λ v. v.pops) c.in_ok-queue.ensures.2)
