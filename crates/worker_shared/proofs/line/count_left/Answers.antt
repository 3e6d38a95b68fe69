use Rattle.std.proofs.Common.{ap}
use Rattle.worker_shared.proofs.Relays.{merges, totals}
use Rattle.worker_shared.proofs.line.count_left.Goals as goal

pub absorb-requires-clause-rule : goal.absorb-requires-clause-rule
absorb-requires-clause-rule g c = merges _ _ _ _ (ap (λ v. v.pushes) c.push.invariant.1) (ap (λ v. v.pops) c.pop.invariant.1)

pub len_as-requires-clause-rule : goal.len_as-requires-clause-rule
len_as-requires-clause-rule g c = totals _ _ (ap (λ v. v.pushes) c.absorb.ensures.rule) (ap (λ v. v.pops) c.absorb.ensures.rule)
