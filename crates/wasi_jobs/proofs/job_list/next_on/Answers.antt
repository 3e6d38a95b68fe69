use Rattle.wasi_jobs.proofs.Keying.{next_found, next_other, next_none}
use Rattle.wasi_jobs.proofs.job_list.next_on.Goals as goal

pub returns-in-Some-clause-some : goal.returns-in-Some-clause-some
returns-in-Some-clause-some c = next_found _ _ _ _ _ _ (c.range.ensures.in_range tt) c.in-Some.ensures.steps c.if-key-place.true

pub returns-in_default-clause-none : goal.returns-in_default-clause-none
returns-in_default-clause-none c = next_other _ _ _ _ _ _ (c.range.ensures.in_range tt) c.in-Some.ensures.steps c.if-key-place.false

pub returns-in_default-2-clause-none : goal.returns-in_default-2-clause-none
returns-in_default-2-clause-none c = let steps = rw c.in_default.is at c.next.ensures.steps in next_none _ _ _ _ (c.range.ensures.in_range tt) steps.0
