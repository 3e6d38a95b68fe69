use Rattle.wasi_policy.specs.Overlaps.{Counted}
use Rattle.wasi_policy.proofs.FindingLaws.{AreUpTo}
use Rattle.wasi_policy.proofs.policy.Policy.conflicts.Given as goal

abbrev pub invariant-loop-before : goal.invariant-loop-before
invariant-loop-before l = Counted l.most l.conflicts.first.items l.conflicts.count (AreUpTo l.rules l.before)
