use Rattle.std.proofs.Common.{◌≡◌, ◌++◌, drop}
use Rattle.wasi_policy.specs.Reach.{reaches_from}
use Rattle.wasi_policy.proofs.reach.reaches_of.Given as goal

abbrev pub invariant-loop-at : goal.invariant-loop-at
invariant-loop-at l = l.reaches.items ++ reaches_from l.at (drop l.at l.rules) l.usage l.family ≡ reaches_from 0 l.rules l.usage l.family
