use Rattle.std.proofs.Common.{length, ◌-◌}
use Rattle.wasi_policy.proofs.RuleLines.{ReadTo}
use Rattle.wasi_policy.proofs.parse.rules_within.Given as goal

abbrev pub invariant-loop-end : goal.invariant-loop-end
invariant-loop-end l = ReadTo l.text l.at l.number l.rules.items

abbrev pub decreases-loop-end : goal.decreases-loop-end
decreases-loop-end l = length l.text - l.at
