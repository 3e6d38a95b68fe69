use Rattle.std.proofs.Common.{◌-◌}
use Rattle.wasi_policy.proofs.DecidingLaws.{IsTaken}
use Rattle.wasi_policy.proofs.deciding.taken_from.Given as goal

abbrev pub invariant-ports : goal.invariant-ports
invariant-ports l = IsTaken l.policy l.line l.usage l.family l.number l.last l.rule.low l.port

abbrev pub decreases-ports : goal.decreases-ports
decreases-ports l = 65536 - l.port
