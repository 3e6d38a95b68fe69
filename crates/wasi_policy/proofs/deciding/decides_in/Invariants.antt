use Rattle.wasi_policy.specs.Deciding.{NeverBefore}
use Rattle.wasi_policy.proofs.DecidingLaws.{IsNext, left}
use Rattle.wasi_policy.proofs.deciding.decides_in.Given as goal

abbrev pub invariant-numbers : goal.invariant-numbers
invariant-numbers l = record {
  never : NeverBefore l.policy l.line l.usage l.family l.next;
  next : IsNext l.family l.low l.next;
}

abbrev pub decreases-numbers : goal.decreases-numbers
decreases-numbers l = left l.next
