use Rattle.std.proofs.Common.{◌≡◌, ◌≤◌, Some, None, rules, arith}
use Rattle.wasi_policy.specs.Deciding.{NeverBefore}
use Rattle.wasi_policy.specs.Reach.{range_of}
use Rattle.wasi_policy.proofs.DecidingLaws.{IsNext, never_none, before_first, next_first, past_last, before_next, next_behind, none_left}
use Rattle.wasi_policy.proofs.deciding.decides_in.Goals as goal

pub returns-in_default-clause-complete : goal.returns-in_default-clause-complete
returns-in_default-clause-complete c = λ no.
    let none : range_of c.args.rule.now.net c.args.family ≡ None = search rules in
    never_none c.args.policy.now c.args.line c.args.rule.now c.args.usage c.args.family c.requires.begins c.requires.rule none

pub numbers-init : goal.numbers-init
numbers-init c =
    let range : range_of c.args.rule.now.net c.args.family ≡ Some (c.in-Some.low, c.in-Some.high) = search rules in
    rw c.canonical_from-next.ensures (record {
      never = before_first c.args.policy.now c.args.line c.args.rule.now c.args.usage c.args.family c.in-Some.low c.in-Some.high c.requires.begins c.requires.rule range;
      next = next_first c.args.family c.in-Some.low;
    })

pub returns-then-number-high-clause-complete : goal.returns-then-number-high-clause-complete
returns-then-number-high-clause-complete c = λ no.
    let range : range_of c.args.rule.now.net c.args.family ≡ Some (c.in-Some.low, c.in-Some.high) = search rules in
    let never : NeverBefore c.args.policy.now c.args.line c.args.usage c.args.family (Some c.in-Some-next.number) = rw c.in-Some-next.is at c.numbers.invariant.never in
    past_last c.args.policy.now c.args.line c.args.rule.now c.args.usage c.args.family c.in-Some.low c.in-Some.high c.in-Some-next.number c.requires.begins c.requires.rule range c.if-number-high.true never

pub numbers-preserved : goal.numbers-preserved
numbers-preserved c =
    let never : NeverBefore c.args.policy.now c.args.line c.args.usage c.args.family (Some c.in-Some-next.number) = rw c.in-Some-next.is at c.numbers.invariant.never in
    let next : IsNext c.args.family c.in-Some.low (Some c.in-Some-next.number) = rw c.in-Some-next.is at c.numbers.invariant.next in
    let over : c.in-Some.low ≤ c.in-Some-taken_from.last = omega (arith, next.1, c.in-Some-taken_from.ensures.behind) in
    rw c.canonical_behind-next.ensures (record {
      never = before_next c.args.policy.now c.args.line c.args.rule.now c.args.usage c.args.family c.in-Some-next.number c.in-Some-taken_from.last c.requires.begins c.requires.rule never c.in-Some-taken_from.ensures.taken;
      next = next_behind c.args.family c.in-Some.low c.in-Some-taken_from.last over;
    })

pub returns-clause-complete : goal.returns-clause-complete
returns-clause-complete c = λ no.
    let never : NeverBefore c.args.policy.now c.args.line c.args.usage c.args.family None = rw c.in_default-next.is at c.numbers.invariant.never in
    none_left c.args.policy.now c.args.line c.args.usage c.args.family never
