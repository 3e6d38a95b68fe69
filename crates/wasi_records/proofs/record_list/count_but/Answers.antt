use Rattle.std.proofs.Common.{◌≡◌, ◌+◌, ap, arith}
use Rattle.std.specs.Map.Iter.{deref_pair}
use Rattle.std.proofs.lemmas.Map.Iter.{rest_more}
use Rattle.wasi_records.specs.Totals.{used_beside, used_under}
use Rattle.wasi_records.proofs.record_list.count_but.Goals as goal

pub loop-number-preserved : goal.loop-number-preserved
loop-number-preserved c =
    let next = ap (used_under c.args.slots.now c.args.place c.args.context) (rest_more deref_pair c.loop-number.number-iterator c.next.new.self c.next.result (c.in-Some.number, c.in-Some.slot) c.in-Some.is c.next.ensures.steps) in
    let was = c.loop-number.invariant.2.1.0 in
    let all = c.loop-number.invariant.2.1.1 in
    let one = c.count_in.ensures in
    let sum = c.saturating_add-bytes.ensures in (
      tt,
      tt,
      (c.loop-number.invariant.2.0 + used_beside c.args.slots.now c.args.place c.args.context (c.in-Some.number.now, c.in-Some.slot.now), (omega (arith, was, one, sum), omega (arith, all, next))),
    )

pub returns-clause-counted : goal.returns-clause-counted
returns-clause-counted c =
    let none : used_under c.args.slots.now c.args.place c.args.context c.loop-number.number-iterator ≡ 0 = ap (used_under c.args.slots.now c.args.place c.args.context) c.in-None.ensures.steps.0 in
    let was = c.loop-number.invariant.2.1.0 in
    let all = c.loop-number.invariant.2.1.1 in omega (arith, was, all, none)
