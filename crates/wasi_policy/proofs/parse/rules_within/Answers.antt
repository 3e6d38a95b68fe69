use Rattle.std.proofs.Common.{arith}
use Rattle.std.proofs.lemmas.Result.{err_from_is_err_and}
use Rattle.wasi_policy.proofs.RuleLines.{number_fits, bad_next, read_next, bad_line_exit, whole_text, more_text, few_rules}
use Rattle.wasi_policy.proofs.parse.rules_within.Goals as goal

pub returns-in_err-take_line-clause-bad : goal.returns-in_err-take_line-clause-bad
returns-in_err-take_line-clause-bad c =
    let p = err_from_is_err_and c.from_residual.result c.from_residual.ensures.1 in
    rw (p.1, p.2) (bad_line_exit c.args.most c.args.bytes.now c.first_bytes-text.result.now c.loop-end.number c.in_err-take_line.field-0.0 _ c.first_bytes-text.ensures (bad_next c.first_bytes-text.result.now c.loop-end.at c.loop-end.number c.in-Some.end c.loop-end.rules.items c.loop-end.invariant c.in-Some.ensures) c.in_err-take_line.ensures.bad)

pub overflow_add-number : goal.overflow_add-number
overflow_add-number c =
    omega (arith, number_fits c.first_bytes-text.result.now c.loop-end.at c.loop-end.number c.in-Some.end c.loop-end.rules.items c.loop-end.invariant c.in-Some.ensures c.args.most c.args.bytes.now c.first_bytes-text.ensures c.requires)

pub loop-end-preserved : goal.loop-end-preserved
loop-end-preserved c =
    read_next c.first_bytes-text.result.now c.loop-end.at c.loop-end.number c.in-Some.end c.loop-end.rules.items c.loop-end.invariant c.in-Some.ensures c.take_line.new.rules.items c.in_ok-take_line.ensures.ok c.in_ok-take_line.ensures.one

pub returns-then-at-bytes-clause-bad : goal.returns-then-at-bytes-clause-bad
returns-then-at-bytes-clause-bad c =
    more_text c.args.most c.args.bytes.now c.first_bytes-text.result.now c.first_bytes-text.ensures c.loop-end.at c.loop-end.number c.loop-end.rules.items c.loop-end.invariant c.in_default.ensures c.if-at-bytes.true

pub returns-clause-ok : goal.returns-clause-ok
returns-clause-ok c =
    whole_text c.args.most c.args.bytes.now c.first_bytes-text.result.now c.first_bytes-text.ensures c.loop-end.at c.loop-end.number c.loop-end.rules.items c.loop-end.invariant c.in_default.ensures c.if-at-bytes.false

pub returns-clause-few : goal.returns-clause-few
returns-clause-few c =
    few_rules c.args.most c.args.bytes.now c.first_bytes-text.result.now c.first_bytes-text.ensures c.loop-end.at c.loop-end.number c.loop-end.rules.items c.loop-end.invariant c.in_default.ensures c.requires
