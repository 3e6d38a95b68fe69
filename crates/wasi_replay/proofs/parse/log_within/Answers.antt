use Rattle.std.proofs.Common.{arith}
use Rattle.std.proofs.lemmas.Result.{err_from_is_err_and}
use Rattle.wasi_replay.specs.Log.{so_far}
use Rattle.wasi_replay.proofs.LogLines.{number_fits, bad_next, read_next, bad_line_exit, whole_text, no_end, more_text}
use Rattle.wasi_replay.proofs.parse.log_within.Goals as goal

pub returns-in_err-take_line-clause-bad : goal.returns-in_err-take_line-clause-bad
returns-in_err-take_line-clause-bad c =
    let p = err_from_is_err_and c.from_residual.result c.from_residual.ensures.1 in
    rw (p.1, p.2) (bad_line_exit c.args.most c.args.bytes.now c.first_bytes-text.result.now c.loop-end.number c.in_err-take_line.field-0.0 _ c.first_bytes-text.ensures (bad_next c.first_bytes-text.result.now c.loop-end.at c.loop-end.number c.in-Some.end (so_far c.loop-end.log.contexts.items c.loop-end.log.entries.items c.loop-end.log.ended) c.loop-end.invariant c.in-Some.ensures) c.in_err-take_line.ensures.bad)

pub overflow_add-number : goal.overflow_add-number
overflow_add-number c =
    omega (arith, number_fits c.first_bytes-text.result.now c.loop-end.at c.loop-end.number c.in-Some.end (so_far c.loop-end.log.contexts.items c.loop-end.log.entries.items c.loop-end.log.ended) c.loop-end.invariant c.in-Some.ensures c.args.most c.args.bytes.now c.first_bytes-text.ensures c.requires)

pub loop-end-preserved : goal.loop-end-preserved
loop-end-preserved c =
    read_next c.first_bytes-text.result.now c.loop-end.at c.loop-end.number c.in-Some.end (so_far c.loop-end.log.contexts.items c.loop-end.log.entries.items c.loop-end.log.ended) c.loop-end.invariant c.in-Some.ensures (so_far c.take_line.new.log.contexts.items c.take_line.new.log.entries.items c.take_line.new.log.ended) c.in_ok-take_line.ensures.ok c.in_ok-take_line.ensures.few

pub returns-then-at-bytes-clause-bad : goal.returns-then-at-bytes-clause-bad
returns-then-at-bytes-clause-bad c =
    more_text c.args.most c.args.bytes.now c.first_bytes-text.result.now c.first_bytes-text.ensures c.loop-end.at c.loop-end.number (so_far c.loop-end.log.contexts.items c.loop-end.log.entries.items c.loop-end.log.ended) c.loop-end.invariant c.in_default.ensures c.if-at-bytes.true

pub returns-then-not-log-clause-bad : goal.returns-then-not-log-clause-bad
returns-then-not-log-clause-bad c =
    no_end c.args.most c.args.bytes.now c.first_bytes-text.result.now c.first_bytes-text.ensures c.loop-end.at c.loop-end.number (so_far c.loop-end.log.contexts.items c.loop-end.log.entries.items c.loop-end.log.ended) c.loop-end.invariant c.in_default.ensures c.if-at-bytes.false c.if-not-log.true

pub returns-clause-ok : goal.returns-clause-ok
returns-clause-ok c =
    whole_text c.args.most c.args.bytes.now c.first_bytes-text.result.now c.first_bytes-text.ensures c.loop-end.at c.loop-end.number (so_far c.loop-end.log.contexts.items c.loop-end.log.entries.items c.loop-end.log.ended) c.loop-end.invariant c.in_default.ensures c.if-at-bytes.false c.if-not-log.false
