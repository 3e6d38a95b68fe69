use Rattle.std.proofs.lemmas.Result.{err_from_is_err_and}
use Rattle.policy_asks.proofs.AnswerLines.{read_next, line_exit, more_text}
use Rattle.policy_asks.proofs.asking.answer_lines.Goals as goal

pub returns-in_err-answer_one : goal.returns-in_err-answer_one
returns-in_err-answer_one g c =
    let p = err_from_is_err_and c.from_residual.result c.from_residual.ensures.1 in
    rw (p.1, p.2) (line_exit c.args.policy.now c.args.form c.args.text.now c.loop-end.at c.loop-end.number c.in-Some.end (g.K.Sink.writing c.args.sink.now) (g.K.Sink.writing c.loop-end.sink) c.loop-end.invariant c.in-Some.ensures (g.K.Sink.writing c.answer_one.new.sink) c.in_err-answer_one.field-0.0 c.in_err-answer_one.ensures)

pub loop-end-preserved : goal.loop-end-preserved
loop-end-preserved g c =
    read_next c.args.policy.now c.args.form c.args.text.now c.loop-end.at c.loop-end.number c.in-Some.end (g.K.Sink.writing c.args.sink.now) (g.K.Sink.writing c.loop-end.sink) c.loop-end.invariant c.in-Some.ensures (g.K.Sink.writing c.answer_one.new.sink) c.in_ok-answer_one.ensures

pub returns-then-at-text : goal.returns-then-at-text
returns-then-at-text g c =
    more_text c.args.policy.now c.args.form c.args.text.now c.loop-end.at c.loop-end.number (g.K.Sink.writing c.args.sink.now) (g.K.Sink.writing c.loop-end.sink) c.loop-end.invariant c.in_default.ensures c.if-at-text.true
