use Rattle.std.proofs.Common.{length, ◌-◌}
use Rattle.policy_asks.proofs.AnswerLines.{AnsweredTo}
use Rattle.policy_asks.proofs.asking.answer_lines.Given as goal

abbrev pub invariant-loop-end : goal.invariant-loop-end
invariant-loop-end g l = AnsweredTo l.policy l.form l.text l.at l.number (g.K.Sink.writing l.fn.sink) (g.K.Sink.writing l.sink)

abbrev pub decreases-loop-end : goal.decreases-loop-end
decreases-loop-end g l = length l.text - l.at
