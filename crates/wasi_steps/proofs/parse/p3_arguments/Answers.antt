use Rattle.std.proofs.Common.{◌++◌}
use Rattle.wasi_steps.specs.Steps.{rows_of, p3_value_calls, input_value_calls, output_value_calls, handle_calls}
use Rattle.wasi_steps.proofs.StepWords.{past_words}
use Rattle.wasi_steps.proofs.SettingLaws.{◌and◌}
use Rattle.wasi_steps.proofs.parse.p3_arguments.Goals as goal

pub returns-else-is-10 : goal.returns-else-is-10
returns-else-is-10 c = λ old h.
    rw (past_words (rows_of p3_value_calls) (rows_of (input_value_calls ++ output_value_calls ++ handle_calls)) c.args.word.now old (c.if-is.ensures and c.if-is-2.ensures and c.if-is-3.ensures and c.if-is-4.ensures and c.if-is-5.ensures and c.if-is-6.ensures and c.if-is-7.ensures and c.if-is-8.ensures and c.if-is-9.ensures and c.if-is-10.ensures and tt)) (c.stream_arguments.ensures old h)
