use Rattle.std.proofs.Common.{◌++◌}
use Rattle.wasi_steps.specs.Steps.{rows_of, udp_value_calls, p3_value_calls, input_value_calls, output_value_calls, handle_calls}
use Rattle.wasi_steps.proofs.StepWords.{past_words}
use Rattle.wasi_steps.proofs.SettingLaws.{◌and◌}
use Rattle.wasi_steps.proofs.parse.udp_arguments.Goals as goal

pub returns-else-is-5 : goal.returns-else-is-5
returns-else-is-5 c = λ old h.
    rw (past_words (rows_of udp_value_calls) (rows_of (p3_value_calls ++ input_value_calls ++ output_value_calls ++ handle_calls)) c.args.word.now old (c.if-is.ensures and c.if-is-2.ensures and c.if-is-3.ensures and c.if-is-4.ensures and c.if-is-5.ensures and tt)) (c.p3_arguments.ensures old h)
