use Rattle.std.proofs.Common.{◌++◌}
use Rattle.wasi_steps.specs.Steps.{rows_of, p3_handle_calls, output_handle_calls, other_handle_calls}
use Rattle.wasi_steps.proofs.StepWords.{past_words}
use Rattle.wasi_steps.proofs.SettingLaws.{◌and◌}
use Rattle.wasi_steps.proofs.handle.p3_handle_call.Goals as goal

pub returns-else-is-13 : goal.returns-else-is-13
returns-else-is-13 c = λ old rest h.
    rw (past_words (rows_of p3_handle_calls) (rows_of (output_handle_calls ++ other_handle_calls)) c.args.word.now old (c.if-is.ensures and c.if-is-2.ensures and c.if-is-3.ensures and c.if-is-4.ensures and c.if-is-5.ensures and c.if-is-6.ensures and c.if-is-7.ensures and c.if-is-8.ensures and c.if-is-9.ensures and c.if-is-10.ensures and c.if-is-11.ensures and c.if-is-12.ensures and c.if-is-13.ensures and tt)) (c.output_handle_call.ensures old rest h)
