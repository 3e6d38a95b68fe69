use Rattle.wasi_steps.specs.Steps.{rows_of, output_handle_calls, other_handle_calls}
use Rattle.wasi_steps.proofs.StepWords.{past_words}
use Rattle.wasi_steps.proofs.SettingLaws.{◌and◌}
use Rattle.wasi_steps.proofs.handle.output_handle_call.Goals as goal

pub returns-else-is-4 : goal.returns-else-is-4
returns-else-is-4 c = λ old rest h.
    rw (past_words (rows_of output_handle_calls) (rows_of other_handle_calls) c.args.word.now old (c.if-is.ensures and c.if-is-2.ensures and c.if-is-3.ensures and c.if-is-4.ensures and tt)) (c.other_handle_call.ensures old rest h)
