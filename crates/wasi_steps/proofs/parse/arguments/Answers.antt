use Rattle.wasi_steps.specs.Steps.{rows_of, memory_calls, plain_calls}
use Rattle.wasi_steps.proofs.StepWords.{past_words}
use Rattle.wasi_steps.proofs.SettingLaws.{◌and◌}
use Rattle.wasi_steps.proofs.parse.arguments.Goals as goal

pub returns-else-is-9 : goal.returns-else-is-9
returns-else-is-9 c =
    rw (past_words (rows_of memory_calls) (rows_of plain_calls) c.args.word.now c.args.fields.now (c.if-is.ensures and c.if-is-2.ensures and c.if-is-3.ensures and c.if-is-4.ensures and c.if-is-5.ensures and c.if-is-6.ensures and c.if-is-7.ensures and c.if-is-8.ensures and c.if-is-9.ensures and tt)) c.plain_arguments.ensures
