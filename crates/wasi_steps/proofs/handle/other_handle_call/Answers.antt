use Rattle.wasi_steps.specs.Steps.{rows_of, other_handle_calls}
use Rattle.world_text.proofs.Words.{no_word}
use Rattle.wasi_steps.proofs.SettingLaws.{◌and◌}
use Rattle.wasi_steps.proofs.handle.other_handle_call.Goals as goal

pub returns-else-is-6 : goal.returns-else-is-6
returns-else-is-6 c = λ old rest h. no_word (rows_of other_handle_calls) c.args.word.now old (c.if-is.ensures and c.if-is-2.ensures and c.if-is-3.ensures and c.if-is-4.ensures and c.if-is-5.ensures and c.if-is-6.ensures and tt)
