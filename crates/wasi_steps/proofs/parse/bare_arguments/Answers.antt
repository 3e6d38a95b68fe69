use Rattle.wasi_steps.specs.Steps.{bare_rows}
use Rattle.world_text.proofs.Words.{no_word}
use Rattle.wasi_steps.proofs.SettingLaws.{◌and◌}
use Rattle.wasi_steps.proofs.parse.bare_arguments.Goals as goal

pub returns-else-is-3 : goal.returns-else-is-3
returns-else-is-3 c = no_word bare_rows c.args.word.now c.args.fields.now (c.if-is.ensures and c.if-is-2.ensures and c.if-is-3.ensures and tt)
