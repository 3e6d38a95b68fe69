use Rattle.wasi_steps.specs.Settings.{option_words}
use Rattle.world_text.proofs.Words.{no_word}
use Rattle.wasi_steps.proofs.SettingLaws.{◌and◌}
use Rattle.wasi_steps.proofs.parse.option_of.Goals as goal

pub returns-else-is-7 : goal.returns-else-is-7
returns-else-is-7 c = λ rest. no_word option_words c.args.word.now rest (c.if-is.ensures and c.if-is-2.ensures and c.if-is-3.ensures and c.if-is-4.ensures and c.if-is-5.ensures and c.if-is-6.ensures and c.if-is-7.ensures and tt)
