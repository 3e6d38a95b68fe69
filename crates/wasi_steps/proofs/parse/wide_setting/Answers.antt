use Rattle.wasi_steps.specs.Settings.{wide_words}
use Rattle.world_text.proofs.Words.{no_word}
use Rattle.wasi_steps.proofs.parse.wide_setting.Goals as goal

pub returns-in_default : goal.returns-in_default
returns-in_default c = λ old rest h. no_word wide_words c.args.word.now old (assumption c)
