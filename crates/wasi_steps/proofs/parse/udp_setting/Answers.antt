use Rattle.wasi_steps.specs.Settings.{udp_setting_words, udp_setting_at}
use Rattle.world_text.specs.Fields.{read_then}
use Rattle.world_text.proofs.Words.{no_word}
use Rattle.wasi_steps.proofs.parse.udp_setting.Goals as goal

pub returns-in_default : goal.returns-in_default
unfolding udp_setting_at read_then
returns-in_default c = rw c.in_ok-word.ensures.read (no_word udp_setting_words c.in_ok-word.field-0.now c.word.new.self (assumption c))
