use Rattle.wasi_steps.specs.Settings.{udp_option_words, udp_option_at}
use Rattle.world_text.specs.Fields.{read_then}
use Rattle.world_text.proofs.Words.{no_word}
use Rattle.wasi_steps.proofs.parse.udp_option.Goals as goal

pub returns-in_default : goal.returns-in_default
unfolding udp_option_at read_then
returns-in_default c = rw c.in_ok-word.ensures.read (no_word udp_option_words c.in_ok-word.field-0.now c.word.new.self (assumption c))
