use Rattle.wasi_steps.specs.Arguments.{shutdown_words, shutdown_at}
use Rattle.world_text.specs.Fields.{read_then}
use Rattle.world_text.proofs.Words.{no_word}
use Rattle.wasi_steps.proofs.parse.shutdown_type.Goals as goal

pub returns-in_default : goal.returns-in_default
unfolding shutdown_at read_then
returns-in_default c = rw c.in_ok-word.ensures.read (no_word shutdown_words c.in_ok-word.field-0.now c.word.new.self (assumption c))
