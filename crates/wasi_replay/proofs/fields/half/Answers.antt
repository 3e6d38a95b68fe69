use Rattle.wasi_replay.specs.Arguments.{half_words, half_at}
use Rattle.world_text.specs.Fields.{read_then}
use Rattle.world_text.proofs.Words.{no_word}
use Rattle.wasi_replay.proofs.fields.half.Goals as goal

pub returns-in_default : goal.returns-in_default
unfolding half_at read_then
returns-in_default c = rw c.in_ok-word.ensures.read (no_word half_words c.in_ok-word.field-0.now c.word.new.self (assumption c))
