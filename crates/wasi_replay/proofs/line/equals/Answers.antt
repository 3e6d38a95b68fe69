use Rattle.wasi_replay.specs.Log.{equals_word, equals_at}
use Rattle.world_text.specs.Fields.{read_then}
use Rattle.world_text.proofs.Words.{no_word}
use Rattle.wasi_replay.proofs.line.equals.Goals as goal

pub returns-in_default : goal.returns-in_default
unfolding equals_at read_then
returns-in_default c = rw c.in_ok-word.ensures.read (no_word equals_word c.in_ok-word.field-0.now c.word.new.self (assumption c))
