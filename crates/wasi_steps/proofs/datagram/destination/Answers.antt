use Rattle.wasi_steps.specs.Datagrams.{destination_words, destination_at}
use Rattle.world_text.specs.Fields.{read_then}
use Rattle.world_text.proofs.Words.{no_word}
use Rattle.wasi_steps.proofs.datagram.destination.Goals as goal

pub returns-in_default : goal.returns-in_default
unfolding destination_at read_then
returns-in_default c = rw c.in_ok-word.ensures.read (no_word destination_words c.in_ok-word.field-0.now c.word.new.self (assumption c))
