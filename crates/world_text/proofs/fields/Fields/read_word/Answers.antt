use Rattle.world_text.proofs.Reading.{word_found, word_none}
use Rattle.world_text.proofs.fields.Fields.read_word.Goals as goal

pub returns-in-Ok : goal.returns-in-Ok
returns-in-Ok c = word_found _ _ _ _ c.in_ok-next.ensures.first c.in-Ok.ensures.cases.0 c.in-Ok.ensures.cases.1

pub returns-in-Err : goal.returns-in-Err
returns-in-Err c = word_none _ _ _ c.in_ok-next.ensures.first c.in-Err.ensures.cases.0
