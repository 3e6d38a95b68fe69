use Rattle.wasi_replay.specs.Calls.{rows_of_answers, plain_answers}
use Rattle.world_text.proofs.Words.{no_word}
use Rattle.wasi_replay.proofs.told.plain_answer.Goals as goal

pub returns-in_default : goal.returns-in_default
returns-in_default c = no_word (rows_of_answers plain_answers) c.args.word.now c.args.fields.now (assumption c)
