use Rattle.wasi_replay.specs.Calls.{rows_of_answers, memory_answers, plain_answers, told_at}
use Rattle.wasi_replay.proofs.PastWords.{past_word}
use Rattle.wasi_replay.proofs.told.told.Goals as goal

pub returns-in_default-word : goal.returns-in_default-word
unfolding told_at
returns-in_default-word c =
    past_word (rows_of_answers memory_answers) (rows_of_answers plain_answers) c.args.fields.now c.word.new.self c.plain_answer.new.fields c.in-Some.word.now c.plain_answer.result c.in-Some.ensures.read (assumption c) c.plain_answer.ensures
