use Rattle.world_scripted.proofs.ScenarioLines.{short_answer_of}
use Rattle.world_scripted.proofs.scenario.answer.Goals as goal

pub returns-in_default-word : goal.returns-in_default-word
returns-in_default-word c =
    short_answer_of c.args.fields.now c.word.new.self c.in-Some.word.now c.short_answer.result c.short_answer.new.fields c.in-Some.ensures.read (assumption c) c.short_answer.ensures
