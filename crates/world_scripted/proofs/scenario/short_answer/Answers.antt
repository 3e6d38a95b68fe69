use Rattle.world_scripted.specs.Scenario.{short_answers}
use Rattle.world_text.proofs.Words.{no_word}
use Rattle.world_scripted.proofs.scenario.short_answer.Goals as goal

pub returns-in_default : goal.returns-in_default
returns-in_default c = no_word short_answers c.args.word.now c.args.fields.now (assumption c)
