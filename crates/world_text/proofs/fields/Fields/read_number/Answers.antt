use Rattle.world_text.proofs.Numbers.{number_bound}
use Rattle.world_text.proofs.fields.Fields.read_number.Goals as goal

pub returns-clause-bound : goal.returns-clause-bound
returns-clause-bound c = number_bound _ _ _ c.number.ensures.value
