use Rattle.world_text.proofs.FieldsOf.{rest_all}
use Rattle.world_text.proofs.fields.Fields.rest.Goals as goal

pub returns : goal.returns
returns c = rw (← c.self.view_is, c.in_ok-line.was) (rest_all c.in_ok-line.line.now)
