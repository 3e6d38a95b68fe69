use Rattle.std.proofs.Common.{refl}
use Rattle.world_text.proofs.Visible.{fields_of_line, line_of_fields}
use Rattle.world_text.proofs.fields.lines_have_their_fields.Goals as goal

pub returns : goal.returns
returns c = record { fields = fields_of_line; only = λ line. line_of_fields line _ refl }
