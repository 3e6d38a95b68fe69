-- The fields that a reply keeps.
use Rattle.std.specs.Prelude.{List, [], ◌∷◌}
use Rattle.wasi_steps.specs.declared.reply.Field.{Field}
use Rattle.wasi_steps.specs.declared.reply.KeptFields.{KeptFields}
use Rattle.wasi_steps.specs.declared.reply.KeptFields.TheVariants as kept

abbrev pub kept_fields : KeptFields → List Field
kept_fields (kept.One field) = field ∷ []
kept_fields (kept.Several fields) = fields.items
