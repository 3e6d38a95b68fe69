use Rattle.std.proofs.Common.{◌≡◌, ◌++◌, ◌∷◌, map, take, codes}
use Rattle.world_text.specs.Fields.{line_with}
use Rattle.wasi_steps.specs.Replies.{field_text}
use Rattle.wasi_steps.proofs.reply.push_ok.Given as goal

abbrev pub invariant-loop-field : goal.invariant-loop-field
invariant-loop-field l = l.text.items ≡ l.fn.text.items ++ line_with (codes "ok" ∷ map field_text (take l.field-index l.fields))
