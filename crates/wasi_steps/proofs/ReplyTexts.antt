-- The texts of replies, a field at a time, and that a step's replies are told apart by them.
use Rattle.std.proofs.Common.{◌≡◌, ℕ, ◌+◌, ◌<◌, List, ◌∷◌, ◌++◌, map, take, get_or, length, codes, append_assoc}
use Rattle.std.proofs.lemmas.List.{map_more}
use Rattle.world_text.specs.Fields.{line_with}
use Rattle.world_text.proofs.FieldsOf.{line_with-push}
use Rattle.wasi_steps.specs.declared.reply.Field.{Field}
use Rattle.wasi_steps.specs.Replies.{field_text}

-- one field more
pub field_more : (old so_far spaced now : List ℕ) (fields : List Field) (i : ℕ) (f : Field) → i < length fields → f ≡ get_or fields i f → so_far ≡ old ++ line_with (codes "ok" ∷ map field_text (take i fields)) → spaced ≡ so_far ++ codes " " → now ≡ spaced ++ field_text f → now ≡ old ++ line_with (codes "ok" ∷ map field_text (take (i + 1) fields))
field_more old so_far spaced now fields i f at is had space added =
    rw (map_more field_text fields i f at, ← is, line_with-push (codes "ok") (map field_text (take i fields)) (field_text f), added, space, had, append_assoc, append_assoc)
