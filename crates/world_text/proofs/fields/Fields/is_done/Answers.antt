use Rattle.std.proofs.Common.{◌≡◌, [], IsTrue, ℕ, List, Bool, true, false, not, is_some, Option, Some, None, refl}
use denote.Ref.{Bor}
use Rattle.world_text.specs.Fields.{fields_left}
use Rattle.world_text.proofs.FieldsOf.{fields_of_some}
use Rattle.world_text.proofs.fields.Fields.is_done.Goals as goal

-- nothing is left exactly where no field is
done : (rest : Option (Bor (List ℕ))) (b : Bool) → is_some rest ≡ not b → (IsTrue b → fields_left rest ≡ []) × (fields_left rest ≡ [] → IsTrue b)
done None true h = (λ _. refl, λ _. refl)
done None false h = cc
done (Some line) true h = cc
done (Some line) false h = (λ t. cc, λ none. absurd (fields_of_some line.now none))

pub returns : goal.returns
returns c = rw (← c.self.view_is) (done c.self.inside.rest c.is_none.result c.is_none.ensures)
