-- Lists of events on a record, for any kind of record.
use Rattle.std.specs.Prelude.{List, [], ◌∷◌}

-- each event meets its condition when it comes
abbrev pub AllMay : {R E : Type 0} → (R → E → Type 0) → (R → E → R) → R → List E → Type 0
AllMay may happens r [] = Unit {0}
AllMay may happens r (e ∷ events) = may r e × AllMay may happens (happens r e) events

-- an event and its answer
pub record Step (E A : Type 0) : Type 0 where
  pub event : E
  pub answer : A

-- the events with their answers
abbrev pub steps_of : {R E A : Type 0} → (R → E → A) → (R → E → R) → R → List E → List (Step E A)
steps_of answer happens r [] = []
steps_of answer happens r (e ∷ events) = record { event = e; answer = answer r e } ∷ steps_of answer happens (happens r e) events
