-- What a line depends on, and what it waits for.
use Rattle.std.specs.Prelude.{◌≡◌, Bool, true, false, List, [], ◌∷◌, ◌++◌, Option, Some, None, option_map}
use Rattle.wasi_world.specs.declared.ids.OpId.{OpId}
use Rattle.wasi_looks.specs.declared.look.Look.{Look}
use Rattle.wasi_looks.specs.declared.look.Readiness.TheVariants.{Read, Write}
use Rattle.step_looks.specs.declared.outlook.Outlook.{Outlook}
use Rattle.step_looks.specs.declared.outlook.Outlook.TheVariants.{Ready, Held, On}

-- what is read from a network socket, if there is one
abbrev pub to_read : Option OpId → Outlook
to_read (Some sock) = On (record { sock = sock; readiness = Read })
to_read None = Ready

-- what is written to one
abbrev pub to_write : Option OpId → Outlook
to_write (Some sock) = On (record { sock = sock; readiness = Write })
to_write None = Ready

-- the looks of some outlooks, in order; none where one is ready
abbrev pub with_outlook : Outlook → Option (List Look) → Option (List Look)
with_outlook Ready looks = None
with_outlook Held looks = looks
with_outlook (On look) looks = option_map (λ all. look ∷ all) looks

abbrev pub looks_in : List Outlook → Option (List Look)
looks_in [] = Some []
looks_in (outlook ∷ outlooks) = with_outlook outlook (looks_in outlooks)

-- what they are with one more
abbrev pub added_to : Outlook → List Look → Option (List Look)
added_to Ready looks = None
added_to Held looks = Some looks
added_to (On look) looks = Some (looks ++ look ∷ [])

abbrev pub Added : Bool → Outlook → List Look → List Look → Type 0
Added true outlook old new = added_to outlook old ≡ Some new
Added false outlook old new = added_to outlook old ≡ None

-- what is waited for: where one is ready, nothing
abbrev pub awaited : Option (List Look) → List Look
awaited None = []
awaited (Some looks) = looks

-- of a line that looks at one thing, and at these
abbrev pub looks_at : Outlook → List Look
looks_at outlook = awaited (looks_in (outlook ∷ []))

abbrev pub looks_at_all : List Outlook → List Look
looks_at_all outlooks = awaited (looks_in outlooks)
