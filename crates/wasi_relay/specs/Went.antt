-- How a session went on by a part of a guest.
use Rattle.std.specs.Prelude.{◌≡◌, List, Result, Ok, Err}
use Rattle.wasi_world.specs.Seen.{Seen}
use Rattle.wasi_steps.specs.declared.step.Step.{Step}
use Rattle.wasi_steps.specs.declared.reply.Reply.{Reply}
use Rattle.wasi_session.specs.declared.error.StepError.{StepError}
use Rattle.wasi_session.specs.State.{State}
use Rattle.wasi_session.specs.Did.{Did}
use Rattle.wasi_relay.specs.Guest.{Guest, Part, Leads, Begins}

-- The session, from this start, did the guest up to this rest.
pub record Stands (guest rest : Guest) (start : Seen) (s : State) : Type 0 where
  pub steps : List Step
  pub replies : List Reply
  pub leads : Leads guest steps replies rest
  pub did : Did s steps replies start

-- The session, from this start, did the first of the guest.
pub record Stopped (guest : Guest) (start : Seen) (s : State) : Type 0 where
  pub steps : List Step
  pub replies : List Reply
  pub begins : Begins guest steps replies
  pub did : Did s steps replies start

-- behind the part with what it gave, or within it
abbrev pub Stays : {A : Type 0} → Guest → Seen → (A → Guest) → State → Result A StepError → Type 0
Stays guest start next s (Ok a) = Stands guest (next a) start s
Stays guest start next s (Err e) = Stopped guest start s

-- Wherever a guest stood at this part, it stands behind it, with what the part gave; or it stopped within it.
pub record Went {A : Type 0} (part : Part A) (old new : State) (result : Result A StepError) : Type 0 where
  pub goes : (guest : Guest) (start : Seen) (next : A → Guest) → Stands guest (part next) start old → Stays guest start next new result
  pub contexts : new.contexts ≡ old.contexts

-- what a call gave that gives this where it succeeds
abbrev pub given : {A T : Type 0} → A → Result T StepError → Result A StepError
given a (Ok done) = Ok a
given a (Err e) = Err e
