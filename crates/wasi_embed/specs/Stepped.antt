-- What is told of a step that a session did.
use Rattle.std.specs.Prelude.{◌≡◌, Bool, true, List, [], ◌∷◌, ◌++◌, Result, Ok, Err}
use Rattle.wasi_world.specs.Seen.{Seen}
use Rattle.wasi_steps.specs.declared.step.Step.{Step}
use Rattle.wasi_steps.specs.declared.reply.Reply.{Reply}
use Rattle.wasi_steps.specs.Reply.{is_trap}
use Rattle.wasi_session.specs.declared.error.StepError.{StepError}
use Rattle.wasi_session.specs.State.{State}
use Rattle.wasi_session.specs.Did.{Did, HasWhy, may_step}
use Rattle.wasi_embed.specs.declared.status.Status.{Status}
use Rattle.wasi_embed.specs.declared.status.Status.TheVariants as status
use Rattle.wasi_embed.specs.Told.{status_of, told_of}

-- what a session did after these steps, by what was told of the next
abbrev pub DidTold : Result Reply Status → Step → List Step → List Reply → Seen → State → Type 0
DidTold (Ok reply) step steps replies start s = Did s (steps ++ step ∷ []) (replies ++ reply ∷ []) start
DidTold (Err status.Memory) step steps replies start s = Did s (steps ++ step ∷ []) replies start
DidTold (Err _) step steps replies start s = Did s steps replies start

-- whether it is over then
abbrev pub is_over_told : Bool → Result Reply Status → Bool
is_over_told over (Ok reply) = is_trap reply
is_over_told over (Err status.Memory) = true
is_over_told over (Err _) = over

-- What is told of a step is what a session answered, and that has its cause.
pub record ToldWhy (s : State) (step : Step) (told : Result Reply Status) : Type 0 where
  pub result : Result Reply StepError
  pub as_told : told ≡ told_of result
  pub why : HasWhy s step result

-- The clauses of `Session::step`, for a session's states before a step and after it, and what was told of the step.
pub record DidStep (old new : State) (step : Step) (told : Result Reply Status) : Type 0 where
  -- A step that can't be done changes nothing.
  pub refused : (e : StepError) → may_step old step ≡ Err e → (told ≡ Err (status_of e)) × (new ≡ old)
  -- A step that has no reply has the status that the session's state gives for it, or memory ran out within it.
  pub why : ToldWhy old step told
  -- The session did this step besides, and gave its reply.
  pub did : (steps : List Step) (replies : List Reply) (start : Seen) → Did old steps replies start → DidTold told step steps replies start new
  pub over : new.over ≡ is_over_told old.over told
  pub contexts : new.contexts ≡ old.contexts
