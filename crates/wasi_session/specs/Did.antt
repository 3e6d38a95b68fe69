-- What a session did.
use Rattle.std.specs.Prelude.{◌≡◌, ◌⊎◌, ℕ, ◌==◌, nat_le, Bool, true, false, if◌then◌else◌, List, [], ◌∷◌, ◌++◌, length, Option, Some, None, IfSome, Result, Ok, Err}
use Rattle.wasi_world.specs.declared.outcome.WasiSocketsCtx.{WasiSocketsCtx}
use Rattle.wasi_world.specs.Seen.{Seen}
use Rattle.host_store.specs.Machine.{first_state}
use Rattle.host_store.specs.KnownSides.{KnowsSides}
use Rattle.wasi_machine.specs.Machine.{HasRun}
use Rattle.wasi_steps.specs.declared.step.Step.{Step}
use Rattle.wasi_steps.specs.declared.reply.Reply.{Reply}
use Rattle.wasi_steps.specs.Reply.{is_trap}
use Rattle.wasi_steps.specs.Steps.{context_of}
use Rattle.wasi_walks.specs.Licence.{IsLicensed}
use Rattle.wasi_calls.specs.Stretches.{Stretch}
use Rattle.wasi_session.specs.declared.error.StepError.{StepError}
use Rattle.wasi_session.specs.declared.error.StepError.TheVariants.{Over, TooMany, NoContext, Memory}
use Rattle.wasi_session.specs.State.{State}

-- Every step was done whole, and this is the host's state then.
pub record Going (s : State) (steps : List Step) (replies : List Reply) (start : Seen) : Type 0 where
  pub count : s.lines ≡ length steps
  pub answered : length replies ≡ length steps
  pub ran : Stretch s.contexts first_state 1 steps replies s.machine start s.seen

-- From a world that looked so at the start, the session did these steps and gave these replies: one for each step, but for one in
-- which memory ran out.
pub record Did (s : State) (steps : List Step) (replies : List Reply) (start : Seen) : Type 0 where
  -- Where the world reports its log, and it was empty, it is licensed by the steps and replies ..
  pub licensed : start.log ≡ Some [] → IfSome s.seen.log (λ log. IsLicensed s.contexts steps log replies)
  -- .. and is that of a run of the steps, of which the laws of runs speak.
  pub ran : start.log ≡ Some [] → IfSome s.seen.log (λ log. HasRun s.contexts steps log replies)
  pub going : s.over ≡ false → Going s steps replies start
  -- The records hold each network socket that was made and not closed.
  pub sides : KnowsSides start first_state.store → KnowsSides s.seen s.machine.store
  pub closings : s.seen.closings ≡ start.closings
  pub plan : s.seen.plan ≡ start.plan

-- whether a step can be done
abbrev pub in_contexts : List WasiSocketsCtx → Option ℕ → Result (Unit {0}) StepError
in_contexts contexts None = Ok tt
in_contexts contexts (Some context) = if nat_le (length contexts) context then Err (NoContext context) else Ok tt

abbrev pub may_step : State → Step → Result (Unit {0}) StepError
may_step s step = if s.over then Err Over else if s.lines == 4294967295 then Err TooMany else in_contexts s.contexts (context_of step)

-- Why a step has this reply, or none: one that can be done has a reply unless memory ran out within it, and one that can't has the
-- error that the session's state gives for it.
abbrev pub HasWhy : State → Step → Result Reply StepError → Type 0
HasWhy s step (Ok reply) = may_step s step ≡ Ok tt
HasWhy s step (Err e) = (may_step s step ≡ Err e) ⊎ ((e ≡ Memory) × (may_step s step ≡ Ok tt))

-- what the session did once it was given a step
abbrev pub DidNext : Result Reply StepError → Step → List Step → List Reply → Seen → State → Type 0
DidNext (Ok reply) step steps replies start s = Did s (steps ++ step ∷ []) (replies ++ reply ∷ []) start
DidNext (Err Memory) step steps replies start s = Did s (steps ++ step ∷ []) replies start
DidNext (Err _) step steps replies start s = Did s steps replies start

-- whether it is over then
abbrev pub is_over_after : Bool → Result Reply StepError → Bool
is_over_after over (Ok reply) = is_trap reply
is_over_after over (Err Memory) = true
is_over_after over (Err _) = over
