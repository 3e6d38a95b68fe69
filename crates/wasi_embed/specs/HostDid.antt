-- What a function of a host did: nothing, or a step as `Session::step` has it.
use Rattle.std.specs.Prelude.{◌≡◌, ◌≢◌, ◌⊎◌, ℕ, List, Option, Some, None, option_map, Result, Ok, Err}
use Rattle.embed_flat.specs.declared.args.Refusal.{Refusal}
use Rattle.wasi_steps.specs.declared.step.Step.{Step}
use Rattle.wasi_steps.specs.declared.step.Step.TheVariants as step
use Rattle.wasi_steps.specs.declared.reply.Reply.{Reply}
use Rattle.wasi_steps.specs.Replies.{text_of}
use Rattle.wasi_steps.specs.Steps.{step_of}
use Rattle.wasi_session.specs.State.{State}
use Rattle.wasi_embed.specs.declared.answer.Answer.{Answer}
use Rattle.wasi_embed.specs.declared.answer.Request.{Request}
use Rattle.wasi_embed.specs.declared.host.Host.{Host}
use Rattle.wasi_embed.specs.declared.status.Status.{Status}
use Rattle.wasi_embed.specs.declared.status.Status.TheVariants as status
use Rattle.wasi_embed.specs.HasDid.{state_of}
use Rattle.wasi_embed.specs.Told.{call_told, number_of, refused_as, status_told}
use Rattle.wasi_embed.specs.Stepped.{DidStep}

-- the session of a host that is open
abbrev pub session_of : Host → Option State
session_of host = option_map (λ it. state_of it.kept) host.session

-- An open host's session did a step, and a closed host stayed closed.
abbrev pub Stepped : Option State → Option State → Step → Result Reply Status → Type 0
Stepped (Some old) (Some new) step told = DidStep old new step told
Stepped (Some old) None step told = ⊥
Stepped None (Some new) step told = ⊥
Stepped None None step told = told ≡ Err status.Closed

-- A host did one step, which is such a one, and this is so of what was told of it.
pub record DidOne (old new : Option State) (Is : Step → Type 0) (Tells : Result Reply Status → Type 0) : Type 0 where
  pub step : Step
  pub told : Result Reply Status
  pub is : Is step
  pub stepped : Stepped old new step told
  pub tells : Tells told

-- The step of a request: a poll where it has the number of a call that is pending, else a call of its context.
abbrev pub IsStepOf : Request → Step → Type 0
IsStepOf request (step.Call context call) = (request.pending ≡ 0) × (context ≡ request.context)
IsStepOf request (step.Poll line) = (request.pending ≢ 0) × (line ≡ request.pending)
IsStepOf request _ = ⊥

-- What an answer says of what was told, but for a result that doesn't fit where it was to lie.
abbrev pub Answers : Answer → Result Reply Status → Type 0
Answers answer told = ((answer.status ≡ number_of (status_told status.Ok told)) × (answer.call ≡ call_told told)) ⊎ (answer.status ≡ number_of status.Misfit)

-- An answer says why a call wasn't made.
pub record NotMade (answer : Answer) : Type 0 where
  pub refusal : Refusal
  pub status : answer.status ≡ number_of (refused_as refusal)

-- What a call of a guest did: nothing, or the step of its request.
abbrev pub DidCall : Host → Host → Request → Answer → Type 0
DidCall old new request answer = ((session_of new ≡ session_of old) × NotMade answer)
    ⊎ DidOne (session_of old) (session_of new) (IsStepOf request) (Answers answer)

-- why the step of a line isn't done
abbrev pub NoLine : Host → List ℕ → Result (Unit {0}) Status → Type 0
NoLine old line result = (result ≡ Err status.Memory) ⊎ ((step_of old.contexts line ≡ None) × (result ≡ Err status.Line))

-- What the step of a line leaves: the text of its reply, or why there is none.
abbrev pub Leaves : Host → Result (Unit {0}) Status → Result Reply Status → Type 0
Leaves new (Ok done) (Ok reply) = new.reply.items ≡ text_of reply
Leaves new (Err s) (Ok reply) = s ≡ status.Memory
Leaves new (Ok done) (Err s) = ⊥
Leaves new (Err t) (Err s) = t ≡ s

-- What a line did: nothing where memory ran out before or it is no step, else its step.
abbrev pub DidLine : Host → Host → List ℕ → Result (Unit {0}) Status → Type 0
DidLine old new line result = ((session_of new ≡ session_of old) × NoLine old line result)
    ⊎ DidOne (session_of old) (session_of new) (λ step. step_of old.contexts line ≡ Some step) (Leaves new result)
