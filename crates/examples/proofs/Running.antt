-- A session that did some steps.
use Rattle.std.proofs.Common.{◌≡◌, ◌∙◌, refl, List, [], Option, Some, None, IfSome, Result, Ok, Err}
use Rattle.wasi_world.specs.Seen.{Seen}
use Rattle.wasi_world.specs.declared.call.Entry.{Entry}
use Rattle.wasi_steps.specs.declared.step.Step.{Step}
use Rattle.wasi_steps.specs.declared.reply.Reply.{Reply}
use Rattle.wasi_walks.specs.Licence.{IsLicensed}
use Rattle.wasi_records.specs.Closing.{AsksNothing}
use Rattle.wasi_session.specs.State.{State}
use Rattle.wasi_session.specs.Did.{Did, DidNext}
use Rattle.wasi_session.specs.declared.error.StepError.{StepError}
use Rattle.wasi_session.specs.declared.error.StepError.TheVariants.{Over, TooMany, NoContext, Memory}
use Rattle.examples.specs.Checked.{ConnectsChecked}

pub record Running (s : State) (start : Seen) : Type 0 where
  pub steps : List Step
  pub replies : List Reply
  pub did : Did s steps replies start

pub running_next : {s : State} {start : Seen} (steps : List Step) (replies : List Reply) (step : Step) (r : Result Reply StepError) → DidNext r step steps replies start s → Running s start
running_next steps replies step (Ok reply) d = record { steps = _; replies = _; did = d }
running_next steps replies step (Err Memory) d = record { steps = _; replies = _; did = d }
running_next steps replies step (Err Over) d = record { steps = _; replies = _; did = d }
running_next steps replies step (Err TooMany) d = record { steps = _; replies = _; did = d }
running_next steps replies step (Err (NoContext n)) d = record { steps = _; replies = _; did = d }

-- a log that is licensed has its connects checked
checked_log : {s : State} {start : Seen} (r : Running s start) (log : Option (List Entry)) → IfSome log (λ l. IsLicensed s.contexts r.steps l r.replies) → IfSome log ConnectsChecked
checked_log r (Some log) h = λ before after op sock addr told cut. (h.each before (record { op = op; call = _; answer = told }) after cut).2
checked_log r None h = tt

pub checked : {s : State} {start now : Seen} → Running s start → start.log ≡ Some [] → AsksNothing s.seen now → IfSome now.log ConnectsChecked
checked {s} r empty quiet = rw quiet.log (checked_log r s.seen.log (r.did.licensed empty))
