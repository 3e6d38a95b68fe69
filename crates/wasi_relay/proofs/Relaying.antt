-- A relay, whole.
use Rattle.std.proofs.Common.{◌≡◌, ◌∙◌, refl, List, [], Option, Some, None, IfSome, Result, Ok, Err}
use Rattle.wasi_world.specs.declared.call.Entry.{Entry}
use Rattle.wasi_world.specs.declared.outcome.WasiSocketsCtx.{WasiSocketsCtx}
use Rattle.wasi_world.specs.Seen.{Seen}
use Rattle.wasi_records.specs.Closing.{AsksNothing, HasClosedAll, IsFresh}
use Rattle.wasi_machine.specs.Machine.{HasRun}
use Rattle.wasi_walks.specs.Licence.{IsLicensed}
use Rattle.wasi_session.specs.declared.error.StepError.{StepError}
use Rattle.wasi_steps.specs.declared.step.Step.{Step as AStep}
use Rattle.wasi_steps.specs.declared.reply.Reply.{Reply}
use Rattle.wasi_session.specs.State.{State}
use Rattle.wasi_session.specs.Did.{Did}
use Rattle.wasi_relay.specs.declared.order.Order.{Order}
use Rattle.wasi_relay.specs.declared.setup.Listener.{Listener}
use Rattle.wasi_relay.specs.declared.setup.Stop.{Stop}
use Rattle.wasi_relay.specs.declared.setup.Stop.TheVariants.{Ended, Step}
use Rattle.wasi_relay.specs.declared.service.RelayEnd.{RelayEnd}
use Rattle.wasi_relay.specs.declared.pair.Pair.{Pair}
use Rattle.wasi_relay.specs.Guest.{Ends, Leads, Part}
use Rattle.wasi_relay.specs.Went.{Went, Stands, Stopped}
use Rattle.wasi_relay.specs.Setup.{setup, outcome, as_is, stop_end}
use Rattle.wasi_relay.specs.Turns.{Course, Finish, finish, finished, rounds}
use Rattle.wasi_relay.specs.RelaySteps.{HasCopied, Relays, relayed, relay_guest, after_setup, no_course, at_end}
use Rattle.wasi_relay.proofs.Making.{AllMade, leads_made, begins_made}
use Rattle.wasi_relay.proofs.Addresses.{keeps_in}
use Rattle.wasi_relay.proofs.Going.{went_give, went_then, went_stop}
use Rattle.wasi_relay.proofs.Settles.{run_copies}

pub set_up_then : {s t u : State} {result : Result Finish StepError} (order : Order) (listener : Listener) → Went (setup order) s t (Ok (Ok listener)) → Went (rounds order listener listener.turns no_course) t u result → Went (relayed order) s u result
set_up_then order listener h k = went_then (after_setup order) h k

pub not_set_up : {s t : State} (order : Order) (stop : Stop) → Went (setup order) s t (outcome (as_is {A = Listener}) (Err stop)) → Went (relayed order) s t (finished no_course (stop_end stop))
not_set_up order (Ended end) h = went_then (after_setup order) h (went_give (finish end no_course))
not_set_up order (Step e) h = went_stop (after_setup order) h

-- of the same log, in the same contexts
same_log : (F : List WasiSocketsCtx → List Entry → Type 0) {a b d : List WasiSocketsCtx} {x y : Option (List Entry)} → y ≡ x → b ≡ a → a ≡ d → IfSome x (F b) → IfSome y (F d)
same_log F e f g h = rw (e, ← g, ← f) h

begun : {s : State} {start : Seen} (order : Order) → Did s [] [] start → Stands (relay_guest order) (relayed order at_end) start s
begun order first = record { steps = []; replies = []; leads = refl; did = first }

-- what it copied, by the run
has_copied : (order : Order) (contexts : List WasiSocketsCtx) (steps : List AStep) (replies : List Reply) (end : RelayEnd) (pairs : List Pair) → Leads (relay_guest order) steps replies (Ends end pairs) → (log : Option (List Entry)) → IfSome log (λ log. HasRun contexts steps log replies) → IfSome log (HasCopied (Ok end) pairs)
has_copied order contexts steps replies end pairs leads (Some log) ran = run_copies contexts order steps replies end pairs leads log ran
has_copied order contexts steps replies end pairs leads None ran = tt

none_copied : (e : StepError) (pairs : List Pair) (log : Option (List Entry)) → IfSome log (HasCopied (Err e) pairs)
none_copied e pairs (Some log) = tt
none_copied e pairs None = tt

-- what a session did by the guest, from its first step to the end of its world
module _ {s t : State} {start now : Seen} (order : Order) (contexts : List WasiSocketsCtx) (at : Course) (same : s.contexts ≡ contexts) (first : Did s [] [] start) (quiet : AsksNothing t.seen now) where
  is_licensed : {A : Type 0} {part : Part A} {result : Result A StepError} → Went part s t result → (steps : List AStep) (replies : List Reply) → IfSome t.seen.log (λ log. IsLicensed t.contexts steps log replies) → IfSome now.log (λ log. IsLicensed contexts steps log replies)
  is_licensed went steps replies h = same_log (λ ctx log. IsLicensed ctx steps log replies) quiet.log went.contexts same h

  pub relays : (result : Result RelayEnd StepError) → Went (relayed order) s t (finished at result) → Relays order contexts start now result at.pairs
  relays (Ok end) went =
      let there : Stands (relay_guest order) (at_end (finish end at)) start t = went.goes (relay_guest order) start at_end (begun order first) in
      let made : AllMade order there.steps = leads_made order there.steps there.replies (at_end (finish end at)) there.leads in
      record {
        steps = there.steps;
        replies = there.replies;
        by_steps = there.leads;
        licensed = λ empty. is_licensed went there.steps there.replies (there.did.licensed empty);
        ran = λ empty. same_log (λ ctx log. HasRun ctx there.steps log there.replies) quiet.log went.contexts same (there.did.ran empty);
        addresses = λ empty. keeps_in order there.steps made contexts now.log there.replies (is_licensed went there.steps there.replies (there.did.licensed empty));
        copied = λ empty. has_copied order contexts there.steps there.replies end at.pairs there.leads now.log (same_log (λ ctx log. HasRun ctx there.steps log there.replies) quiet.log went.contexts same (there.did.ran empty));
        plan = quiet.plan ∙ there.did.plan;
      }
  relays (Err e) went =
      let there : Stopped (relay_guest order) start t = went.goes (relay_guest order) start at_end (begun order first) in
      let made : AllMade order there.steps = begins_made order there.steps there.replies there.begins in
      record {
        steps = there.steps;
        replies = there.replies;
        by_steps = there.begins;
        licensed = λ empty. is_licensed went there.steps there.replies (there.did.licensed empty);
        ran = λ empty. same_log (λ ctx log. HasRun ctx there.steps log there.replies) quiet.log went.contexts same (there.did.ran empty);
        addresses = λ empty. keeps_in order there.steps made contexts now.log there.replies (is_licensed went there.steps there.replies (there.did.licensed empty));
        copied = λ empty. none_copied e at.pairs now.log;
        plan = quiet.plan ∙ there.did.plan;
      }

  -- what is closed at the end of all that a session did
  pub closes : (result : Result RelayEnd StepError) → Went (relayed order) s t (finished at result) → ((steps : List AStep) (replies : List Reply) (first : Seen) → Did t steps replies first → IsFresh first → HasClosedAll now) → IsFresh start → HasClosedAll now
  closes (Ok end) went closed fresh =
      let there : Stands (relay_guest order) (at_end (finish end at)) start t = went.goes (relay_guest order) start at_end (begun order first) in
      closed there.steps there.replies start there.did fresh
  closes (Err e) went closed fresh =
      let there : Stopped (relay_guest order) start t = went.goes (relay_guest order) start at_end (begun order first) in
      closed there.steps there.replies start there.did fresh
