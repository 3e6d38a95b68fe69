-- A host does steps, and nothing else.
use Rattle.std.specs.Prelude.{◌≡◌, List, [], ◌∷◌, ◌++◌, Option, Some, None, IfSome, Result, Ok, Err, false}
use Rattle.std.proofs.Common.{refl, sym, ap, subst, ◌∙◌}
use Rattle.std.proofs.Math.Logic.{∥∥₁_map}
use Rattle.wasi_world.specs.declared.call.Entry.{Entry}
use Rattle.wasi_world.specs.Seen.{Seen}
use Rattle.wasi_records.specs.Closing.{IsFresh}
use Rattle.wasi_steps.specs.declared.step.Step.{Step}
use Rattle.wasi_steps.specs.declared.reply.Reply.{Reply}
use Rattle.wasi_net.specs.Net.{counts_of}
use Rattle.wasi_replay.specs.Replayed.{seen_of}
use Rattle.wasi_walks.specs.Licence.{IsLicensed}
use Rattle.wasi_session.specs.declared.error.StepError.{StepError}
use Rattle.wasi_session.specs.declared.error.StepError.TheVariants.{Over, TooMany, NoContext, Memory}
use Rattle.wasi_session.specs.State.{State}
use Rattle.wasi_session.specs.Did.{Did, DidNext, HasWhy, may_step, is_over_after}
use Rattle.wasi_embed.specs.declared.kept.Kept.{Kept}
use Rattle.wasi_embed.specs.declared.kept.Kept.TheVariants.{Silent, Noted}
use Rattle.wasi_embed.specs.HasDid.{state_of, first_log, HasDid, HasLicence}
use Rattle.wasi_embed.specs.Told.{told_of}
use Rattle.wasi_embed.specs.Stepped.{DidStep}

-- nothing yet
pub begun_silent : (s : State) (start : Seen) → start ≡ counts_of false 0 0 → Did s [] [] start → HasDid (Silent s)
begun_silent s start e d = record {
  steps = [];
  replies = [];
  start = start;
  fresh = subst (λ (x : Seen). IsFresh x) (sym e) (record { log = tt; closings = refl });
  first = ap (λ (x : Seen). x.log) e;
  did = d;
}

pub begun_noted : (s : State) (start : Seen) → start ≡ seen_of [] false 0 0 → Did s [] [] start → HasDid (Noted s)
begun_noted s start e d = record {
  steps = [];
  replies = [];
  start = start;
  fresh = subst (λ (x : Seen). IsFresh x) (sym e) (record { log = refl; closings = refl });
  first = ap (λ (x : Seen). x.log) e;
  did = d;
}

-- what a step makes of it
pub did_after : (old new : Kept) (result : Result Reply StepError) (step : Step) → first_log new ≡ first_log old
    → ((steps : List Step) (replies : List Reply) (start : Seen) → Did (state_of old) steps replies start → DidNext result step steps replies start (state_of new)) → HasDid old → HasDid new
did_after old new (Ok reply) step kind next d = record { steps = d.steps ++ step ∷ []; replies = d.replies ++ reply ∷ []; start = d.start; fresh = d.fresh; first = d.first ∙ sym kind; did = next d.steps d.replies d.start d.did }
did_after old new (Err Memory) step kind next d = record { steps = d.steps ++ step ∷ []; replies = d.replies; start = d.start; fresh = d.fresh; first = d.first ∙ sym kind; did = next d.steps d.replies d.start d.did }
did_after old new (Err Over) step kind next d = record { steps = d.steps; replies = d.replies; start = d.start; fresh = d.fresh; first = d.first ∙ sym kind; did = next d.steps d.replies d.start d.did }
did_after old new (Err TooMany) step kind next d = record { steps = d.steps; replies = d.replies; start = d.start; fresh = d.fresh; first = d.first ∙ sym kind; did = next d.steps d.replies d.start d.did }
did_after old new (Err (NoContext n)) step kind next d = record { steps = d.steps; replies = d.replies; start = d.start; fresh = d.fresh; first = d.first ∙ sym kind; did = next d.steps d.replies d.start d.did }

-- what was told of it
pub did_told : (old new : Kept) (step : Step) (result : Result Reply StepError)
    → ((e : StepError) → may_step (state_of old) step ≡ Err e → (result ≡ Err e) × (new ≡ old))
    → HasWhy (state_of old) step result
    → (state_of new).over ≡ is_over_after (state_of old).over result
    → ((steps : List Step) (replies : List Reply) (start : Seen) → Did (state_of old) steps replies start → DidNext result step steps replies start (state_of new))
    → (state_of new).contexts ≡ (state_of old).contexts → DidStep (state_of old) (state_of new) step (told_of result)
did_told old new step (Ok reply) refused why over next contexts = record { refused = λ e m. (ap told_of (refused e m).0, ap state_of (refused e m).1); why = record { result = Ok reply; as_told = refl; why = why }; did = next; over = over; contexts = contexts }
did_told old new step (Err Memory) refused why over next contexts = record { refused = λ e m. (ap told_of (refused e m).0, ap state_of (refused e m).1); why = record { result = Err Memory; as_told = refl; why = why }; did = next; over = over; contexts = contexts }
did_told old new step (Err Over) refused why over next contexts = record { refused = λ e m. (ap told_of (refused e m).0, ap state_of (refused e m).1); why = record { result = Err Over; as_told = refl; why = why }; did = next; over = over; contexts = contexts }
did_told old new step (Err TooMany) refused why over next contexts = record { refused = λ e m. (ap told_of (refused e m).0, ap state_of (refused e m).1); why = record { result = Err TooMany; as_told = refl; why = why }; did = next; over = over; contexts = contexts }
did_told old new step (Err (NoContext n)) refused why over next contexts = record { refused = λ e m. (ap told_of (refused e m).0, ap state_of (refused e m).1); why = record { result = Err (NoContext n); as_told = refl; why = why }; did = next; over = over; contexts = contexts }

-- nothing was done
pub did_same : (old new : Kept) → first_log new ≡ first_log old → state_of new ≡ state_of old → HasDid old → HasDid new
did_same old new kind same d = record {
  steps = d.steps;
  replies = d.replies;
  start = d.start;
  fresh = d.fresh;
  first = d.first ∙ sym kind;
  did = subst (λ (s : State). Did s d.steps d.replies d.start) (sym same) d.did;
}

-- a log that is kept is licensed
pub is_licensed : (kept : Kept) (log : List Entry) → first_log kept ≡ Some [] → (state_of kept).seen.log ≡ Some log → HasDid kept → HasLicence kept log
is_licensed kept log first logged d = record {
  steps = d.steps;
  replies = d.replies;
  licensed = subst (λ o. IfSome o (λ entries. IsLicensed (state_of kept).contexts d.steps entries d.replies)) logged (d.did.licensed (d.first ∙ first));
}

pub licensed_if : {A : Type 0} (kept : Kept) (r : Option A) (now : A → List Entry) → IfSome r (λ x. first_log kept ≡ Some []) → IfSome r (λ x. (state_of kept).seen.log ≡ Some (now x)) → ∥ HasDid kept ∥₁
    → IfSome r (λ x. ∥ HasLicence kept (now x) ∥₁)
licensed_if kept None now first logged did = tt
licensed_if kept (Some x) now first logged did = ∥∥₁_map did (is_licensed kept (now x) first logged)
