-- The laws of runs, of one run.
use Rattle.std.proofs.Common.{◌≡◌, ◌⊎◌, ℕ, ◌+◌, List, [], ◌∷◌, ◌++◌, length, Option, Some, None, Result, ap, inl, inr, sym, subst, ◌∙◌, append-nil}
use Rattle.std.specs.Prelude.{IfSome}
use Rattle.wasi_world.specs.declared.ids.OpId.{OpId}
use Rattle.wasi_world.specs.declared.call.Entry.{Entry}
use Rattle.wasi_world.specs.declared.outcome.WasiSocketsCtx.{WasiSocketsCtx}
use Rattle.wasi_world.specs.Asks.{Give}
use Rattle.wasi_world.specs.Seen.{Seen}
use Rattle.world_io.specs.Io.{Reading, Writing}
use Rattle.wasi_tcp.specs.Taken.{taken_in, IsFrontOf}
use Rattle.host_store.specs.declared.machine.Machine.{Machine}
use Rattle.host_store.specs.Machine.{first_state}
use Rattle.wasi_steps.specs.declared.reply.Reply.{Reply}
use Rattle.wasi_steps.specs.declared.step.Step.{Step}
use Rattle.wasi_machine.specs.Machine.{HasRun}
use Rattle.wasi_walks.specs.Licence.{IsLicensed}
use Rattle.wasi_walks.proofs.received.Runs.{runs_in_order}
use Rattle.wasi_laws.specs.Permitted.{IsOfSteps, Did, Begun}
use Rattle.wasi_laws.specs.Receivers.{ReceivesOnOne}
use Rattle.wasi_laws.proofs.order.Law.{runs_ordered}
use Rattle.wasi_laws.proofs.permits.Runs.{runs_let, runs_let_begun}
use Rattle.wasi_laws.proofs.permits.Steps.{runs_of_steps}
use Rattle.wasi_laws.proofs.receivers.Law.{runs_receive_on_one}
use Rattle.wasi_laws.proofs.sockets.Law.{runs_open}
use Rattle.wasi_causes.specs.ReceivedApart.{ReceivedApart}
use Rattle.wasi_causes.specs.ReceivedList.{handed_out}
use Rattle.wasi_causes.proofs.receiving.Apart.{asked_in_log, runs_receive_apart}
use Rattle.wasi_causes.proofs.receiving.Runs.{runs_hand_out_fronts}
use Rattle.wasi_run.specs.declared.error.RunError.{RunError}
use Rattle.wasi_run.specs.declared.run.RunEnd.{RunEnd}
use Rattle.wasi_run.specs.Headline.{RunsLicensed}
use Rattle.run_laws.specs.Composed.{permitted_next, TookPermitted, KeepsLaws, NoneServesBoth, RunsByLaws}

-- a fact of what is there, from another
onto_some : {A : Type 0} {P Q : A → Type 0} (o : Option A) → ((a : A) → P a → Q a) → IfSome o P → IfSome o Q
onto_some None f p = tt
onto_some (Some a) f p = f a p

-- what was taken, in the middle of the step after those that were done
taken_so : (contexts : List WasiSocketsCtx) (side : OpId) (done left : List Step) (front entries : List Entry) (bytes : List ℕ) (after : Machine)
    → Did contexts side first_state 1 done front bytes after → Begun contexts after (1 + length done) left entries
    → IsFrontOf (taken_in side (front ++ entries)) (bytes ++ permitted_next after side (1 + length done) left entries)
taken_so contexts side done [] front entries bytes after did none =
    let F : List Entry → List ℕ → Type 0 = λ es bs. IsFrontOf (taken_in side es) bs in
    subst (λ es. F (front ++ es) (bytes ++ [])) (sym none) (subst (λ es. F es (bytes ++ [])) (sym (append-nil front)) (subst (F front) (sym (append-nil bytes)) (runs_let contexts side done front bytes after did)))
taken_so contexts side done (s ∷ left) front entries bytes after did begun = runs_let_begun contexts side done front bytes after s entries begun.0 did begun.1

took_permitted : (contexts : List WasiSocketsCtx) (side : OpId) (steps : List Step) (log : List Entry) → IsOfSteps contexts side first_state 1 steps log → TookPermitted contexts side steps log
took_permitted contexts side steps log o = record {
  line_by_line = o;
  front = rw o.whole (taken_so contexts side o.done o.left o.front o.entries o.permitted o.after o.did o.begun);
}

-- no operation serves two: on one network socket, nor on two, since each receives on one
none_serves_both : (log : List Entry) (steps : List Step) (replies : List Reply) → ReceivesOnOne steps log → (first second : ℕ) → ReceivedApart log steps replies first second → NoneServesBoth log steps replies first second
none_serves_both log steps replies on_one first second k = record {
  one = k.one;
  two = k.two;
  apart = λ op h l.
      let a = asked_in_log log steps replies first k.one op h in
      let b = asked_in_log log steps replies second k.two op l in
      k.apart (on_one.one op k.one.side k.two.side (record { told = a.0; asked = a.1 }) (record { told = b.0; asked = b.1 })) op h l;
}

serves_apart : {log : List Entry} {steps : List Step} {replies : List Reply} → ReceivesOnOne steps log → (first second : ℕ)
    → (handed_out first steps replies ≡ []) ⊎ ((handed_out second steps replies ≡ []) ⊎ ReceivedApart log steps replies first second)
    → (handed_out first steps replies ≡ []) ⊎ ((handed_out second steps replies ≡ []) ⊎ NoneServesBoth log steps replies first second)
serves_apart {log} {steps} {replies} on_one first second (inl none) = inl none
serves_apart {log} {steps} {replies} on_one first second (inr (inl none)) = inr (inl none)
serves_apart {log} {steps} {replies} on_one first second (inr (inr k)) = inr (inr (none_serves_both log steps replies on_one first second k))

keeps_laws : (contexts : List WasiSocketsCtx) (steps : List Step) (log : List Entry) (replies : List Reply) → HasRun contexts steps log replies → IsLicensed contexts steps log replies
    → KeepsLaws contexts steps log replies
keeps_laws contexts steps log replies h licensed = record {
  run = h;
  licensed = licensed;
  checks_first = λ op. runs_ordered op contexts steps log h.rest h.begun;
  while_open = runs_open contexts steps log h.rest h.begun;
  on_one = runs_receive_on_one contexts steps log h.rest h.begun;
  taken = λ side. took_permitted contexts side steps log (runs_of_steps contexts side steps log h.rest h.begun);
  in_order = λ side. runs_in_order contexts side steps log replies h;
  handed_out = λ handle. runs_hand_out_fronts handle contexts h.done h.front replies h.state h.ran;
  apart = λ first second not. serves_apart (runs_receive_on_one contexts h.done h.front (Give (replies, h.state)) h.ran) first second (runs_receive_apart contexts h.done h.front replies h.state first second h.ran not);
}

pub by_laws : {contexts : List WasiSocketsCtx} {limit : ℕ} {before after : Reading} {k_old k_new : Writing} {w_old w_new : Seen} {result : Result RunEnd RunError}
    → RunsLicensed contexts limit before after k_old k_new w_old w_new result → RunsByLaws contexts limit before after k_old k_new w_old w_new result
by_laws {contexts} {w_new = w_new} h = record {
  ran = h.ran;
  composed = λ fresh. onto_some w_new.log (λ log both. let lines = h.ran.over.ran in keeps_laws contexts (lines.steps ++ lines.met) log lines.replies both.0 both.1) (h.licensed fresh);
}
