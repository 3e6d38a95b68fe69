-- What a session did, with one step more.
use Rattle.std.proofs.Common.{◌≡◌, ◌≢◌, ◌⊎◌, inl, inr, ◌<◌, nat_le, if◌then◌else◌, ◌∙◌, refl, sym, ap, ℕ, ◌+◌, ◌==◌, Bool, true, false, List, [], ◌∷◌, ◌++◌, length, Option, Some, None, IfSome, Result, Ok, Err, append-nil, length-append, arith}
use Rattle.wasi_world.specs.declared.call.Entry.{Entry}
use Rattle.wasi_world.specs.declared.outcome.WasiSocketsCtx.{WasiSocketsCtx}
use Rattle.wasi_world.specs.Seen.{Seen}
use Rattle.wasi_world.specs.Asks.{Asks, Give, Reaches, Started}
use Rattle.wasi_world.proofs.Walks.{reaches_then, reaches_in}
use Rattle.host_store.specs.declared.machine.Machine.{Machine}
use Rattle.host_store.specs.Machine.{first_state}
use Rattle.host_store.specs.KnownSides.{KnowsSides}
use Rattle.wasi_machine.specs.Machine.{machine_asks, run, HasRun}
use Rattle.wasi_steps.specs.declared.step.Step.{Step}
use Rattle.wasi_steps.specs.declared.reply.Reply.{Reply}
use Rattle.wasi_steps.specs.Reply.{is_trap}
use Rattle.wasi_steps.specs.Steps.{context_of}
use Rattle.wasi_walks.specs.Licence.{IsLicensed}
use Rattle.wasi_walks.proofs.licence.Runs.{runs_licensed}
use Rattle.wasi_records.specs.Closing.{IsFresh, HasClosedAll, HasClosedEach}
use Rattle.wasi_records.specs.Sides.{ClosesAll}
use Rattle.record_common.specs.Sides.{no_socket}
use Rattle.wasi_world.specs.declared.ids.OpId.{OpId}
use Rattle.wasi_records.proofs.Closings.{empty_known}
use Rattle.wasi_calls.specs.Stretches.{Stretch}
use Rattle.wasi_calls.proofs.Stretches.{Stepped, stretch_none, stretch_one, stretch_then, next_run}
use Rattle.wasi_calls.proofs.Stretches.{one_ran}
use Rattle.wasi_session.specs.State.{State}
use Rattle.std.specs.Prelude.{IsErrAnd}
use Rattle.wasi_session.specs.declared.error.StepError.{StepError}
use Rattle.wasi_session.specs.declared.error.StepError.TheVariants.{Over, TooMany, NoContext, Memory}
use Rattle.wasi_session.specs.Did.{Did, DidNext, Going, HasWhy, in_contexts, may_step}

-- what was asked is in the log after what was there
logged : {A : Type 0} {asks rest : Asks A} {old new : Seen} (front : List Entry) (h : Reaches asks rest old new) → old.log ≡ Some front → new.log ≡ Some (front ++ h.entries)
logged front h log = rw log at h.passed.log

-- a log of a run is licensed
licensed_by : (contexts : List WasiSocketsCtx) (steps : List Step) (replies : List Reply) (log : Option (List Entry)) → IfSome log (λ l. HasRun contexts steps l replies) → IfSome log (λ l. IsLicensed contexts steps l replies)
licensed_by contexts steps replies (Some log) h = runs_licensed contexts steps log replies h
licensed_by contexts steps replies None h = tt

-- the log of a run whose steps were all done
all_ran : (contexts : List WasiSocketsCtx) (steps : List Step) (replies : List Reply) {state : Machine} {start now : Seen} → Reaches (run contexts [] first_state 1 steps) (Give (replies, state)) start now → length replies ≡ length steps → start.log ≡ Some [] → IfSome now.log (λ log. HasRun contexts steps log replies)
all_ran contexts steps replies {state} {start} {now} h e empty =
    let log : now.log ≡ Some h.entries = logged [] h empty in
    rw log (record {
      rest = Give (replies, state);
      begun = h.left;
      done = steps;
      more = [];
      first = sym (append-nil steps);
      answered = e;
      front = h.entries;
      back = [];
      cut = sym (append-nil h.entries);
      state = state;
      ran = h.left;
    })

-- all steps of a stretch
whole : {contexts : List WasiSocketsCtx} {steps : List Step} {replies : List Reply} {state : Machine} {start now : Seen} → Stretch contexts first_state 1 steps replies state start now → Reaches (run contexts [] first_state 1 steps) (Give (replies, state)) start now
whole {steps = steps} h = rw (append-nil steps) at (h.reached [] [])

-- before the first step
pub did_none : (contexts : List WasiSocketsCtx) (machine : Machine) (lines : ℕ) (seen now : Seen) → machine ≡ first_state → lines ≡ 0 → now ≡ seen → Did (record { contexts = contexts; machine = machine; lines = lines; over = false; seen = now }) [] [] seen
did_none contexts machine lines seen now e f g = rw (e, f, g) (record {
  licensed = λ empty. licensed_by contexts [] [] seen.log (all_ran contexts [] [] (whole (stretch_none contexts first_state 1 seen)) refl empty);
  ran = all_ran contexts [] [] (whole (stretch_none contexts first_state 1 seen)) refl;
  going = λ _. record { count = refl; answered = refl; ran = stretch_none contexts first_state 1 seen };
  sides = λ held. held;
  closings = refl;
  plan = refl;
})

one_longer : {A B : Type 0} (xs : List A) (ys : List B) (x : A) (y : B) → length xs ≡ length ys → length (xs ++ x ∷ []) ≡ length (ys ++ y ∷ [])
one_longer xs ys x y e = omega (arith, length-append xs (x ∷ []), length-append ys (y ∷ []), e)

next_line : {A : Type 0} (lines : ℕ) (xs : List A) (x : A) → lines ≡ length xs → lines + 1 ≡ length (xs ++ x ∷ [])
next_line lines xs x e = omega (arith, length-append xs (x ∷ []), e)

line_is : {A : Type 0} (lines : ℕ) (xs : List A) → lines ≡ length xs → lines + 1 ≡ 1 + length xs
line_is lines xs e = omega (arith, e)

module _ {s : State} {steps : List Step} {replies : List Reply} {start : Seen} (d : Did s steps replies start) (over : s.over ≡ false) (step : Step) where
  -- the step was done, and answered so
  module _ (reply : Reply) (machine : Machine) (now : Seen) (h : Stepped s.contexts s.machine (s.lines + 1) step reply machine s.seen now) where
    at_line : Stepped s.contexts s.machine (1 + length steps) step reply machine s.seen now
    at_line = rw (line_is s.lines steps (d.going over).count) at h

    ran_all : Reaches (run s.contexts [] first_state 1 (steps ++ step ∷ [])) (Give (replies ++ reply ∷ [], machine)) start now
    ran_all = reaches_then ((d.going over).ran.reached [] (step ∷ [])) (one_ran at_line replies)

    has_run : start.log ≡ Some [] → IfSome now.log (λ log. HasRun s.contexts (steps ++ step ∷ []) log (replies ++ reply ∷ []))
    has_run = all_ran s.contexts (steps ++ step ∷ []) (replies ++ reply ∷ []) ran_all (one_longer replies steps reply step (d.going over).answered)

    pub did_step : Did (record { contexts = s.contexts; machine = machine; lines = s.lines + 1; over = is_trap reply; seen = now }) (steps ++ step ∷ []) (replies ++ reply ∷ []) start
    did_step = record {
      licensed = λ empty. licensed_by s.contexts (steps ++ step ∷ []) (replies ++ reply ∷ []) now.log (has_run empty);
      ran = has_run;
      going = λ goes. record {
        count = next_line s.lines steps step (d.going over).count;
        answered = one_longer replies steps reply step (d.going over).answered;
        ran = stretch_then (d.going over).ran (stretch_one at_line goes);
      };
      sides = λ held. h.sides (d.sides held);
      closings = h.asked.passed.closings ∙ d.closings;
      plan = h.asked.passed.plan ∙ d.plan;
    }

  -- memory ran out within it
  module _ (machine : Machine) (now : Seen) (h : Started (machine_asks s.contexts s.machine (s.lines + 1) step) s.seen now) (sides : KnowsSides s.seen s.machine.store → KnowsSides now machine.store) where
    met : Started (machine_asks s.contexts s.machine (1 + length steps) step) s.seen now
    met = rw (line_is s.lines steps (d.going over).count) at h

    cut_run : start.log ≡ Some [] → IfSome now.log (λ log. HasRun s.contexts (steps ++ step ∷ []) log replies)
    cut_run empty =
        let front = whole (d.going over).ran in
        let begun = reaches_then ((d.going over).ran.reached [] (step ∷ [])) (reaches_in (next_run s.contexts replies (1 + length steps) []) met.reached) in
        let before : s.seen.log ≡ Some front.entries = logged [] front empty in
        let after : now.log ≡ Some (front.entries ++ met.reached.entries) = logged front.entries met.reached before in
        let all : now.log ≡ Some begun.entries = logged [] begun empty in
        let cut : begun.entries ≡ front.entries ++ met.reached.entries = cc in
        rw all (record {
          rest = _;
          begun = begun.left;
          done = steps;
          more = step ∷ [];
          first = refl;
          answered = (d.going over).answered;
          front = front.entries;
          back = met.reached.entries;
          cut = cut;
          state = s.machine;
          ran = front.left;
        })

    pub did_part : (lines : ℕ) → Did (record { contexts = s.contexts; machine = machine; lines = lines; over = true; seen = now }) (steps ++ step ∷ []) replies start
    did_part lines = record {
      licensed = λ empty. licensed_by s.contexts (steps ++ step ∷ []) replies now.log (cut_run empty);
      ran = cut_run;
      going = λ goes. (let goes = goes in cc);
      sides = λ held. sides (d.sides held);
      closings = h.reached.passed.closings ∙ d.closings;
      plan = h.reached.passed.plan ∙ d.plan;
    }

-- == whether a step can be done
goes : (over numbered : Bool) (rest : Result (Unit {0}) StepError) (done : Unit {0}) → (if over then Err Over else if numbered then Err TooMany else rest) ≡ Ok done → (over ≡ false) × (numbered ≡ false)
goes true numbered rest done h = absurd (cc)
goes false true rest done h = absurd (cc)
goes false false rest done h = (refl, refl)

module _ (over : Bool) (lines : ℕ) (rest : Result (Unit {0}) StepError) (done : Unit {0}) (may : (if over then Err Over else if lines == 4294967295 then Err TooMany else rest) ≡ Ok done) where
  pub isnt_over : over ≡ false
  isnt_over = (goes over (lines == 4294967295) rest done may).0

-- the exit out of memory
pub at_memory : {s : State} (step : Step) (steps : List Step) {replies : List Reply} {start : Seen} (r : Result Reply StepError) → IsErrAnd r (λ e. e ≡ Memory) → Did s (steps ++ step ∷ []) replies start → DidNext r step steps replies start s
at_memory step steps (Ok reply) h d = absurd h
at_memory step steps (Err e) h d = rw h d

-- a step is never refused for lack of memory
abbrev placed_so : Bool → ℕ → Result (Unit {0}) StepError
placed_so out n = if out then Err (NoContext n) else Ok tt

placed : (out : Bool) (n : ℕ) → placed_so out n ≡ Err Memory → ⊥
placed true n e = absurd (cc)
placed false n e = absurd (cc)

in_place : (contexts : List WasiSocketsCtx) (context : Option ℕ) → in_contexts contexts context ≡ Err Memory → ⊥
in_place contexts None e = absurd (cc)
in_place contexts (Some context) e = placed (nat_le (length contexts) context) context e

in_turn : (over full : Bool) (rest : Result (Unit {0}) StepError) → (rest ≡ Err Memory → ⊥) → (if over then Err Over else if full then Err TooMany else rest) ≡ Err Memory → ⊥
in_turn true full rest h e = absurd (cc)
in_turn false true rest h e = absurd (cc)
in_turn false false rest h e = h e

not_memory : (s : State) (step : Step) → may_step s step ≡ Err Memory → ⊥
not_memory s step e = in_turn s.over (s.lines == 4294967295) (in_contexts s.contexts (context_of step)) (in_place s.contexts (context_of step)) e

-- the exit of a step that is refused
pub at_refusal : {s : State} (step : Step) (steps : List Step) {replies : List Reply} {start : Seen} (r : Result Reply StepError) (e : StepError) → may_step s step ≡ Err e → IsErrAnd r (λ x. x ≡ e) → Did s steps replies start → DidNext r step steps replies start s
at_refusal step steps (Ok reply) e may h d = absurd h
at_refusal step steps (Err Over) e may h d = d
at_refusal step steps (Err TooMany) e may h d = d
at_refusal step steps (Err (NoContext n)) e may h d = d
at_refusal {s} step steps (Err Memory) e may h d = absurd (not_memory s step (rw (← h) at may))

-- why a step has no reply: the session's state, or memory
pub why_refused : (s : State) (step : Step) (r : Result Reply StepError) (e : StepError) → may_step s step ≡ Err e → IsErrAnd r (λ x. x ≡ e) → HasWhy s step r
why_refused s step (Ok reply) e may h = absurd h
why_refused s step (Err x) e may h = rw h (inl may)

pub why_memory : (s : State) (step : Step) (r : Result Reply StepError) → may_step s step ≡ Ok tt → IsErrAnd r (λ e. e ≡ Memory) → HasWhy s step r
why_memory s step (Ok reply) may h = absurd h
why_memory s step (Err e) may h = inr (h, may)

-- == at the end
-- the records hold what was made and not closed
known : {s : State} {steps : List Step} {replies : List Reply} {start : Seen} → Did s steps replies start → IsFresh start → KnowsSides s.seen s.machine.store
known {start = start} d fresh = d.sides (record { count = empty_known start.log no_socket fresh.log refl })

-- all network sockets are closed
pub did_close : {s : State} {steps : List Step} {replies : List Reply} {start now : Seen} → Did s steps replies start → (KnowsSides s.seen s.machine.store → ClosesAll s.seen now) → IsFresh start → HasClosedAll now
did_close d closes fresh = record { count = (closes (known d fresh)).count (d.closings ∙ fresh.closings) }

-- each by its name
pub did_close_each : {s : State} {steps : List Step} {replies : List Reply} {start now : Seen} {closed : Option (List OpId)} → Did s steps replies start → (KnowsSides s.seen s.machine.store → HasClosedEach now closed) → IsFresh start → HasClosedEach now closed
did_close_each d closes fresh = closes (known d fresh)
