-- What a replay ends with, by what its run asked.
use Rattle.std.specs.Prelude.{IfOk, IfErr, if◌then◌else◌}
use Rattle.std.proofs.Common.{◌≡◌, ℕ, ◌<◌, ◌≤◌, nat_lt, Bool, true, false, List, [], ◌++◌, length, Option, Some, None, option_map, unwrap_or, is_some, Result, Ok, Err, arith, ap, sym, subst, ◌∙◌, refl}
use Rattle.std.proofs.lemmas.Bool.{false≢true}
use Rattle.std.proofs.lemmas.Bool.Decides.{nat_tests}
use Rattle.wasi_world.specs.declared.call.Entry.{Entry}
use Rattle.wasi_world.specs.declared.outcome.WasiSocketsCtx.{WasiSocketsCtx}
use Rattle.wasi_world.specs.Seen.{Seen}
use Rattle.wasi_world.specs.Asks.{Asks, Give, Left}
use Rattle.world_io.specs.Io.{Reading, Writing}
use Rattle.world_io.specs.Written.{TookAll, TookPart}
use Rattle.host_store.specs.declared.machine.Machine.{Machine}
use Rattle.host_store.specs.Machine.{first_state}
use Rattle.wasi_machine.specs.Machine.{run}
use Rattle.wasi_steps.specs.declared.step.Step.{Step}
use Rattle.wasi_steps.specs.declared.reply.Reply.{Reply}
use Rattle.wasi_run.specs.declared.run.RunEnd.{RunEnd}
use Rattle.wasi_run.specs.declared.run.RunEnd.TheVariants.{AllRead, Trapped}
use Rattle.wasi_run.specs.declared.error.RunError.{RunError}
use Rattle.wasi_run.specs.declared.error.RunError.TheVariants as error
use Rattle.wasi_run.specs.Causes.{DoneLines, ReadsAll, StopsAtTrap, StopsAtReadFault}
use Rattle.wasi_run.specs.Ran.{texts}
use Rattle.wasi_replay.specs.Replayed.{StandsTo}
use Rattle.wasi_recorder.specs.declared.replaying.ReplayEnd.{ReplayEnd}
use Rattle.wasi_recorder.specs.declared.replaying.ReplayEnd.TheVariants.{Same, Differs}
use Rattle.wasi_recorder.specs.Replays.{DiffersAt}
use Rattle.wasi_recorder.specs.Outcome.{Compares, IsCut, Replayed, Stops, first_difference, Finishes}
use Rattle.wasi_recorder.proofs.Comparing.{run_differs, run_ended, run_same}

some_is : {A : Type 0} (a b : A) → Some a ≡ Some b → a ≡ b
some_is a b h = ap (λ o. unwrap_or o a) h

lt_is : (a b : ℕ) → nat_lt a b ≡ true → a < b
lt_is a b h = grind (arith, nat_tests)

ge_is : (a b : ℕ) → nat_lt a b ≡ false → b ≤ a
ge_is a b h = grind (arith, nat_tests)

-- == by its own log
module _ {A : Type 0} (asks : Asks A) (a : A) (recorded log : List Entry) (walked : Left asks log (Give a)) where
  differs_by : (differs : Option ℕ) → StandsTo recorded log differs → (place : ℕ) → first_difference differs (length log) (length recorded) ≡ Some place → DiffersAt asks recorded place
  differs_by (Some first) stands place is = subst (DiffersAt asks recorded) (some_is first place is) (run_differs asks (Give a) recorded log first walked stands)
  differs_by None stands place is = by_test (nat_lt (length log) (length recorded)) refl is where
    by_test : (b : Bool) → nat_lt (length log) (length recorded) ≡ b → (if b then Some (length log) else None) ≡ Some place → DiffersAt asks recorded place
    by_test true fewer is = subst (DiffersAt asks recorded) (some_is (length log) place is) (run_ended asks a recorded log walked stands.1 (lt_is (length log) (length recorded) fewer))
    by_test false fewer is = absurd (false≢true (ap is_some is))

  same_by : (differs : Option ℕ) → StandsTo recorded log differs → first_difference differs (length log) (length recorded) ≡ None → Left asks recorded (Give a)
  same_by (Some first) stands is = absurd (false≢true (sym (ap is_some is)))
  same_by None stands is = by_test (nat_lt (length log) (length recorded)) refl is where
    by_test : (b : Bool) → nat_lt (length log) (length recorded) ≡ b → (if b then Some (length log) else None) ≡ None → Left asks recorded (Give a)
    by_test true fewer is = absurd (false≢true (sym (ap is_some is)))
    by_test false fewer is = run_same asks a recorded log walked stands.1 (ge_is (length log) (length recorded) fewer)

-- == by what became of its script
module _ (contexts : List WasiSocketsCtx) (limit : ℕ) (before after : Reading) (recorded log : List Entry) (differs : Option ℕ)
    (k_old k_new sink_old sink_new : Writing) (w_old w_new : Seen) (replies : List ℕ) (outcome : Result RunEnd RunError)
    (made count : ℕ) (place : Option ℕ) (made_is : made ≡ length log) (count_is : count ≡ length recorded) (place_is : place ≡ first_difference differs made count)
    (stands : StandsTo recorded log differs) (empty : w_old.log ≡ Some []) (logged : w_new.log ≡ Some log)
    (none_yet : sink_old.written ≡ Some []) (held : sink_new.written ≡ Some replies)
    (all_read : outcome ≡ Ok AllRead → ReadsAll contexts limit before after sink_old sink_new w_old w_new)
    (trapped : outcome ≡ Ok Trapped → StopsAtTrap 4095 contexts limit before after sink_old sink_new w_old w_new)
    (read_fault : outcome ≡ Err error.ReadFault → StopsAtReadFault contexts limit before after sink_old sink_new w_old w_new) where
  place_of : place ≡ first_difference differs (length log) (length recorded)
  place_of = rw (← made_is, ← count_is) place_is

  -- What was done asked just its own log, and its replies are those that are held.
  walked : (done : DoneLines contexts limit before after sink_old sink_new w_old w_new) → Left (run contexts [] first_state 1 done.steps) log (Give (done.replies, done.state))
  walked done =
      let own : log ≡ done.ran.entries = some_is log done.ran.entries (sym logged ∙ (done.quiet.log ∙ (done.ran.passed.log ∙ ap (option_map (λ l. l ++ done.ran.entries)) empty))) in
      let P : List Entry → Type 0 = λ l. Left (run contexts [] first_state 1 done.steps) l (Give (done.replies, done.state)) in
      subst P (sym own) done.ran.left

  replied : (done : DoneLines contexts limit before after sink_old sink_new w_old w_new) → replies ≡ texts done.replies
  replied done = some_is replies (texts done.replies) (sym held ∙ (done.took.written ∙ ap (option_map (λ w. w ++ texts done.replies)) none_yet))

  -- what is to be shown of the lines that were done
  Shown : (List Step → List Reply → Machine → RunEnd → Type 0) → RunEnd → Type 0
  Shown P end = (steps : List Step) (answers : List Reply) (state : Machine) → Left (run contexts [] first_state 1 steps) log (Give (answers, state)) → replies ≡ texts answers → P steps answers state end

  replayed : (P : List Step → List Reply → Machine → RunEnd → Type 0) (end : RunEnd) → outcome ≡ Ok end → Shown P end → Replayed contexts limit before after P
  unfolding Shown
  replayed P AllRead is shown =
      let all = all_read is in
      let done = all.done in
      record {
        text = done.text;
        gave = done.gave;
        steps = done.steps;
        first_lines = done.first_lines;
        replies = done.replies;
        answered = done.answered;
        state = done.state;
        end = AllRead;
        ends = (all.within, all.all, all.whole, all.ended, all.no_trap);
        holds = shown done.steps done.replies done.state (walked done) (replied done);
      }
  replayed P Trapped is shown =
      let at = trapped is in
      let done = at.done in
      record {
        text = done.text;
        gave = done.gave;
        steps = done.steps;
        first_lines = done.first_lines;
        replies = done.replies;
        answered = done.answered;
        state = done.state;
        end = Trapped;
        ends = at.trap;
        holds = shown done.steps done.replies done.state (walked done) (replied done);
      }

  pub done_by : (r : Result ReplayEnd RunError) → Finishes outcome place replies k_old k_new r → IfOk r (λ end. Replayed contexts limit before after (Compares contexts recorded k_old k_new end))
  unfolding Shown
  done_by (Err e) finishes = tt
  done_by (Ok (Same end)) finishes = replayed (Compares contexts recorded k_old k_new (Same end)) end finishes.0
      (λ steps answers state asked is. (refl, same_by (run contexts [] first_state 1 steps) (answers, state) recorded log asked differs stands (sym place_of ∙ finishes.1), subst (λ w. TookAll k_old w k_new) is finishes.2))
  done_by (Ok (Differs at)) finishes = replayed (Compares contexts recorded k_old k_new (Differs at)) finishes.0.0 finishes.0.1
      (λ steps answers state asked is. (differs_by (run contexts [] first_state 1 steps) (answers, state) recorded log asked differs stands at (sym place_of ∙ finishes.1), finishes.2))

  pub stopped_by : (r : Result ReplayEnd RunError) → Finishes outcome place replies k_old k_new r → IfErr r (λ e. Stops contexts recorded limit before after k_old k_new e)
  unfolding Shown
  stopped_by (Ok end) finishes = tt
  stopped_by (Err error.WriteFault) finishes = replayed (IsCut contexts recorded k_old k_new) finishes.0.0 finishes.0.1
      (λ steps answers state asked is. (same_by (run contexts [] first_state 1 steps) (answers, state) recorded log asked differs stands (sym place_of ∙ finishes.1), subst (λ w. TookPart k_old w k_new) is finishes.2))
  stopped_by (Err error.ReadFault) finishes = ((read_fault finishes.0).rose, finishes.1)
  stopped_by (Err error.Memory) finishes = finishes
  stopped_by (Err (error.BadStep line)) finishes = finishes.1
  stopped_by (Err error.TooLong) finishes = finishes.1
