-- What a replay of a log that was cut ends with, by what its run asked.
use Rattle.std.specs.Prelude.{IfOk, IfErr}
use Rattle.std.proofs.Common.{◌≡◌, ℕ, ◌+◌, inl, inr, Bool, true, List, [], ◌∷◌, ◌++◌, append-nil, length, Option, Some, None, option_map, unwrap_or, Result, Ok, Err, ap, sym, subst, ◌∙◌, refl, arith}
use Rattle.std.proofs.lemmas.List.{take_all}
use Rattle.wasi_world.specs.declared.call.Entry.{Entry}
use Rattle.wasi_world.specs.declared.outcome.WasiSocketsCtx.{WasiSocketsCtx}
use Rattle.wasi_world.specs.Seen.{Seen}
use Rattle.world_io.specs.Io.{Reading, Writing}
use Rattle.world_io.specs.Written.{TookAll, TookPart}
use Rattle.host_store.specs.declared.machine.Machine.{Machine}
use Rattle.wasi_steps.specs.declared.step.Step.{Step}
use Rattle.wasi_steps.specs.declared.reply.Reply.{Reply}
use Rattle.wasi_run.specs.declared.run.RunEnd.{RunEnd}
use Rattle.wasi_run.specs.declared.run.RunEnd.TheVariants.{AllRead, Trapped}
use Rattle.wasi_run.specs.declared.error.RunError.{RunError}
use Rattle.wasi_run.specs.declared.error.RunError.TheVariants as error
use Rattle.wasi_run.specs.Causes.{ReadsAll, StopsAtTrap, StopsAtReadFault, StopsForMemory}
use Rattle.wasi_run.specs.Ran.{texts, Met}
use Rattle.wasi_replay.specs.Replayed.{StandsTo}
use Rattle.wasi_recorder.specs.declared.front.FrontEnd.{FrontEnd}
use Rattle.wasi_recorder.specs.declared.front.FrontEnd.TheVariants.{LogEnds, Of}
use Rattle.wasi_recorder.specs.Outcome.{first_difference}
use Rattle.wasi_recorder.specs.Front.{Begins, UpToEnd, FrontReplayed, FrontStops, WritesReplies, FinishesAsWhole, FinishesFront}
use Rattle.wasi_recorder.proofs.Outcomes.{done_by, stopped_by}

some_is : {A : Type 0} (a b : A) → Some a ≡ Some b → a ≡ b
some_is a b h = ap (λ o. unwrap_or o a) h

nothing_more : (log : Option (List Entry)) → log ≡ option_map (λ l. l ++ []) log
nothing_more None = refl
nothing_more (Some l) = ap Some (sym (append-nil l))

-- what the line met asked
met_asks : (contexts : List WasiSocketsCtx) (state : Machine) (line : ℕ) (met : List Step) (old now : Seen) → Met contexts state line met old now → (entries : List Entry) × (now.log ≡ option_map (λ l. l ++ entries) old.log) × Begins contexts state line met entries
met_asks contexts state line [] old now h = ([], ap (λ s. s.log) h ∙ nothing_more old.log, refl)
met_asks contexts state line (s ∷ []) old now h = (h.reached.entries, h.reached.passed.log, (h.rest, h.reached.left))
met_asks contexts state line (s ∷ t ∷ steps) old now h = absurd h

-- the log is the recorded one, where it is as long and differs nowhere
same_log : (recorded log : List Entry) (differs : Option ℕ) → StandsTo recorded log differs → differs ≡ None → length log ≡ length recorded → log ≡ recorded
same_log recorded log differs stands none long =
    let is = (subst (StandsTo recorded log) none stands).1 in
    is ∙ take_all (length log) recorded (omega (arith, long))

module _ (contexts : List WasiSocketsCtx) (limit : ℕ) (before after : Reading) (recorded log : List Entry) (differs : Option ℕ)
    (k_old k_new sink_old sink_new : Writing) (w_old w_new : Seen) (replies : List ℕ) (outcome : Result RunEnd RunError)
    (made count : ℕ) (at_end : Bool) (place : Option ℕ) (made_is : made ≡ length log) (count_is : count ≡ length recorded) (place_is : place ≡ first_difference differs made count)
    (all : at_end ≡ true → (differs ≡ None) × (made ≡ count))
    (stands : StandsTo recorded log differs) (empty : w_old.log ≡ Some []) (logged : w_new.log ≡ Some log)
    (none_yet : sink_old.written ≡ Some []) (held : sink_new.written ≡ Some replies)
    (all_read : outcome ≡ Ok AllRead → ReadsAll contexts limit before after sink_old sink_new w_old w_new)
    (trapped : outcome ≡ Ok Trapped → StopsAtTrap 4095 contexts limit before after sink_old sink_new w_old w_new)
    (read_fault : outcome ≡ Err error.ReadFault → StopsAtReadFault contexts limit before after sink_old sink_new w_old w_new)
    (memory : outcome ≡ Err error.Memory → StopsForMemory contexts limit before after sink_old sink_new w_old w_new) where
  up_to_end : at_end ≡ true → outcome ≡ Err error.Memory → (P : List Reply → Type 0) → ((answers : List Reply) → replies ≡ texts answers → P answers) → UpToEnd contexts recorded limit before after P
  up_to_end ended stops P shown =
      let at = memory stops in
      let others = met_asks contexts at.state (1 + length at.steps) at.met at.seen at.stopped at.first_asks in
      let whole : log ≡ recorded = same_log recorded log differs stands (all ended).0 (sym made_is ∙ ((all ended).1 ∙ count_is)) in
      let own : log ≡ at.ran.entries ++ others.0 = some_is log (at.ran.entries ++ others.0) (sym logged ∙ (at.quiet.log ∙ (others.1 ∙ ap (option_map (λ l. l ++ others.0)) (at.ran.passed.log ∙ ap (option_map (λ l. l ++ at.ran.entries)) empty)))) in
      record {
        text = at.text;
        gave = at.gave;
        steps = at.steps;
        met = at.met;
        first_lines = at.first_lines;
        replies = at.replies;
        answered = at.answered;
        state = at.state;
        asked = at.ran.entries;
        others = others.0;
        are_all = sym whole ∙ own;
        left = at.ran.left;
        begins = others.2;
        no_trap = at.no_trap;
        holds = shown at.replies (some_is replies (texts at.replies) (sym held ∙ (at.took.written ∙ ap (option_map (λ w. w ++ texts at.replies)) none_yet)));
      }

  by_whole : (r : Result FrontEnd RunError) → FinishesAsWhole outcome place replies k_old k_new r → IfOk r (λ end. FrontReplayed contexts recorded limit before after k_old k_new end)
  by_whole (Err e) h = tt
  by_whole (Ok LogEnds) h = absurd h
  by_whole (Ok (Of e)) h =
      done_by contexts limit before after recorded log differs k_old k_new sink_old sink_new w_old w_new replies outcome made count place made_is count_is place_is stands empty logged none_yet held all_read trapped read_fault (Ok e) h

  by_replies : (r : Result FrontEnd RunError) → at_end ≡ true → outcome ≡ Err error.Memory → WritesReplies replies k_old k_new r → IfOk r (λ end. FrontReplayed contexts recorded limit before after k_old k_new end)
  by_replies (Err e) ended stops h = tt
  by_replies (Ok LogEnds) ended stops h = up_to_end ended stops (λ answers. TookAll k_old (texts answers) k_new) (λ answers is. subst (λ w. TookAll k_old w k_new) is h)
  by_replies (Ok (Of e)) ended stops h = absurd h

  pub done_front : (r : Result FrontEnd RunError) → FinishesFront outcome at_end place replies k_old k_new r → IfOk r (λ end. FrontReplayed contexts recorded limit before after k_old k_new end)
  done_front r (inl h) = by_replies r h.0 h.1 h.2
  done_front r (inr h) = by_whole r h

  fault_whole : (e : RunError) → FinishesAsWhole outcome place replies k_old k_new (Err e) → FrontStops contexts recorded limit before after k_old k_new e
  fault_whole error.WriteFault h =
      inl (stopped_by contexts limit before after recorded log differs k_old k_new sink_old sink_new w_old w_new replies outcome made count place made_is count_is place_is stands empty logged none_yet held all_read trapped read_fault (Err error.WriteFault) h)
  fault_whole error.ReadFault h =
      stopped_by contexts limit before after recorded log differs k_old k_new sink_old sink_new w_old w_new replies outcome made count place made_is count_is place_is stands empty logged none_yet held all_read trapped read_fault (Err error.ReadFault) h
  fault_whole error.Memory h = h
  fault_whole (error.BadStep line) h = h.1
  fault_whole error.TooLong h = h.1

  fault_replies : (e : RunError) → at_end ≡ true → outcome ≡ Err error.Memory → WritesReplies replies k_old k_new (Err e) → FrontStops contexts recorded limit before after k_old k_new e
  fault_replies error.WriteFault ended stops h = inr (up_to_end ended stops (λ answers. TookPart k_old (texts answers) k_new) (λ answers is. subst (λ w. TookPart k_old w k_new) is h))
  fault_replies error.ReadFault ended stops h = absurd h
  fault_replies error.Memory ended stops h = absurd h
  fault_replies (error.BadStep line) ended stops h = absurd h
  fault_replies error.TooLong ended stops h = absurd h

  pub stopped_front : (r : Result FrontEnd RunError) → FinishesFront outcome at_end place replies k_old k_new r → IfErr r (λ e. FrontStops contexts recorded limit before after k_old k_new e)
  stopped_front (Ok end) h = tt
  stopped_front (Err e) (inl h) = fault_replies e h.0 h.1 h.2
  stopped_front (Err e) (inr h) = fault_whole e h
