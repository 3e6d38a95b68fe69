-- A replay's errors have their causes, and a valid script ends in none of them but out of memory.
use Rattle.std.specs.Prelude.{IfErr}
use Rattle.std.proofs.Common.{◌≡◌, ℕ, ◌⊎◌, inl, inr, Bool, List, length, Option, Some, Result, Ok, Err, arith, ap, sym, subst, ◌∙◌, refl}
use Rattle.wasi_world.specs.declared.outcome.WasiSocketsCtx.{WasiSocketsCtx}
use Rattle.wasi_world.specs.Seen.{Seen, Rose, one_more}
use Rattle.world_io.specs.Io.{Reading, Writing, SameCounts, CountRose}
use Rattle.wasi_run.specs.declared.lines.LinesEnd.{LinesEnd}
use Rattle.wasi_run.specs.declared.lines.LinesEnd.TheVariants as lines
use Rattle.wasi_run.specs.declared.run.RunEnd.{RunEnd}
use Rattle.wasi_run.specs.declared.error.RunError.{RunError}
use Rattle.wasi_run.specs.declared.error.RunError.TheVariants as error
use Rattle.wasi_run.specs.Causes.{StopsAtBadStep, StopsTooLong, StopsAtReadFault}
use Rattle.wasi_run.specs.Ran.{Counted}
use Rattle.wasi_run.specs.Script.{Answers, RanScript, IsValid, IsOkOrMemory, Completes}
use Rattle.wasi_recorder.specs.declared.replaying.ReplayEnd.{ReplayEnd}
use Rattle.wasi_recorder.specs.declared.front.FrontEnd.{FrontEnd}
use Rattle.wasi_recorder.specs.Outcome.{Finishes}
use Rattle.wasi_recorder.specs.Front.{WritesReplies, FinishesAsWhole, FinishesFront}
use Rattle.wasi_recorder.specs.Causes.{Causes, ReplayCompletes}

-- == a sink that counted nothing
no_rise : (a b : ℕ) → a ≡ 0 → b ≡ a → Rose a b → ⊥
no_rise a b zero same rose =
    let one : 0 ≡ one_more 0 = sym (same ∙ zero) ∙ (rose ∙ ap one_more zero) in
    absurd (omega (arith, one))

not_counted : (old new : Writing) → old.faults ≡ 0 → old.refused ≡ 0 → SameCounts old new → CountRose old new → ⊥
not_counted old new faults refused same count = either count.rose where
  either : Rose old.faults new.faults ⊎ Rose old.refused new.refused → ⊥
  either (inl rose) = no_rise old.faults new.faults faults same.faults rose
  either (inr rose) = no_rise old.refused new.refused refused same.refused rose

module _ (limit : ℕ) (text : List ℕ) (before after : Reading) (old new : Writing) where
  same_at_step : (line : ℕ) (ended : Result LinesEnd RunError) → Answers limit text before after ended (Err (error.BadStep line)) → Counted ended old new → SameCounts old new
  same_at_step line (Ok lines.AllDone) answer counted = counted
  same_at_step line (Ok lines.Trapped) answer counted = absurd answer
  same_at_step line (Err e) answer counted = subst (λ x. Counted (Err x) old new) answer counted

  same_past : (ended : Result LinesEnd RunError) → Answers limit text before after ended (Err error.TooLong) → Counted ended old new → SameCounts old new
  same_past (Ok lines.AllDone) answer counted = counted
  same_past (Ok lines.Trapped) answer counted = absurd answer
  same_past (Err e) answer counted = subst (λ x. Counted (Err x) old new) answer counted

module _ (contexts : List WasiSocketsCtx) (limit : ℕ) (before after : Reading) (k_old k_new sink_old sink_new : Writing) (w_old w_new : Seen)
    (replies : List ℕ) (outcome : Result RunEnd RunError) (place : Option ℕ)
    (no_fault : sink_old.faults ≡ 0) (no_refusal : sink_old.refused ≡ 0)
    (ran : RanScript contexts limit before after sink_old sink_new w_old w_new outcome)
    (complete : Completes (length contexts) limit before after sink_old sink_new outcome)
    (bad_step : (line : ℕ) → outcome ≡ Err (error.BadStep line) → StopsAtBadStep contexts limit before after sink_old sink_new w_old w_new line)
    (too_long : outcome ≡ Err error.TooLong → StopsTooLong contexts limit before after sink_old sink_new w_old w_new)
    (read_fault : outcome ≡ Err error.ReadFault → StopsAtReadFault contexts limit before after sink_old sink_new w_old w_new) where
  -- == why
  cause_of : (e : RunError) → Finishes outcome place replies k_old k_new (Err e) → Causes (length contexts) limit before after e
  cause_of error.Memory finishes = tt
  cause_of error.ReadFault finishes = tt
  cause_of error.WriteFault finishes = tt
  cause_of (error.BadStep line) finishes =
      let at = bad_step line finishes.0 in
      record { text = at.done.text; gave = at.done.gave; steps = at.done.steps; first_lines = at.done.first_lines; number = at.number; bad = at.bad }
  cause_of error.TooLong finishes =
      let at = too_long finishes.0 in
      record { text = at.done.text; gave = at.done.gave; past = at.past; steps = at.done.steps; first_lines = at.done.first_lines; all = at.all }

  pub cause_by : (r : Result ReplayEnd RunError) → Finishes outcome place replies k_old k_new r → IfErr r (λ e. Causes (length contexts) limit before after e)
  cause_by (Ok end) finishes = tt
  cause_by (Err e) finishes = cause_of e finishes

  cause_replies : (r : Result FrontEnd RunError) → WritesReplies replies k_old k_new r → IfErr r (λ e. Causes (length contexts) limit before after e)
  cause_replies (Ok end) wrote = tt
  cause_replies (Err error.Memory) wrote = tt
  cause_replies (Err error.ReadFault) wrote = tt
  cause_replies (Err error.WriteFault) wrote = tt
  cause_replies (Err (error.BadStep line)) wrote = absurd wrote
  cause_replies (Err error.TooLong) wrote = absurd wrote

  cause_whole : (r : Result FrontEnd RunError) → FinishesAsWhole outcome place replies k_old k_new r → IfErr r (λ e. Causes (length contexts) limit before after e)
  cause_whole (Ok end) finishes = tt
  cause_whole (Err e) finishes = cause_of e finishes

  pub front_cause : (at_end : Bool) (r : Result FrontEnd RunError) → FinishesFront outcome at_end place replies k_old k_new r → IfErr r (λ e. Causes (length contexts) limit before after e)
  front_cause at_end r (inl finishes) = cause_replies r finishes.2
  front_cause at_end r (inr finishes) = cause_whole r finishes

  -- == a valid script
  fewer_steps : (line : ℕ) → outcome ≡ Err (error.BadStep line) → SameCounts sink_old sink_new
  fewer_steps line is = same_at_step limit ran.over.text before after sink_old sink_new line ran.over.outcome (subst (Answers limit ran.over.text before after ran.over.outcome) is ran.over.answer) ran.over.ran.counted

  past_limit : outcome ≡ Err error.TooLong → SameCounts sink_old sink_new
  past_limit is = same_past limit ran.over.text before after sink_old sink_new ran.over.outcome (subst (Answers limit ran.over.text before after ran.over.outcome) is ran.over.answer) ran.over.ran.counted

  module _ (script : List ℕ) (left : before.left ≡ Some script) (valid : IsValid (length contexts) limit script) (reads : ¬ Rose before.faults after.faults) (writes : ¬ CountRose k_old k_new) where
    completed : SameCounts sink_old sink_new → IsOkOrMemory outcome
    completed same = complete script left valid reads (not_counted sink_old sink_new no_fault no_refusal same)

    only_memory : (e : RunError) → Finishes outcome place replies k_old k_new (Err e) → e ≡ error.Memory
    only_memory error.Memory finishes = refl
    only_memory error.ReadFault finishes = absurd (reads (read_fault finishes.0).rose)
    only_memory error.WriteFault finishes = absurd (writes finishes.2.counts)
    only_memory (error.BadStep line) finishes = absurd (subst IsOkOrMemory finishes.0 (completed (fewer_steps line finishes.0)))
    only_memory error.TooLong finishes = absurd (subst IsOkOrMemory finishes.0 (completed (past_limit finishes.0)))

    written_whole : (e : RunError) → WritesReplies replies k_old k_new (Err e) → e ≡ error.Memory
    written_whole error.Memory wrote = refl
    written_whole error.ReadFault wrote = absurd wrote
    written_whole error.WriteFault wrote = absurd (writes wrote.counts)
    written_whole (error.BadStep line) wrote = absurd wrote
    written_whole error.TooLong wrote = absurd wrote

    front_memory : (at_end : Bool) (e : RunError) → FinishesFront outcome at_end place replies k_old k_new (Err e) → e ≡ error.Memory
    front_memory at_end e (inl finishes) = written_whole e finishes.2
    front_memory at_end e (inr finishes) = only_memory e finishes

  pub complete_by : (r : Result ReplayEnd RunError) → Finishes outcome place replies k_old k_new r → ReplayCompletes (length contexts) limit before after k_old k_new r
  complete_by (Ok end) finishes = λ script left valid reads writes. tt
  complete_by (Err e) finishes = λ script left valid reads writes. only_memory script left valid reads writes e finishes

  pub front_complete : (at_end : Bool) (r : Result FrontEnd RunError) → FinishesFront outcome at_end place replies k_old k_new r → ReplayCompletes (length contexts) limit before after k_old k_new r
  front_complete at_end (Ok end) finishes = λ script left valid reads writes. tt
  front_complete at_end (Err e) finishes = λ script left valid reads writes. front_memory script left valid reads writes at_end e finishes
