-- A valid script is done.
use Rattle.wasi_run.proofs.Words.{◌≡◌, ◌∙◌, sym, refl, ℕ, ◌≤◌, List, [], ◌∷◌, ◌++◌, length, take, Option, Some, None, Result, Ok, Err, length-append, append-nil, subst, arith, option_map, IfSome, take_all, WasiSocketsCtx, Seen, Rose, Reading, Writing, HasEnded, CountRose, Machine, Step, LinesEnd, RunError, Memory, BadStep, TooLong, ReadFault, WriteFault, first_state, lines_of, lines_from, rest_of, BadAfter, AllSteps, LinesRan, lines-append}
use Rattle.wasi_run.specs.declared.lines.LinesEnd.TheVariants as lines
use Rattle.wasi_run.specs.declared.run.RunEnd.{RunEnd}
use Rattle.wasi_run.specs.Script.{Answers, RanScript, IsValid, IsOkOrMemory, Completes}

pub front_of : (text : List ℕ) (left : Option (List ℕ)) (script : List ℕ) → Some script ≡ option_map (λ l. text ++ l) left → (more : List ℕ) × (left ≡ Some more) × (script ≡ text ++ more)
front_of text None script h = absurd (cc)
front_of text (Some more) script h = (more, refl, cc)

steps_front : (n : ℕ) (ls more : List (List ℕ)) → AllSteps n (ls ++ more) → AllSteps n ls
steps_front n [] more h = tt
steps_front n (l ∷ ls) more h = (h.0, steps_front n ls more h.1)

pub not_bad : (n : ℕ) (ls : List (List ℕ)) (xs : List Step) → AllSteps n ls → BadAfter n ls xs → ⊥
not_bad n [] xs h b = b
not_bad n (l ∷ ls) [] h b = cc (h.0.1, b)
not_bad n (l ∷ ls) (x ∷ xs) h b = not_bad n ls xs h.1 b

-- the lines that were read of a valid script are steps
pub steps_read : (n limit : ℕ) (text more : List ℕ) → IsValid n limit (text ++ more) → AllSteps n (lines_of (take limit text))
steps_read n limit text more v =
    let f : length text ≤ limit = omega (arith, v.within, length-append text more) in
    rw (take_all limit text f) (steps_front n (lines_of text) (lines_from (rest_of text) more) (rw (lines-append [] text more) at v.steps))

module _ (n limit : ℕ) (text more : List ℕ) (before after : Reading) (v : IsValid n limit (text ++ more)) (l : after.left ≡ Some more) where
  ended_whole : HasEnded after → more ≡ []
  ended_whole h = let P : Option (List ℕ) → Type 0 = λ o. IfSome o (λ left. left ≡ []) in subst P l h.nothing

  pub rest_empty : HasEnded after → rest_of text ≡ []
  rest_empty h = rw (ended_whole h, append-nil) at v.ended

  answered : (result : Result RunEnd RunError) → ¬ Rose before.faults after.faults → Answers limit text before after (Ok lines.AllDone) result → IsOkOrMemory result
  answered (Ok a) c h = tt
  answered (Err Memory) c h = tt
  answered (Err (BadStep k)) c h = h.2 (rest_empty h.0)
  answered (Err TooLong) c h = absurd (omega (arith, h, v.within, length-append text more))
  answered (Err ReadFault) c h = c h
  answered (Err WriteFault) c h = h

after_trap : (limit : ℕ) (text : List ℕ) (before after : Reading) (result : Result RunEnd RunError) → Answers limit text before after (Ok lines.Trapped) result → IsOkOrMemory result
after_trap limit text before after (Ok a) h = tt
after_trap limit text before after (Err e) h = absurd h

same_error : (limit : ℕ) (text : List ℕ) (before after : Reading) (e : RunError) (result : Result RunEnd RunError) → Answers limit text before after (Err e) result → IsOkOrMemory (Err e) → IsOkOrMemory result
same_error limit text before after e (Ok a) h k = tt
same_error limit text before after e (Err f) h k = let P : RunError → Type 0 = λ x. IsOkOrMemory (Err x) in subst P h k

module _ {contexts : List WasiSocketsCtx} {w_old w_new : Seen} {k_old k_new : Writing} {last : Machine} where
  errors : {all : List (List ℕ)} (e : RunError) → LinesRan contexts w_old w_new k_old k_new first_state 1 all (Err e) last → AllSteps (length contexts) all → ¬ CountRose k_old k_new → IsOkOrMemory (Err e)
  errors Memory r s c = tt
  errors {all} (BadStep k) r s c = not_bad (length contexts) all r.steps s r.cause.1
  errors TooLong r s c = r.cause
  errors ReadFault r s c = r.cause
  errors WriteFault r s c = c r.counted

  by_outcome : (limit : ℕ) (before after : Reading) (text more : List ℕ) (result : Result RunEnd RunError) (outcome : Result LinesEnd RunError) → LinesRan contexts w_old w_new k_old k_new first_state 1 (lines_of (take limit text)) outcome last → Answers limit text before after outcome result → IsValid (length contexts) limit (text ++ more) → after.left ≡ Some more → ¬ Rose before.faults after.faults → ¬ CountRose k_old k_new → IsOkOrMemory result
  by_outcome limit before after text more result (Ok lines.AllDone) r a v l c d = answered (length contexts) limit text more before after v l result c a
  by_outcome limit before after text more result (Ok lines.Trapped) r a v l c d = after_trap limit text before after result a
  by_outcome limit before after text more result (Err e) r a v l c d = same_error limit text before after e result a (errors e r (steps_read (length contexts) limit text more v) d)

pub completes : {contexts : List WasiSocketsCtx} {limit : ℕ} {before after : Reading} {k_old k_new : Writing} {w_old w_new : Seen} {result : Result RunEnd RunError} → RanScript contexts limit before after k_old k_new w_old w_new result → Completes (length contexts) limit before after k_old k_new result
completes {limit = limit} {before} {after} {result = result} h = λ script e v c d.
    let f = front_of h.over.text after.left script (sym e ∙ h.over.gave.left) in
    by_outcome limit before after h.over.text f.0 result h.over.outcome h.over.ran h.over.answer (rw f.2 at v) f.1 c d
