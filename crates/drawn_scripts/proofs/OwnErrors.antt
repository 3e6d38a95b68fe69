-- A valid script from a source without faults, into a sink that refuses nothing at first, ends with no other error than
-- out of memory and a write that failed.
use Rattle.wasi_run.proofs.Words.{◌⊎◌, ◌≡◌, ℕ, List, length, Result, Ok, Err, inl, inr, refl, sym, arith, WasiSocketsCtx, Seen, Rose, Reading, Writing, SameCounts, CountRose, Counted}
use Rattle.wasi_run.specs.declared.error.RunError.{RunError}
use Rattle.wasi_run.specs.declared.error.RunError.TheVariants.{Memory, WriteFault}
use Rattle.wasi_run.specs.declared.lines.LinesEnd.{LinesEnd}
use Rattle.wasi_run.specs.declared.lines.LinesEnd.TheVariants as lines
use Rattle.wasi_run.specs.Script.{Answers, RanScript, IsValid, IsOkOrMemory, Completes}
use Rattle.drawn_scripts.specs.Counted.{unread, unwritten, IsOwn}

none_rose : (n : ℕ) → n ≡ 0 → Rose 0 n → ⊥
none_rose n e h = omega (arith, e, h)

not_counted : (k : Writing) → SameCounts unwritten k → CountRose unwritten k → ⊥
not_counted k same rose = by_rose rose.rose
  where
    by_rose : (Rose 0 k.faults ⊎ Rose 0 k.refused) → ⊥
    by_rose (inl h) = none_rose k.faults same.faults h
    by_rose (inr h) = none_rose k.refused same.refused h

counts_same : (limit : ℕ) (text : List ℕ) (before after : Reading) (k_old k_new : Writing) (e : RunError) (outcome : Result LinesEnd RunError) → (e ≡ WriteFault → ⊥) → Answers limit text before after outcome (Err e) → Counted outcome k_old k_new → SameCounts k_old k_new
counts_same limit text before after k_old k_new e (Ok lines.Trapped) other a h = absurd a
counts_same limit text before after k_old k_new e (Err WriteFault) other a h = absurd (other (sym a))
counts_same limit text before after k_old k_new e _ other a h = h

module _ (contexts : List WasiSocketsCtx) (script : List ℕ) (after : Reading) (k_new : Writing) (w_old w_new : Seen) (valid : IsValid (length contexts) (length script) script) (quiet : after.faults ≡ 0) where
  no_other : (e : RunError) → (e ≡ WriteFault → ⊥) → RanScript contexts (length script) (unread script) after unwritten k_new w_old w_new (Err e) → Completes (length contexts) (length script) (unread script) after unwritten k_new (Err e) → IsOkOrMemory (Err e)
  no_other e other ran complete =
      complete script refl valid (none_rose after.faults quiet) (not_counted k_new (counts_same (length script) ran.over.text (unread script) after unwritten k_new e ran.over.outcome other ran.over.answer ran.over.ran.counted))

  own_error : (e : RunError) → RanScript contexts (length script) (unread script) after unwritten k_new w_old w_new (Err e) → Completes (length contexts) (length script) (unread script) after unwritten k_new (Err e) → IsOwn e
  own_error Memory ran complete = tt
  own_error WriteFault ran complete = tt
  own_error e ran complete = no_other e (λ same. cc) ran complete

pub own_errors : (contexts : List WasiSocketsCtx) (limit : ℕ) (script : List ℕ) (before after : Reading) (k_old k_new : Writing) (w_old w_new : Seen) (e : RunError) → length contexts ≡ 1 → IsValid 1 (length script) script → limit ≡ length script → before ≡ unread script → k_old ≡ unwritten → after.faults ≡ 0 → RanScript contexts limit before after k_old k_new w_old w_new (Err e) → Completes (length contexts) limit before after k_old k_new (Err e) → IsOwn e
own_errors contexts limit script before after k_old k_new w_old w_new e one valid is_limit is_before is_old quiet ran complete =
    own_error contexts script after k_new w_old w_new (rw one valid) quiet e (rw (is_limit, is_before, is_old) at ran) (rw (is_limit, is_before, is_old) at complete)
