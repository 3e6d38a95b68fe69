-- What an event makes of a write core stands for what it makes of the record.
use Rattle.std.proofs.Common.{◌≡◌, ℕ, ◌+◌, ◌≤◌, Bool, true, false, cond, List, [], ◌∷◌, ◌++◌, length, drop, sum, Option, Some, None, Result, Ok, Err, refl, sym, ap, ◌∙◌, subst, append_assoc, arith}
use Rattle.std.specs.Prelude.{◌==◌, nat_lt, is_some, unwrap_or}
use Rattle.std.specs.Option.{option_to_list}
use Rattle.std.specs.Result.{result_and}
use Rattle.std.proofs.lemmas.List.{drop-append-le, drop-drop, length-append, length-drop}
use Rattle.std.proofs.lemmas.List.Sums.{sum_by-append}
use Rattle.std.proofs.lemmas.Bool.{cond_both, ltb-false}
use Rattle.wasi_streams.specs.declared.error.StreamError.{StreamError}
use Rattle.wasi_pipes.specs.declared.cores.write.WriteFlags.{WriteFlags}
use Rattle.wasi_pipes.specs.declared.cores.write.Work.{Work}
use Rattle.wasi_pipes.specs.declared.cores.write.Work.TheVariants as work
use Rattle.wasi_pipes.specs.WriteRecord.{WriteRecord, WriteEvent, Accept, Flush, Check, Stop, Pop, Wrote, Flushed, Failed, WriteAnswer, Silent, Answered, Allowed, Given, answer, happens, budget, unwritten, admission, accept_answer, check_answer, work_on, next_work, joining, is_write, after_told, flags_after}
use Rattle.wasi_pipes.specs.WriteState.{WriteState, outstanding, with_accepted, after_pop, after_write, StandsFor, Follows}

-- what an event is answered from what is kept
abbrev pub told_by : WriteState → WriteEvent → WriteAnswer
told_by s (Accept len) = Answered (accept_answer s.flags s.budget len)
told_by s Flush = Answered (admission s.flags)
told_by s Check = Allowed (check_answer s.flags s.budget)
told_by s Pop = Given (next_work s.flags s.queued)
told_by s _ = Silent

-- the condition of an event
abbrev pub MayNow : WriteState → WriteEvent → Type 0
MayNow s Pop = s.hand ≡ None
MayNow s Wrote = is_some s.hand ≡ true
MayNow s _ = Unit {0}

-- what an event makes of what is kept
abbrev pub moved : WriteState → WriteEvent → WriteState
moved s (Accept len) = record (with_accepted s (joining (accept_answer s.flags s.budget len) len)) { flags = after_told s.flags }
moved s Pop = after_pop s (next_work s.flags s.queued)
moved s Wrote = after_write s
moved s e = record s { flags = flags_after s.flags e }

sum-append : (xs ys : List ℕ) → sum (xs ++ ys) ≡ sum xs + sum ys
sum-append xs ys = sum_by-append (λ x. x) xs ys

-- what a write adds to the accepted lengths is within the budget
joining_within : (first : Result (Unit {0}) StreamError) (flushing short : Bool) (e f : StreamError) (most len : ℕ) → (short ≡ false → len ≤ most) → sum (joining (result_and first (cond flushing (Err e) (cond short (Err f) (Ok tt)))) len) ≤ most
joining_within (Err _) flushing short e f most len h = omega arith
joining_within (Ok _) true short e f most len h = omega arith
joining_within (Ok _) false true e f most len h = omega arith
joining_within (Ok _) false false e f most len h = cond_both (len == 0) [] (len ∷ []) (λ lens. sum lens ≤ most) (λ empty. omega arith) (λ some. omega (arith, h refl))

joining_fits : (flags : WriteFlags) (most len : ℕ) → sum (joining (accept_answer flags most len) len) ≤ most
joining_fits flags most len = joining_within (admission flags) flags.flushing (nat_lt most len) _ _ most len (ltb-false most len)

-- the budget that is kept is the record's
budget_kept : (s : WriteState) (r : WriteRecord) → StandsFor s r → s.budget ≡ budget r
budget_kept s r h = let e = ap sum h.lengths in omega (arith, h.initial)

-- the record's answer is what is reported
pub alike : (s : WriteState) (r : WriteRecord) (e : WriteEvent) → MayNow s e → StandsFor s r → told_by s e ≡ answer r e
alike s r (Accept len) may h = ap Answered (ap (λ flags. accept_answer flags s.budget len) h.flags ∙ ap (λ most. accept_answer r.flags most len) (budget_kept s r h))
alike s r Flush may h = ap (λ flags. Answered (admission flags)) h.flags
alike s r Check may h = ap Allowed (ap (λ flags. check_answer flags s.budget) h.flags ∙ ap (check_answer r.flags) (budget_kept s r h))
alike s r Pop may h = ap Given (ap (λ flags. next_work flags s.queued) h.flags ∙ ap (next_work r.flags) (ap (λ hand. option_to_list hand ++ s.queued) (sym may) ∙ h.lengths))
alike s r Stop may h = refl
alike s r Wrote may h = refl
alike s r Flushed may h = refl
alike s r (Failed code) may h = refl

-- lengths join those that were accepted
stands_accepted : (s : WriteState) (r : WriteRecord) (lens : List ℕ) → sum lens ≤ s.budget → StandsFor s r → StandsFor (record (with_accepted s lens) { flags = after_told s.flags }) (record r { accepted = r.accepted ++ lens; flags = after_told r.flags })
stands_accepted s r lens fits h = record {
  initial = rw (← append_assoc (option_to_list s.hand) s.queued lens, sum-append (outstanding s) lens) (omega (arith, h.initial));
  counted = omega (arith, length-append r.accepted lens, h.counted);
  lengths = rw (← append_assoc (option_to_list s.hand) s.queued lens, drop-append-le r.written r.accepted lens h.counted, h.lengths);
  hand = h.hand;
  flags = ap after_told h.flags;
}

-- the flags alone change
stands_flagged : (s : WriteState) (r : WriteRecord) (e : WriteEvent) → StandsFor s r → StandsFor (record s { flags = flags_after s.flags e }) (record r { flags = flags_after r.flags e })
stands_flagged s r e h = record { initial = h.initial; counted = h.counted; lengths = h.lengths; hand = h.hand; flags = ap (λ f. flags_after f e) h.flags }

-- the length in hand is wholly written
stands_wrote : (s : WriteState) (r : WriteRecord) (hand : Option ℕ) → is_some hand ≡ true → StandsFor (record s { hand = hand }) r → StandsFor (moved (record s { hand = hand }) Wrote) (happens r Wrote)
stands_wrote s r None some h = absurd (cc)
stands_wrote s r (Some len) some h = record {
  initial =
      let e : s.budget + (sum (len ∷ []) + sum s.queued) ≡ r.initial = rw (sum-append (len ∷ []) s.queued) at h.initial in
      let goal : (s.budget + len) + sum s.queued ≡ r.initial = omega (arith, e) in
      goal;
  counted = omega (arith, ap length h.lengths, length-drop r.written r.accepted);
  lengths = ap (drop 1) h.lengths ∙ drop-drop 1 r.written r.accepted;
  hand = refl;
  flags = h.flags;
}

-- nothing comes in hand
stands_idle : (s : WriteState) (r : WriteRecord) → s.hand ≡ None → StandsFor s r → StandsFor s (record r { in_hand = false })
stands_idle s r none h = record { initial = h.initial; counted = h.counted; lengths = h.lengths; hand = ap is_some none; flags = h.flags }

-- the first queued length, if the stream isn't stopped and there is one, comes in hand
stands_popped : (s : WriteState) (r : WriteRecord) (w : Work) (stopped flushing : Bool) (lens : List ℕ) → w ≡ cond stopped work.Stop (work_on flushing lens) → s.hand ≡ None → s.queued ≡ lens → StandsFor s r → StandsFor (after_pop s w) (record r { in_hand = is_write w })
stands_popped s r w true flushing lens e none q h = rw e (stands_idle s r none h)
stands_popped s r w false true [] e none q h = rw e (stands_idle s r none h)
stands_popped s r w false false [] e none q h = rw e (stands_idle s r none h)
stands_popped s r w false flushing (len ∷ rest) e none q h =
    let first : outstanding s ≡ len ∷ drop 1 s.queued = rw (none, q) in
    rw e (record { initial = rw first at h.initial; counted = h.counted; lengths = sym first ∙ h.lengths; hand = refl; flags = h.flags })

-- each event takes a core that stands for a record to one that stands for the event's effect
pub stands : (s : WriteState) (r : WriteRecord) (e : WriteEvent) → MayNow s e → StandsFor s r → StandsFor (moved s e) (happens r e)
stands s r (Accept len) may h =
    let e : accept_answer s.flags s.budget len ≡ accept_answer r.flags (budget r) len = ap (λ flags. accept_answer flags s.budget len) h.flags ∙ ap (λ most. accept_answer r.flags most len) (budget_kept s r h) in
    subst (λ told. StandsFor (moved s (Accept len)) (record r { accepted = r.accepted ++ joining told len; flags = after_told r.flags })) e
    (stands_accepted s r (joining (accept_answer s.flags s.budget len) len) (joining_fits s.flags s.budget len) h)
stands s r Pop may h =
    let lens : s.queued ≡ unwritten r = ap (λ hand. option_to_list hand ++ s.queued) (sym may) ∙ h.lengths in
    let e : next_work s.flags s.queued ≡ next_work r.flags (unwritten r) = ap (λ flags. next_work flags s.queued) h.flags ∙ ap (next_work r.flags) lens in
    subst (λ w. StandsFor (moved s Pop) (record r { in_hand = is_write w })) e (stands_popped s r _ s.flags.stopped s.flags.flushing s.queued refl may refl h)
stands s r Wrote may h = stands_wrote s r s.hand may h
stands s r Flush may h = stands_flagged s r Flush h
stands s r Check may h = stands_flagged s r Check h
stands s r Stop may h = stands_flagged s r Stop h
stands s r Flushed may h = stands_flagged s r Flushed h
stands s r (Failed code) may h = stands_flagged s r (Failed code) h

pub follows : (s : WriteState) (e : WriteEvent) → MayNow s e → Follows s e (told_by s e) (moved s e)
follows s e may = record { answered = λ r h. alike s r e may h; stands = λ r h. stands s r e may h }

pub follows_wrote : (s : WriteState) (len : ℕ) → s.hand ≡ Some len → Follows s Wrote Silent (record { budget = s.budget + len; queued = s.queued; hand = None; flags = s.flags })
follows_wrote s len e =
    let new : after_write s ≡ record { budget = s.budget + len; queued = s.queued; hand = None; flags = s.flags } = ap (λ hand. record { budget = s.budget + unwrap_or hand 0; queued = s.queued; hand = None; flags = s.flags }) e in
    subst (Follows s Wrote Silent) new (follows s Wrote (ap is_some e))
