-- What holds of every list of events on a write stream.
use Rattle.std.proofs.Common.{◌≡◌, ◌≢◌, ℕ, ◌+◌, ◌-◌, ◌≤◌, Bool, true, false, cond, List, [], ◌∷◌, ◌++◌, ◌&&◌, drop, sum, count_by, Option, Some, None, Result, Ok, Err, refl, sym, ap, ◌∙◌, append-nil, arith}
use Rattle.std.specs.Prelude.{nat_lt, is_some}
use Rattle.std.specs.List.{AllByRecursion}
use Rattle.std.specs.Result.{result_and}
use Rattle.std.proofs.Math.Seq.{drop-length}
use Rattle.std.proofs.lemmas.List.{drop-drop}
use Rattle.wasi_addr.specs.declared.code.ErrorCode.{ErrorCode}
use Rattle.wasi_world.specs.declared.outcome.TrapKind.{TrapKind}
use Rattle.wasi_streams.specs.declared.error.StreamError.{StreamError}
use Rattle.wasi_streams.specs.declared.error.StreamError.TheVariants.{Trap}
use Rattle.wasi_pipes.specs.declared.cores.fault.WorkerFault.{WorkerFault}
use Rattle.wasi_pipes.specs.declared.cores.fault.WorkerFault.TheVariants.{Unmet, Kept, Told}
use Rattle.wasi_pipes.specs.declared.cores.write.WriteFlags.{WriteFlags}
use Rattle.wasi_pipes.specs.declared.cores.write.Work.{Work}
use Rattle.wasi_pipes.specs.declared.cores.write.Work.TheVariants as work
use Rattle.wasi_pipes.specs.Fault.{after_telling}
use Rattle.wasi_pipes.specs.WriteRecord.{WriteRecord, WriteEvent, Accept, Flush, Check, Stop, Pop, Wrote, Flushed, Failed, Answered, Allowed, Given, fresh, answer, happens, May, Meets, run, trace, budget, unwritten, queued, admission_of, admission, work_on, after_flush, accepted_by, accepted_lengths, popped_by, popped_lengths, tells_fault, ends_flush, asks, IsClosed}
use Rattle.wasi_pipes.specs.WriteState.{WriteState, after_pop, fresh_state, StandsFor}
use Rattle.wasi_pipes.proofs.Faults.{is_kept, is_told, told_stays as fault_stays, kept_is_told, told_is_not_kept}
use Rattle.wasi_pipes.proofs.Runs.{kept_over, in_order, one_at_most}
use Rattle.wasi_pipes.proofs.WriteStands.{told_by, MayNow, moved, stands, alike}

-- Of the records that a core stands for.

none_in_hand : (hand : Option ℕ) → is_some hand ≡ false → hand ≡ None
none_in_hand None e = refl
none_in_hand (Some len) e = absurd (cc)

may_now : (s : WriteState) (r : WriteRecord) (e : WriteEvent) → StandsFor s r → May r e → MayNow s e
may_now s r Pop h may = none_in_hand s.hand (h.hand ∙ may)
may_now s r Wrote h may = h.hand ∙ may
may_now s r (Accept len) h may = tt
may_now s r Flush h may = tt
may_now s r Check h may = tt
may_now s r Stop h may = tt
may_now s r Flushed h may = tt
may_now s r (Failed code) h may = tt

-- some core stands for the record
record IsSound (r : WriteRecord) : Type 0 where
  core : WriteState
  stands : StandsFor core r

sound_stays : (r : WriteRecord) (e : WriteEvent) → May r e → IsSound r → IsSound (happens r e)
sound_stays r e may h = record { core = moved h.core e; stands = stands h.core r e (may_now h.core r e h.stands may) h.stands }

sound_at_first : (initial : ℕ) → IsSound (fresh initial)
sound_at_first initial = record { core = fresh_state initial; stands = record { initial = omega arith; counted = omega arith; lengths = refl; hand = refl; flags = refl } }

initial_stays : (r : WriteRecord) (e : WriteEvent) → (happens r e).initial ≡ r.initial
initial_stays r (Accept len) = refl
initial_stays r Pop = refl
initial_stays r Wrote = refl
initial_stays r Flush = refl
initial_stays r Check = refl
initial_stays r Stop = refl
initial_stays r Flushed = refl
initial_stays r (Failed code) = refl

pub initial_kept : (r : WriteRecord) (events : List WriteEvent) → (run r events).initial ≡ r.initial
initial_kept r [] = refl
initial_kept r (e ∷ events) = initial_kept (happens r e) events ∙ initial_stays r e

pub adds_up : (initial : ℕ) (events : List WriteEvent) → Meets (fresh initial) events → budget (run (fresh initial) events) + sum (unwritten (run (fresh initial) events)) ≡ initial
adds_up initial events meets =
    let end = kept_over May happens IsSound sound_stays (fresh initial) events meets (sound_at_first initial) in
    let lengths = ap sum end.stands.lengths in
    omega (arith, end.stands.initial, initial_kept (fresh initial) events)

-- Of the order.

queued_now : (s : WriteState) (r : WriteRecord) (hand : Option ℕ) → s.hand ≡ hand → StandsFor s r → queued r ≡ s.queued
queued_now s r None e h =
    let none : r.in_hand ≡ false = sym h.hand ∙ ap is_some e in
    let lengths : s.queued ≡ unwritten r = rw e at h.lengths in
    rw none (sym lengths)
queued_now s r (Some len) e h =
    let some : r.in_hand ≡ true = sym h.hand ∙ ap is_some e in
    let lengths : len ∷ s.queued ≡ unwritten r = rw e at h.lengths in
    rw some (sym (drop-drop 1 r.written r.accepted) ∙ sym (ap (drop 1) lengths))

pop_moves : (s : WriteState) (w : Work) (stopped flushing : Bool) (lens : List ℕ) → w ≡ cond stopped work.Stop (work_on flushing lens) → s.queued ≡ lens → popped_by (Given w) ++ (after_pop s w).queued ≡ s.queued
pop_moves s w true flushing lens e q = rw e
pop_moves s w false true [] e q = rw e
pop_moves s w false false [] e q = rw e
pop_moves s w false flushing (len ∷ rest) e q = rw (e, q)

-- what an event pops comes from the front, and what it accepts goes to the end
queue_moves : (s : WriteState) (e : WriteEvent) → popped_by (told_by s e) ++ (moved s e).queued ≡ s.queued ++ accepted_by e (told_by s e)
queue_moves s Pop = pop_moves s _ s.flags.stopped s.flags.flushing s.queued refl refl ∙ sym (append-nil s.queued)
queue_moves s (Accept len) = refl
queue_moves s Wrote = sym (append-nil s.queued)
queue_moves s Flush = sym (append-nil s.queued)
queue_moves s Check = sym (append-nil s.queued)
queue_moves s Stop = sym (append-nil s.queued)
queue_moves s Flushed = sym (append-nil s.queued)
queue_moves s (Failed code) = sym (append-nil s.queued)

order_kept : (r : WriteRecord) (e : WriteEvent) → May r e → IsSound r → popped_by (answer r e) ++ queued (happens r e) ≡ queued r ++ accepted_by e (answer r e)
order_kept r e may h =
    let s = h.core in
    let now = may_now s r e h.stands may in
    rw (← alike s r e now h.stands, queued_now s r s.hand refl h.stands, queued_now (moved s e) (happens r e) (moved s e).hand refl (stands s r e now h.stands)) (queue_moves s e)

pub popped_in_order : (initial : ℕ) (events : List WriteEvent) → Meets (fresh initial) events → popped_lengths (trace (fresh initial) events) ++ queued (run (fresh initial) events) ≡ accepted_lengths (trace (fresh initial) events)
popped_in_order initial events meets = in_order May happens answer IsSound queued popped_by accepted_by sound_stays order_kept (fresh initial) events meets (sound_at_first initial)

-- Of flushes.

flush_keeps : (told : Result (Unit {0}) StreamError) (flags : WriteFlags) → flags.flushing ≡ true → (after_flush told flags).flushing ≡ true
flush_keeps (Ok _) flags h = refl
flush_keeps (Err _) flags h = h

flush_begins : (told : Result (Unit {0}) StreamError) (flags : WriteFlags) → told ≡ Ok tt → (after_flush told flags).flushing ≡ true
flush_begins (Ok _) flags h = refl
flush_begins (Err _) flags h = absurd (cc)

flushing_kept : (r : WriteRecord) (events : List WriteEvent) → r.flags.flushing ≡ true → AllByRecursion (λ e. ends_flush e ≡ false) events → (run r events).flags.flushing ≡ true
flushing_kept r [] h quiet = h
flushing_kept r (Flush ∷ events) h quiet = flushing_kept (happens r Flush) events (flush_keeps (admission r.flags) r.flags h) quiet.1
flushing_kept r (Flushed ∷ events) h quiet = let end = quiet.0 in absurd (cc)
flushing_kept r (Failed code ∷ events) h quiet = let end = quiet.0 in absurd (cc)
flushing_kept r (Accept len ∷ events) h quiet = flushing_kept (happens r (Accept len)) events h quiet.1
flushing_kept r (Pop ∷ events) h quiet = flushing_kept (happens r Pop) events h quiet.1
flushing_kept r (Wrote ∷ events) h quiet = flushing_kept (happens r Wrote) events h quiet.1
flushing_kept r (Check ∷ events) h quiet = flushing_kept (happens r Check) events h quiet.1
flushing_kept r (Stop ∷ events) h quiet = flushing_kept (happens r Stop) events h quiet.1

refused_while_flushing : (first rest : Result (Unit {0}) StreamError) (flushing : Bool) (e : StreamError) → flushing ≡ true → Answered (result_and first (cond flushing (Err e) rest)) ≢ Answered (Ok tt)
refused_while_flushing (Err _) rest flushing e h same = cc
refused_while_flushing (Ok _) rest true e h same = cc
refused_while_flushing (Ok _) rest false e h same = cc

pub none_accepted : (r : WriteRecord) (between : List WriteEvent) → answer r Flush ≡ Answered (Ok tt) → AllByRecursion (λ e. ends_flush e ≡ false) between → (len : ℕ) → answer (run r (Flush ∷ between)) (Accept len) ≢ Answered (Ok tt)
none_accepted r between accepted quiet len =
    let begun : (happens r Flush).flags.flushing ≡ true = flush_begins (admission r.flags) r.flags (cc) in
    let now = run r (Flush ∷ between) in
    refused_while_flushing (admission now.flags) _ now.flags.flushing _ (flushing_kept (happens r Flush) between begun quiet)

-- Of faults.

-- a kept fault is what the owner's calls tell
tells_flush : (fault : WorkerFault ErrorCode) (stopped : Bool) → tells_fault (Answered (admission_of fault stopped)) ≡ is_kept fault
tells_flush (Kept code) stopped = refl
tells_flush (Told code) stopped = refl
tells_flush Unmet true = refl
tells_flush Unmet false = refl

tells_accept : (fault : WorkerFault ErrorCode) (stopped flushing short : Bool) (k l : TrapKind) → tells_fault (Answered (result_and (admission_of fault stopped) (cond flushing (Err (Trap k)) (cond short (Err (Trap l)) (Ok tt))))) ≡ is_kept fault
tells_accept (Kept code) stopped flushing short k l = refl
tells_accept (Told code) stopped flushing short k l = refl
tells_accept Unmet true flushing short k l = refl
tells_accept Unmet false true short k l = refl
tells_accept Unmet false false true k l = refl
tells_accept Unmet false false false k l = refl

tells_check : (fault : WorkerFault ErrorCode) (stopped : Bool) (len : ℕ) → tells_fault (Allowed (result_and (admission_of fault stopped) (Ok len))) ≡ is_kept fault
tells_check (Kept code) stopped len = refl
tells_check (Told code) stopped len = refl
tells_check Unmet true len = refl
tells_check Unmet false len = refl

-- whether an event tells the owner of a kept fault
abbrev calls : WriteEvent → Bool
calls (Accept len) = true
calls Flush = true
calls Check = true
calls _ = false

tells : (r : WriteRecord) (e : WriteEvent) → tells_fault (answer r e) ≡ (calls e && is_kept r.flags.fault)
tells r (Accept len) = tells_accept r.flags.fault r.flags.stopped r.flags.flushing (nat_lt (budget r) len) _ _
tells r Flush = tells_flush r.flags.fault r.flags.stopped
tells r Check = tells_check r.flags.fault r.flags.stopped _
tells r Stop = refl
tells r Pop = refl
tells r Wrote = refl
tells r Flushed = refl
tells r (Failed code) = refl

flush_tells : (flags : WriteFlags) (fault : WorkerFault ErrorCode) (stopped : Bool) → flags.fault ≡ fault → (after_flush (admission_of fault stopped) flags).fault ≡ after_telling fault
flush_tells flags (Kept code) stopped e = ap after_telling e
flush_tells flags (Told code) stopped e = ap after_telling e
flush_tells flags Unmet true e = ap after_telling e
flush_tells flags Unmet false e = e

told_after : (r : WriteRecord) (e : WriteEvent) → tells_fault (answer r e) ≡ true → is_told (happens r e).flags.fault ≡ true
told_after r (Accept len) h = kept_is_told r.flags.fault (sym (tells r (Accept len)) ∙ h)
told_after r Flush h = ap is_told (flush_tells r.flags r.flags.fault r.flags.stopped refl) ∙ kept_is_told r.flags.fault (sym (tells r Flush) ∙ h)
told_after r Check h = kept_is_told r.flags.fault (sym (tells r Check) ∙ h)
told_after r Stop h = absurd (cc)
told_after r Pop h = absurd (cc)
told_after r Wrote h = absurd (cc)
told_after r Flushed h = absurd (cc)
told_after r (Failed code) h = absurd (cc)

told_stays : (r : WriteRecord) (e : WriteEvent) → May r e → is_told r.flags.fault ≡ true → is_told (happens r e).flags.fault ≡ true
told_stays r (Accept len) may h = fault_stays r.flags.fault h
told_stays r Flush may h = ap is_told (flush_tells r.flags r.flags.fault r.flags.stopped refl) ∙ fault_stays r.flags.fault h
told_stays r Check may h = fault_stays r.flags.fault h
told_stays r (Failed code) may h = let unmet : is_told r.flags.fault ≡ false = ap is_told may in absurd (cc)
told_stays r Stop may h = h
told_stays r Pop may h = h
told_stays r Wrote may h = h
told_stays r Flushed may h = h

is_closed : (r : WriteRecord) (fault : WorkerFault ErrorCode) → r.flags.fault ≡ fault → is_told fault ≡ true → IsClosed r
is_closed r Unmet e h = absurd (cc)
is_closed r (Kept code) e h = absurd (cc)
is_closed r (Told code) e h = record { accept = λ len. rw e; flush = rw e; check = rw e }

pub closed_later : (r : WriteRecord) (e : WriteEvent) (later : List WriteEvent) → tells_fault (answer r e) ≡ true → Meets r (e ∷ later) → IsClosed (run r (e ∷ later))
closed_later r e later h meets = is_closed (run r (e ∷ later)) _ refl (kept_over May happens (λ r. is_told r.flags.fault ≡ true) told_stays (happens r e) later meets.1 (told_after r e h))

and_false : (b c : Bool) → c ≡ false → (b && c) ≡ false
and_false true c h = h
and_false false c h = refl

silent : (r : WriteRecord) (e : WriteEvent) → is_told r.flags.fault ≡ true → tells_fault (answer r e) ≡ false
silent r e h = tells r e ∙ and_false (calls e) (is_kept r.flags.fault) (told_is_not_kept r.flags.fault h)

pub told_once : (r : WriteRecord) (events : List WriteEvent) → Meets r events → count_by (λ step. tells_fault step.answer) (trace r events) ≤ 1
told_once = one_at_most May happens answer tells_fault (λ r. is_told r.flags.fault) told_after told_stays silent

-- Of the budget after a flush.

drop_one_more : (n : ℕ) (lens : List ℕ) → drop n lens ≡ [] → drop (n + 1) lens ≡ []
drop_one_more n lens h = sym (drop-drop 1 n lens) ∙ ap (drop 1) h

record IsWhole (r : WriteRecord) : Type 0 where
  flushed : r.flags.flushing ≡ false
  written : unwritten r ≡ []

whole_stays : (r : WriteRecord) (e : WriteEvent) → asks e ≡ false → IsWhole r → IsWhole (happens r e)
whole_stays r (Accept len) quiet h = absurd (cc)
whole_stays r Flush quiet h = absurd (cc)
whole_stays r Wrote quiet h = record { flushed = h.flushed; written = drop_one_more r.written r.accepted h.written }
whole_stays r Check quiet h = record { flushed = h.flushed; written = h.written }
whole_stays r Stop quiet h = record { flushed = h.flushed; written = h.written }
whole_stays r Pop quiet h = record { flushed = h.flushed; written = h.written }
whole_stays r Flushed quiet h = record { flushed = refl; written = h.written }
whole_stays r (Failed code) quiet h = record { flushed = refl; written = h.written }

whole_later : (r : WriteRecord) (events : List WriteEvent) → AllByRecursion (λ e. asks e ≡ false) events → IsWhole r → IsWhole (run r events)
whole_later r [] quiet h = h
whole_later r (e ∷ events) quiet h = whole_later (happens r e) events quiet.1 (whole_stays r e quiet.0 h)

whole_answer : (r : WriteRecord) → IsWhole r → r.flags.fault ≡ Unmet → r.flags.stopped ≡ false → answer r Check ≡ Allowed (Ok r.initial)
whole_answer r h unmet going =
    let whole : r.initial - 0 ≡ r.initial = omega arith in
    rw (unmet, going, h.flushed, h.written) (ap (λ n. Allowed (Ok n)) whole)

pub whole_after_flush : (r : WriteRecord) (since : List WriteEvent) → May r Flushed → AllByRecursion (λ e. asks e ≡ false) since → (run r (Flushed ∷ since)).flags.fault ≡ Unmet → (run r (Flushed ∷ since)).flags.stopped ≡ false → answer (run r (Flushed ∷ since)) Check ≡ Allowed (Ok (run r (Flushed ∷ since)).initial)
whole_after_flush r since may quiet unmet going =
    let written : unwritten r ≡ [] = ap (λ n. drop n r.accepted) may.1 ∙ drop-length r.accepted in
    whole_answer (run r (Flushed ∷ since)) (whole_later (happens r Flushed) since quiet (record { flushed = refl; written = written })) unmet going
