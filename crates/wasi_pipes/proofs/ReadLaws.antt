-- What holds of every list of events on a read stream.
use Rattle.std.proofs.Common.{◌≡◌, ℕ, ◌≤◌, ◌<◌, Bool, true, false, List, [], ◌∷◌, ◌++◌, count_by, Option, Some, None, Result, Ok, Err, refl, sym, ap, ◌∙◌, append-nil, arith}
use Rattle.std.specs.Prelude.{◌||◌, IfSome}
use Rattle.std.specs.Option.{option_to_list}
use Rattle.std.specs.Result.{result_and}
use Rattle.std.proofs.lemmas.Bool.{ne_eqb}
use Rattle.wasi_streams.specs.declared.error.StreamError.{StreamError}
use Rattle.wasi_streams.specs.declared.error.StreamError.TheVariants.{Closed}
use Rattle.wasi_pipes.specs.declared.cores.fault.WorkerFault.{WorkerFault}
use Rattle.wasi_pipes.specs.declared.cores.fault.WorkerFault.TheVariants.{Unmet, Kept, Told}
use Rattle.wasi_pipes.specs.declared.cores.read.ReadFault.{ReadFault}
use Rattle.wasi_pipes.specs.declared.cores.read.ReadFault.TheVariants as fault
use Rattle.wasi_pipes.specs.declared.cores.read.ReadFlags.{ReadFlags}
use Rattle.wasi_pipes.specs.ReadRecord.{ReadRecord, ReadEvent, Offer, End, Fail, Starve, Take, Stop, Taken, fresh, answer, happens, May, Meets, run, trace, untaken, admission_of, admission, take_answer, after_take, offered_by, offered_lengths, taken_by, taken_lengths, tells_fault}
use Rattle.wasi_pipes.specs.ReadState.{ReadState, fresh_state, StandsFor}
use Rattle.wasi_pipes.proofs.Faults.{is_kept, is_told, told_stays as fault_stays, kept_is_told, told_is_not_kept}
use Rattle.wasi_pipes.proofs.Runs.{kept_over, in_order, one_at_most}
use Rattle.wasi_pipes.proofs.ReadStands.{told_by, MayNow, taken_from, moved, stands, alike}

-- Of the order.

-- some core stands for the record, and no length of 0 is in its slot
record IsSound (r : ReadRecord) : Type 0 where
  core : ReadState
  stands : StandsFor core r
  some : IfSome core.slot (λ len. 0 < len)

none_in_slot : (slot : Option ℕ) → option_to_list slot ≡ [] → slot ≡ None
none_in_slot None e = refl
none_in_slot (Some len) e = absurd (cc)

may_now : (s : ReadState) (r : ReadRecord) (e : ReadEvent) → StandsFor s r → May r e → MayNow s e
may_now s r (Offer len) h may = none_in_slot s.slot (h.slot ∙ may.0)
may_now s r End h may = tt
may_now s r (Fail code) h may = tt
may_now s r Starve h may = tt
may_now s r Take h may = tt
may_now s r Stop h may = tt

some_taken : (s : ReadState) (slot : Option ℕ) → s.slot ≡ slot → IfSome (taken_from s slot).slot (λ len. 0 < len)
some_taken s None e = rw e tt
some_taken s (Some len) e = tt

some_after : (s : ReadState) (r : ReadRecord) (e : ReadEvent) → May r e → IfSome s.slot (λ len. 0 < len) → IfSome (moved s e).slot (λ len. 0 < len)
some_after s r (Offer len) may h = may.1
some_after s r End may h = h
some_after s r (Fail code) may h = h
some_after s r Starve may h = h
some_after s r Take may h = some_taken s s.slot refl
some_after s r Stop may h = h

sound_stays : (r : ReadRecord) (e : ReadEvent) → May r e → IsSound r → IsSound (happens r e)
sound_stays r e may h = record { core = moved h.core e; stands = stands h.core r e (may_now h.core r e h.stands may) h.stands; some = some_after h.core r e may h.some }

sound_at_first : IsSound fresh
sound_at_first = record { core = fresh_state; stands = record { counted = omega arith; slot = refl; flags = refl }; some = tt }

-- an answer to an empty slot gives no length
nothing_taken : (first : Result (Unit {0}) StreamError) → taken_by (Taken (result_and first (Ok 0))) ≡ []
nothing_taken (Ok _) = refl
nothing_taken (Err _) = refl

take_moves : (s : ReadState) (slot : Option ℕ) → s.slot ≡ slot → IfSome slot (λ len. 0 < len) → taken_by (Taken (take_answer s.flags (option_to_list slot))) ++ option_to_list (taken_from s slot).slot ≡ option_to_list slot ++ []
take_moves s None e h = rw (nothing_taken (admission s.flags), e)
take_moves s (Some len) e h = rw (ne_eqb len 0 (λ zero. omega arith))

-- what an event takes leaves the slot, and what it offers comes there
slot_moves : (s : ReadState) (e : ReadEvent) → MayNow s e → IfSome s.slot (λ len. 0 < len) → taken_by (told_by s e) ++ option_to_list (moved s e).slot ≡ option_to_list s.slot ++ offered_by e
slot_moves s Take may h = take_moves s s.slot refl h
slot_moves s (Offer len) may h = rw may
slot_moves s End may h = sym (append-nil (option_to_list s.slot))
slot_moves s (Fail code) may h = sym (append-nil (option_to_list s.slot))
slot_moves s Starve may h = sym (append-nil (option_to_list s.slot))
slot_moves s Stop may h = sym (append-nil (option_to_list s.slot))

order_kept : (r : ReadRecord) (e : ReadEvent) → May r e → IsSound r → taken_by (answer r e) ++ untaken (happens r e) ≡ untaken r ++ offered_by e
order_kept r e may h =
    let s = h.core in
    let now = may_now s r e h.stands may in
    rw (← alike s r e h.stands, ← h.stands.slot, ← (stands s r e now h.stands).slot) (slot_moves s e now h.some)

pub taken_in_order : (events : List ReadEvent) → Meets fresh events → taken_lengths (trace fresh events) ++ untaken (run fresh events) ≡ offered_lengths (trace fresh events)
taken_in_order events meets = in_order May happens answer IsSound untaken taken_by (λ e told. offered_by e) sound_stays order_kept fresh events meets sound_at_first

pub all_taken : (events : List ReadEvent) → Meets fresh events → untaken (run fresh events) ≡ [] → taken_lengths (trace fresh events) ≡ offered_lengths (trace fresh events)
all_taken events meets empty = sym (append-nil (taken_lengths (trace fresh events))) ∙ ap (λ lens. taken_lengths (trace fresh events) ++ lens) (sym empty) ∙ taken_in_order events meets

empty_at_error : (flags : ReadFlags) (lens : List ℕ) (e : StreamError) → Taken (take_answer flags lens) ≡ Taken (Err e) → lens ≡ []
empty_at_error flags [] e h = refl
empty_at_error flags (len ∷ rest) e h = absurd (cc)

pub all_taken_at_error : (events : List ReadEvent) (e : StreamError) → Meets fresh events → answer (run fresh events) Take ≡ Taken (Err e) → taken_lengths (trace fresh events) ≡ offered_lengths (trace fresh events)
all_taken_at_error events e meets told = all_taken events meets (empty_at_error (run fresh events).flags (untaken (run fresh events)) e told)

-- Of faults.

-- with an empty slot a kept fault is reported
tells_empty : (kept : WorkerFault ReadFault) (over : Bool) → tells_fault (Taken (result_and (admission_of kept over) (Ok 0))) ≡ is_kept kept
tells_empty (Kept (fault.Failed code)) over = refl
tells_empty (Kept fault.Starved) over = refl
tells_empty (Told cause) over = refl
tells_empty Unmet true = refl
tells_empty Unmet false = refl

told_by_take : (r : ReadRecord) (lens : List ℕ) → tells_fault (Taken (take_answer r.flags lens)) ≡ true → is_told (after_take r lens).flags.fault ≡ true
told_by_take r [] h = kept_is_told r.flags.fault (sym (tells_empty r.flags.fault (r.flags.ended || r.flags.stopped)) ∙ h)
told_by_take r (len ∷ rest) h = absurd (cc)

told_after : (r : ReadRecord) (e : ReadEvent) → tells_fault (answer r e) ≡ true → is_told (happens r e).flags.fault ≡ true
told_after r Take h = told_by_take r (untaken r) h
told_after r (Offer len) h = absurd (cc)
told_after r End h = absurd (cc)
told_after r (Fail code) h = absurd (cc)
told_after r Starve h = absurd (cc)
told_after r Stop h = absurd (cc)

take_keeps : (r : ReadRecord) (lens : List ℕ) → is_told r.flags.fault ≡ true → is_told (after_take r lens).flags.fault ≡ true
take_keeps r [] h = fault_stays r.flags.fault h
take_keeps r (len ∷ rest) h = h

told_stays : (r : ReadRecord) (e : ReadEvent) → May r e → is_told r.flags.fault ≡ true → is_told (happens r e).flags.fault ≡ true
told_stays r Take may h = take_keeps r (untaken r) h
told_stays r (Fail code) may h = let unmet : is_told r.flags.fault ≡ false = ap is_told may in absurd (cc)
told_stays r Starve may h = let unmet : is_told r.flags.fault ≡ false = ap is_told may in absurd (cc)
told_stays r (Offer len) may h = h
told_stays r End may h = h
told_stays r Stop may h = h

closed_at_empty : (flags : ReadFlags) (kept : WorkerFault ReadFault) → flags.fault ≡ kept → is_told kept ≡ true → Taken (take_answer flags []) ≡ Taken (Err Closed)
closed_at_empty flags Unmet e h = absurd (cc)
closed_at_empty flags (Kept cause) e h = absurd (cc)
closed_at_empty flags (Told cause) e h = rw e

pub closed_later : (r : ReadRecord) (e : ReadEvent) (later : List ReadEvent) → tells_fault (answer r e) ≡ true → Meets r (e ∷ later) → untaken (run r (e ∷ later)) ≡ [] → answer (run r (e ∷ later)) Take ≡ Taken (Err Closed)
closed_later r e later h meets empty =
    let now = run r (e ∷ later) in
    ap (λ lens. Taken (take_answer now.flags lens)) empty ∙ closed_at_empty now.flags _ refl (kept_over May happens (λ r. is_told r.flags.fault ≡ true) told_stays (happens r e) later meets.1 (told_after r e h))

silent_take : (flags : ReadFlags) (lens : List ℕ) → is_told flags.fault ≡ true → tells_fault (Taken (take_answer flags lens)) ≡ false
silent_take flags [] h = tells_empty flags.fault (flags.ended || flags.stopped) ∙ told_is_not_kept flags.fault h
silent_take flags (len ∷ rest) h = refl

silent : (r : ReadRecord) (e : ReadEvent) → is_told r.flags.fault ≡ true → tells_fault (answer r e) ≡ false
silent r Take h = silent_take r.flags (untaken r) h
silent r (Offer len) h = refl
silent r End h = refl
silent r (Fail code) h = refl
silent r Starve h = refl
silent r Stop h = refl

pub told_once : (r : ReadRecord) (events : List ReadEvent) → Meets r events → count_by (λ step. tells_fault step.answer) (trace r events) ≤ 1
told_once = one_at_most May happens answer tells_fault (λ r. is_told r.flags.fault) told_after told_stays silent
