-- What an event makes of a read core stands for what it makes of the record.
use Rattle.std.proofs.Common.{◌≡◌, ℕ, true, [], ◌∷◌, length, drop, Option, Some, None, Ok, refl, sym, ap, ◌∙◌, subst, arith}
use Rattle.std.specs.Option.{option_to_list}
use Rattle.std.proofs.lemmas.List.{drop-append-le, drop-drop, length-append, length-drop}
use Rattle.wasi_pipes.specs.declared.cores.fault.WorkerFault.TheVariants.{Kept}
use Rattle.wasi_pipes.specs.declared.cores.read.ReadFault.TheVariants as fault
use Rattle.wasi_pipes.specs.declared.cores.read.ReadFlags.{ReadFlags}
use Rattle.wasi_pipes.specs.ReadRecord.{ReadRecord, ReadEvent, Offer, End, Fail, Starve, Take, Stop, ReadAnswer, Silent, Taken, answer, happens, untaken, take_answer, after_told, after_take}
use Rattle.wasi_pipes.specs.ReadState.{ReadState, StandsFor, Follows}

-- what an event is answered from what is kept
abbrev pub told_by : ReadState → ReadEvent → ReadAnswer
told_by s Take = Taken (take_answer s.flags (option_to_list s.slot))
told_by s _ = Silent

-- the condition of an event
abbrev pub MayNow : ReadState → ReadEvent → Type 0
MayNow s (Offer len) = s.slot ≡ None
MayNow s _ = Unit {0}

-- the owner took what it could of this slot
abbrev pub taken_from : ReadState → Option ℕ → ReadState
taken_from s (Some len) = record s { slot = None }
taken_from s None = record s { flags = after_told s.flags }

-- what an event makes of what is kept
abbrev pub moved : ReadState → ReadEvent → ReadState
moved s (Offer len) = record s { slot = Some len }
moved s End = record s { flags = record s.flags { ended = true } }
moved s (Fail code) = record s { flags = record s.flags { fault = Kept (fault.Failed code) } }
moved s Starve = record s { flags = record s.flags { fault = Kept fault.Starved } }
moved s Take = taken_from s s.slot
moved s Stop = record s { flags = record s.flags { stopped = true } }

-- the record's answer is what is reported
pub alike : (s : ReadState) (r : ReadRecord) (e : ReadEvent) → StandsFor s r → told_by s e ≡ answer r e
alike s r Take h = ap Taken (ap (λ flags. take_answer flags (option_to_list s.slot)) h.flags ∙ ap (take_answer r.flags) h.slot)
alike s r (Offer len) h = refl
alike s r End h = refl
alike s r (Fail code) h = refl
alike s r Starve h = refl
alike s r Stop h = refl

-- the flags alone change
stands_flagged : (s : ReadState) (r : ReadRecord) (change : ReadFlags → ReadFlags) → StandsFor s r → StandsFor (record s { flags = change s.flags }) (record r { flags = change r.flags })
stands_flagged s r change h = record { counted = h.counted; slot = h.slot; flags = ap change h.flags }

stands_offered : (s : ReadState) (r : ReadRecord) (len : ℕ) → s.slot ≡ None → StandsFor s r → StandsFor (moved s (Offer len)) (happens r (Offer len))
stands_offered s r len empty h = record {
  counted = omega (arith, length-append r.offered (len ∷ []), h.counted);
  slot = rw (drop-append-le r.taken r.offered (len ∷ []) h.counted, ← h.slot, empty);
  flags = h.flags;
}

-- the slot is emptied, or the owner is told
stands_taken : (s : ReadState) (r : ReadRecord) (slot : Option ℕ) → s.slot ≡ slot → StandsFor s r → StandsFor (taken_from s slot) (after_take r (option_to_list slot))
stands_taken s r None e h = stands_flagged s r after_told h
stands_taken s r (Some len) e h =
    let full : len ∷ [] ≡ untaken r = ap option_to_list (sym e) ∙ h.slot in
    record { counted = omega (arith, ap length full, length-drop r.taken r.offered); slot = ap (drop 1) full ∙ drop-drop 1 r.taken r.offered; flags = h.flags }

-- each event takes a core that stands for a record to one that stands for the event's effect
pub stands : (s : ReadState) (r : ReadRecord) (e : ReadEvent) → MayNow s e → StandsFor s r → StandsFor (moved s e) (happens r e)
stands s r (Offer len) may h = stands_offered s r len may h
stands s r End may h = stands_flagged s r (λ flags. record flags { ended = true }) h
stands s r (Fail code) may h = stands_flagged s r (λ flags. record flags { fault = Kept (fault.Failed code) }) h
stands s r Starve may h = stands_flagged s r (λ flags. record flags { fault = Kept fault.Starved }) h
stands s r Take may h = subst (λ lens. StandsFor (moved s Take) (after_take r lens)) h.slot (stands_taken s r s.slot refl h)
stands s r Stop may h = stands_flagged s r (λ flags. record flags { stopped = true }) h

pub follows : (s : ReadState) (e : ReadEvent) → MayNow s e → Follows s e (told_by s e) (moved s e)
follows s e may = record { answered = λ r h. alike s r e h; stands = λ r h. stands s r e may h }

-- of a full slot
pub follows_taken : (s : ReadState) (len : ℕ) → s.slot ≡ Some len → Follows s Take (Taken (Ok len)) (record s { slot = None })
follows_taken s len e =
    let told : take_answer s.flags (option_to_list s.slot) ≡ Ok len = ap (λ slot. take_answer s.flags (option_to_list slot)) e in
    let new : moved s Take ≡ record s { slot = None } = ap (taken_from s) e in
    subst (λ answer. Follows s Take (Taken answer) (record s { slot = None })) told (subst (Follows s Take (told_by s Take)) new (follows s Take tt))
