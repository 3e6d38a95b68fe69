-- How a log that is replayed grows, and how it stands to the recorded one.
use Rattle.std.specs.Prelude.{slice_get, IfOk, OnErr, IfSome, is_some}
use Rattle.std.specs.List.{list_all}
use Rattle.std.proofs.Common.{◌≡◌, ℕ, zero, suc, ◌+◌, ◌<◌, ◌≤◌, subst, Bool, true, List, [], ◌∷◌, ◌++◌, length, take, Option, Some, None, unwrap_or, Result, Ok, Err, arith, ap, sym, ◌∙◌, refl, length-append}
use Rattle.std.specs.declared.alloc.AllocError.{AllocError}
use Rattle.std.proofs.lemmas.Bool.{and_parts, false≢true}
use Rattle.std.proofs.lemmas.List.{take_all, take-append-le, take_more, length-take-le}
use Rattle.std.proofs.lemmas.Option.{slice_get_within, get_or_from_slice_get}
use Rattle.wasi_world.specs.declared.ids.OpId.{OpId}
use Rattle.wasi_world.specs.declared.call.Call.{Call}
use Rattle.wasi_world.specs.declared.call.Call.TheVariants.{Write}
use Rattle.wasi_world.specs.declared.call.Told.{Told}
use Rattle.wasi_world.specs.declared.call.Entry.{Entry}
use Rattle.wasi_world.specs.Seen.{Seen, Passes, Counts}
use Rattle.wasi_world.specs.Asks.{Asks, one, one_write, AsksFor, IsFront}
use Rattle.wasi_world.specs.Fits.{Fits, IsWritten}
use Rattle.wasi_world.proofs.Walks.{asks_ok, asks_err, reaches_all}
use Rattle.wasi_replay.specs.Recorded.{fits_entry, answer_fits}
use Rattle.wasi_replay.specs.Replayed.{seen_of, entry, DiffersAt, Follows, IsRecorded, TookOthers}
use Rattle.wasi_replay.proofs.Fitting.{answer_decides}

-- one call more
pub passes_one : (log log_new : List Entry) (ended : Bool) (closings n m : ℕ) (op : OpId) (called : Call) (told : Told) → log_new ≡ log ++ entry op called told ∷ [] → Counts told n m → Passes (seen_of log ended closings n) (entry op called told ∷ []) (seen_of log_new ended closings m)
passes_one log log_new ended closings n m op called told grown counted = record {
  log = ap (λ l. Some l) grown;
  faults = (m, counted, refl);
  ended = refl;
  closings = refl;
  plan = refl;
}

-- one call that was answered
pub asked_one : (op : OpId) (called : Call) (old new : Seen) (told : Told) → Passes old (entry op called told ∷ []) new → Fits called told → AsksFor (one op called) old new (λ t. t) (Ok told)
asked_one op called old new told passed fits = asks_ok (record { entries = entry op called told ∷ []; passed = passed; left = ((refl, refl, fits), refl) })

-- one write that was answered
pub asked_write : (op sock : OpId) (bytes : List ℕ) (old new : Seen) (told : Told) → Passes old (entry op (Write sock (length bytes)) told ∷ []) new → Fits (Write sock (length bytes)) told → IsFront told bytes → AsksFor (one_write op sock bytes) old new (λ t. t) (Ok told)
asked_write op sock bytes old new told passed fits front = asks_ok (record { entries = entry op (Write sock (length bytes)) told ∷ []; passed = passed; left = ((refl, refl, fits), front, refl) })

-- == the same of a call's result
pub asked_nothing : {A T : Type 0} (asks : Asks A) {old new : Seen} {view : T → A} (e : AllocError) → new ≡ old → AsksFor asks old new view (Err e)
asked_nothing asks {old} e same = asks_err asks (rw same (reaches_all asks old))

module _ (op : OpId) (called : Call) {old new : Seen} where
  pub asked_by : (r : Result Told AllocError) → IfOk r (λ told. Passes old (entry op called told ∷ []) new) → IfOk r (λ told. Fits called told) → OnErr r (new ≡ old) → AsksFor (one op called) old new (λ t. t) r
  asked_by (Ok told) passed fits same = asked_one op called old new told passed fits
  asked_by (Err e) passed fits same = asked_nothing (one op called) e same

pub asked_write_by : (op sock : OpId) (bytes : List ℕ) {old new : Seen} (r : Result Told AllocError) → IfOk r (λ told. Passes old (entry op (Write sock (length bytes)) told ∷ []) new) → IfOk r (λ told. Fits (Write sock (length bytes)) told) → IfOk r (λ told. IsFront told bytes) → OnErr r (new ≡ old) → AsksFor (one_write op sock bytes) old new (λ t. t) r
asked_write_by op sock bytes {old} {new} (Ok told) passed fits front same = asked_write op sock bytes old new told passed fits front
asked_write_by op sock bytes (Err e) passed fits front same = asked_nothing (one_write op sock bytes) e same

-- what is returned is this answer
pub front_is : (bytes : List ℕ) (told : Told) (r : Result Told AllocError) → IfOk r (λ answer. answer ≡ told) → IsFront told bytes → IfOk r (λ answer. IsFront answer bytes)
front_is bytes told (Ok answer) same front = rw same front
front_is bytes told (Err e) same front = tt

-- what is returned is recorded
pub front_at : (bytes : List ℕ) (op : OpId) (called : Call) (o : Option Entry) (r : Result Told AllocError) → IfOk r (λ answer. o ≡ Some (entry op called answer)) → IfSome o (λ e. IsFront e.answer bytes) → IfOk r (λ answer. IsFront answer bytes)
front_at bytes op called o (Ok answer) same front = let P : Option Entry → Type 0 = λ x. IfSome x (λ e. IsFront e.answer bytes) in subst P same front
front_at bytes op called o (Err e) same front = tt

-- == the next entry
some_is : {A : Type 0} (a b : A) → Some a ≡ Some b → a ≡ b
some_is a b h = ap (λ o. unwrap_or o a) h

pub take_next : (es : List Entry) (made : ℕ) (e : Entry) → slice_get es made ≡ Some e → take (made + 1) es ≡ take made es ++ e ∷ []
take_next es made e h = take_more es made e (slice_get_within es made e h) ∙ ap (λ x. take made es ++ x ∷ []) (get_or_from_slice_get es made e e h)

pub recorded_is : (o : Option Entry) (op : OpId) (called : Call) (told : Told) → IsRecorded o op called → IfSome o (λ e. e.answer ≡ told) → o ≡ Some (entry op called told)
recorded_is None op called told at answer = absurd at
recorded_is (Some e) op called told at answer = rw (at.0, at.1, answer) refl

-- each entry of a log that fits
fits_at : (es : List Entry) (i : ℕ) (e : Entry) → list_all fits_entry es ≡ true → slice_get es i ≡ Some e → fits_entry e ≡ true
fits_at [] i e all at = absurd (false≢true (ap is_some at))
fits_at (x ∷ es) zero e all at = ap fits_entry (sym (some_is x e at)) ∙ (and_parts (fits_entry x) _ all).0
fits_at (x ∷ es) (suc i) e all at = fits_at es i e (and_parts (fits_entry x) _ all).1 at

pub fits_next : (recorded es : List Entry) (made : ℕ) (op : OpId) (called : Call) (told : Told) → list_all fits_entry recorded ≡ true → es ≡ recorded → slice_get es made ≡ Some (entry op called told) → Fits called told
fits_next recorded es made op called told all same at = (answer_decides called told).0 (and_parts (answer_fits called told) _ (fits_at es made (entry op called told) (rw same all) at)).0

pub written_next : (recorded es : List Entry) (made : ℕ) (op sock : OpId) (n : ℕ) → list_all fits_entry recorded ≡ true → es ≡ recorded → IsRecorded (slice_get es made) op (Write sock n) → IfSome (slice_get es made) (λ e. IsWritten n e.answer)
written_next recorded es made op sock n all same at = by_case (slice_get es made) refl at where
  by_case : (o : Option Entry) → slice_get es made ≡ o → IsRecorded o op (Write sock n) → IfSome o (λ e. IsWritten n e.answer)
  by_case None is h = absurd h
  by_case (Some e) is h = fits_next recorded es made op (Write sock n) e.answer all same (is ∙ recorded_is (Some e) op (Write sock n) e.answer h refl)

-- == where a log differs
get_front : (xs ys : List Entry) (i : ℕ) → i < length xs → slice_get (xs ++ ys) i ≡ slice_get xs i
get_front [] ys i l = absurd (omega (arith, l))
get_front (x ∷ xs) ys zero l = refl
get_front (x ∷ xs) ys (suc i) l = get_front xs ys i (omega (arith, l))

get_last : (xs : List Entry) (e : Entry) → slice_get (xs ++ e ∷ []) (length xs) ≡ Some e
get_last [] e = refl
get_last (x ∷ xs) e = get_last xs e

take_of_take : (n : ℕ) (xs ys : List Entry) → n ≤ length xs → take n (take n xs ++ ys) ≡ take n xs
take_of_take n xs ys l = take-append-le n (take n xs) ys (rw (length-take-le n xs l) (omega arith)) ∙ take_all n (take n xs) (rw (length-take-le n xs l) (omega arith))

-- a first entry that isn't the recorded one
first_other : (recorded : List Entry) (made : ℕ) (e : Entry) → made ≤ length recorded → ((r : Entry) → slice_get recorded made ≡ Some r → e.op ≡ r.op → e.call ≡ r.call → TookOthers r.answer e.answer) → DiffersAt recorded (take made recorded ++ e ∷ []) made
first_other recorded made e within other =
    let count : length (take made recorded) ≡ made = length-take-le made recorded within in
    let last : slice_get (take made recorded ++ e ∷ []) made ≡ Some e = ap (slice_get (take made recorded ++ e ∷ [])) (sym count) ∙ get_last (take made recorded) e in
    record {
      within = omega (arith, length-append (take made recorded) (e ∷ []), count);
      inside = within;
      same = take_of_take made recorded (e ∷ []) within;
      other = λ x r at recorded_at. (rw (some_is x e (sym at ∙ last)) (other r recorded_at));
    }

-- one more entry of a log that differs
one_more_other : (recorded es : List Entry) (place : ℕ) (e : Entry) → DiffersAt recorded es place → DiffersAt recorded (es ++ e ∷ []) place
one_more_other recorded es place e differs = record {
  within = omega (arith, differs.within, length-append es (e ∷ []));
  inside = differs.inside;
  same = take-append-le place es (e ∷ []) (omega (arith, differs.within)) ∙ differs.same;
  other = λ x r at recorded_at. (differs.other x r (sym (get_front es (e ∷ []) place differs.within) ∙ at) recorded_at);
}

-- a call that isn't the recorded one is the last of the log, which differs then
departed_at : (recorded es : List Entry) (made : ℕ) (differs : Option ℕ) (e : Entry) (now : List Entry) → made ≤ length es → (differs ≡ None → es ≡ recorded) → ((place : ℕ) → differs ≡ Some place → (made ≡ length es) × DiffersAt recorded es place) → ((r : Entry) → differs ≡ None → slice_get es made ≡ Some r → e.op ≡ r.op → e.call ≡ r.call → TookOthers r.answer e.answer) → now ≡ take made es ++ e ∷ [] → (place : ℕ) → Some (unwrap_or differs made) ≡ Some place → (made + 1 ≡ length now) × DiffersAt recorded now place
departed_at recorded es made None e now within same whole other is place at =
    let all : es ≡ recorded = same refl in
    let here : place ≡ made = sym (some_is made place at) in
    rw (is, here, all) (omega (arith, length-append (take made recorded) (e ∷ []), length-take-le made recorded (rw (sym all) within)), first_other recorded made e (rw (sym all) within) (λ r recorded_at. other r refl (rw all recorded_at)))
departed_at recorded es made (Some p) e now within same whole other is place at =
    let here : place ≡ p = sym (some_is p place at) in
    let all : take made es ≡ es = take_all made es (omega (arith, (whole p refl).0)) in
    rw (is, here, all) (omega (arith, (whole p refl).0, length-append es (e ∷ [])), one_more_other recorded es p e (whole p refl).1)

pub departed : (recorded es : List Entry) (made : ℕ) (differs : Option ℕ) (e : Entry) (now : List Entry) → made ≤ length es → Follows recorded es made differs → ((r : Entry) → differs ≡ None → slice_get es made ≡ Some r → e.op ≡ r.op → e.call ≡ r.call → TookOthers r.answer e.answer) → now ≡ take made es ++ e ∷ [] → Follows recorded now (made + 1) (Some (unwrap_or differs made))
departed recorded es made differs e now within follows other is = record {
  same = λ none. absurd (false≢true (sym (ap is_some none)));
  whole = departed_at recorded es made differs e now within follows.same follows.whole other is;
}
