-- What a world notes of another's answers.
use Rattle.std.specs.Prelude.{IfOk, OnErr}
use Rattle.std.proofs.Common.{◌≡◌, ℕ, Bool, true, false, List, [], ◌∷◌, ◌++◌, length, Some, Result, Ok, Err, ap, subst, sym, refl}
use Rattle.std.specs.declared.alloc.AllocError.{AllocError}
use Rattle.std.proofs.lemmas.Bool.{false≢true}
use Rattle.wasi_world.specs.declared.ids.OpId.{OpId}
use Rattle.wasi_world.specs.declared.call.Call.{Call}
use Rattle.wasi_world.specs.declared.call.Call.TheVariants.{Write}
use Rattle.wasi_world.specs.declared.call.Told.{Told}
use Rattle.wasi_world.specs.declared.call.Told.TheVariants.{Pending}
use Rattle.wasi_world.specs.declared.call.Entry.{Entry}
use Rattle.wasi_world.specs.Seen.{Seen, Counts, Passes}
use Rattle.wasi_world.specs.Asks.{Asks, Give, one, one_write, AsksFor, IsFront, Left, Reaches}
use Rattle.wasi_world.specs.Fits.{Fits}
use Rattle.wasi_replay.specs.Replayed.{seen_of, entry}
use Rattle.wasi_replay.proofs.Replaying.{asked_by, asked_write_by, front_is}

is_given : Asks Told → Bool
is_given (Give a) = true
is_given _ = false

given : Asks Told → Told
given (Give a) = a
given _ = Pending

-- one call was answered so
pub call_fits : (op : OpId) (called : Call) (told : Told) (es : List Entry) → Left (one op called) es (Give told) → Fits called told
unfolding is_given given
call_fits op called told [] h = absurd (false≢true (ap is_given h))
call_fits op called told (e ∷ []) h = subst (Fits called) (ap given h.1) h.0.2
call_fits op called told (e ∷ f ∷ es) h = absurd h.1

pub write_front : (op sock : OpId) (bytes : List ℕ) (told : Told) (es : List Entry) → Left (one_write op sock bytes) es (Give told) → IsFront told bytes
unfolding is_given given
write_front op sock bytes told [] h = absurd (false≢true (ap is_given h))
write_front op sock bytes told (e ∷ []) h = subst (λ t. IsFront t bytes) (ap given h.2) h.1
write_front op sock bytes told (e ∷ f ∷ es) h = absurd h.2

pub write_fits : (op sock : OpId) (bytes : List ℕ) (told : Told) (es : List Entry) → Left (one_write op sock bytes) es (Give told) → Fits (Write sock (length bytes)) told
unfolding is_given given
write_fits op sock bytes told [] h = absurd (false≢true (ap is_given h))
write_fits op sock bytes told (e ∷ []) h = subst (Fits (Write sock (length bytes))) (ap given h.2) h.0.2
write_fits op sock bytes told (e ∷ f ∷ es) h = absurd h.2

-- the other world was asked just this, and what it answered is returned, unless memory ran out in noting it
pub handed_on : {asks : Asks Told} {old new : Seen} {told : Told} (r : Result Told AllocError) → Reaches asks (Give told) old new → new.ended ≡ old.ended → IfOk r (λ a. a ≡ told) → AsksFor asks old new (λ t. t) r
handed_on {asks} {old} {new} {told} (Ok a) h ended same = record { ok = subst (λ t. Reaches asks (Give t) old new) (sym same) h; err = tt; ended = ended }
handed_on {told = told} (Err e) h ended same = record { ok = tt; err = record { rest = Give told; reached = h }; ended = ended }

-- What was noted, or nothing.
module _ (op : OpId) (called : Call) (told : Told) (log log_new : List Entry) (n m : ℕ) (old new : Seen) (r : Result Told AllocError)
    (ended : new.ended ≡ old.ended) (closings : new.closings ≡ old.closings)
    (noted : IfOk r (λ a. log_new ≡ log ++ entry op called a ∷ [])) (same : IfOk r (λ a. a ≡ told)) (counted : IfOk r (λ a. Counts a n m))
    (kept : OnErr r (log_new ≡ log)) (uncounted : OnErr r (m ≡ n)) (fits : Fits called told) where
  passes : (s : Result Told AllocError) → IfOk s (λ a. log_new ≡ log ++ entry op called a ∷ []) → IfOk s (λ a. Counts a n m) → IfOk s (λ a. Passes (seen_of log old.ended old.closings n) (entry op called a ∷ []) (seen_of log_new new.ended new.closings m))
  passes (Ok a) grown count = record { log = ap (λ l. Some l) grown; faults = (m, count, refl); ended = ended; closings = closings; plan = refl }
  passes (Err e) grown count = tt

  all_fit : (s : Result Told AllocError) → IfOk s (λ a. a ≡ told) → IfOk s (λ a. Fits called a)
  all_fit (Ok a) is = rw is fits
  all_fit (Err e) is = tt

  unchanged : (s : Result Told AllocError) → OnErr s (log_new ≡ log) → OnErr s (m ≡ n) → OnErr s (seen_of log_new new.ended new.closings m ≡ seen_of log old.ended old.closings n)
  unchanged (Ok a) k u = tt
  unchanged (Err e) k u = rw (k, u, ended, closings) refl

  pub passes_noted : IfOk r (λ a. Passes (seen_of log old.ended old.closings n) (entry op called a ∷ []) (seen_of log_new new.ended new.closings m))
  passes_noted = passes r noted counted

  pub asked_noted : AsksFor (one op called) (seen_of log old.ended old.closings n) (seen_of log_new new.ended new.closings m) (λ t. t) r
  asked_noted = asked_by op called r (passes r noted counted) (all_fit r same) (unchanged r kept uncounted)

  pub err_noted : OnErr r (seen_of log_new new.ended new.closings m ≡ seen_of log old.ended old.closings n)
  err_noted = unchanged r kept uncounted

  pub fits_noted : IfOk r (λ a. Fits called a)
  fits_noted = all_fit r same

-- the same of a write
pub asked_write_noted : (op sock : OpId) (bytes : List ℕ) (told : Told) (log log_new : List Entry) (n m : ℕ) (old new : Seen) (es : List Entry) (r : Result Told AllocError) → new.ended ≡ old.ended → new.closings ≡ old.closings → IfOk r (λ a. log_new ≡ log ++ entry op (Write sock (length bytes)) a ∷ []) → IfOk r (λ a. a ≡ told) → IfOk r (λ a. Counts a n m) → OnErr r (log_new ≡ log) → OnErr r (m ≡ n) → Left (one_write op sock bytes) es (Give told) → AsksFor (one_write op sock bytes) (seen_of log old.ended old.closings n) (seen_of log_new new.ended new.closings m) (λ t. t) r
asked_write_noted op sock bytes told log log_new n m old new es r ended closings noted same counted kept uncounted left =
    let called = Write sock (length bytes) in
    let fits = write_fits op sock bytes told es left in
    asked_write_by op sock bytes r
    (passes_noted op called told log log_new n m old new r ended closings noted same counted kept uncounted fits)
    (fits_noted op called told log log_new n m old new r ended closings noted same counted kept uncounted fits)
    (front_is bytes told r same (write_front op sock bytes told es left))
    (err_noted op called told log log_new n m old new r ended closings noted same counted kept uncounted fits)

-- nothing was noted and nothing asked
pub same_seen : {log log_new : List Entry} {old new : Seen} {n : ℕ} → log_new ≡ log → new ≡ old → seen_of log_new new.ended new.closings n ≡ seen_of log old.ended old.closings n
same_seen l s = rw (l, s) refl
