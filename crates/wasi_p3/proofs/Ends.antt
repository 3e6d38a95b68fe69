-- What the calls of the ends of streams ask, by what the store answers.
use Rattle.std.specs.Prelude.{◌≡◌, Result, Ok, Err, IfOk, IsErrAnd, refl}
use Rattle.std.specs.declared.alloc.AllocError.{AllocError}
use Rattle.std.proofs.Common.{sym, subst}
use Rattle.wasi_addr.specs.declared.code.ErrorCode.{ErrorCode}
use Rattle.wasi_addr.specs.declared.p3.ErrorCode.{ErrorCode as P3Code}
use Rattle.wasi_addr.specs.Code.{p3_of_code}
use Rattle.wasi_streams.specs.declared.fault.HostError.{HostError}
use Rattle.wasi_streams.specs.declared.fault.HostError.TheVariants as error
use Rattle.wasi_world.specs.Seen.{Seen}
use Rattle.wasi_world.specs.Asks.{Asks, Give, bind, AsksFor}
use Rattle.wasi_world.proofs.Walks.{asks_at, asks_end, asks_err, asks_given, asks_then, reaches_all, reaches_in}
use Rattle.record_common.specs.Stops.{Code, Trap}
use Rattle.host_store.specs.declared.machine.Machine.{Machine}
use Rattle.host_store.specs.BaseStops.{BaseStop, ends_as, named_as, renamed}
use Rattle.host_store.specs.Block.{Does, after_call}
use Rattle.host_store.specs.Lines.{storing}
use Rattle.host_store.specs.Store.{Records}
use Rattle.wasi_p3.specs.Stops.{P3Stop}

abbrev Error : Type 0
Error = HostError P3Code

-- what is given without an ask, unless memory runs out
pub given_if : {T S : Type 0} (taken : T × S) {now : S} {s : Seen} (told : Result T AllocError) → IfOk told (λ t. (t, now) ≡ taken) → AsksFor (Give taken) s s (λ t. (t, now)) told
given_if taken (Ok t) h = asks_given t (Ok t) refl (rw h refl)
given_if taken (Err e) h = asks_err (Give taken) (reaches_all (Give taken) _)

-- a call on the records that gave no value, whose error is passed on by a `?`
pub stored_stops : {A B : Type 0} (m : Machine) {asks : Asks (Result A BaseStop × Records)} (next : A → Does P3Code Machine B) {s t : Seen} {now : Records} (x : Error) (told : Result A (HostError ErrorCode)) (r : Result B Error) → IsErrAnd r (λ y. y ≡ x)
    → ends_as {T = A} (Err x) ≡ named_as p3_of_code (ends_as told) → AsksFor asks s t (λ a. (a, now)) (ends_as told) → AsksFor (bind asks (after_call (renamed p3_of_code) storing next m)) s t (λ y. (y, storing m now)) (ends_as r)
stored_stops m next x told (Ok y) h e k = absurd h
stored_stops {A} {B} m {asks} next {s} {t} {now} x told (Err y) h e k =
    let P : Error → Type 0 = λ z. AsksFor (bind asks (after_call (renamed p3_of_code) storing next m)) s t (λ y. (y, storing m now)) (ends_as {T = B} (Err z)) in subst P (sym h) (by x told e k)
  where
    by : (x : Error) (told : Result A (HostError ErrorCode)) → ends_as {T = A} (Err x) ≡ named_as p3_of_code (ends_as told) → AsksFor asks s t (λ a. (a, now)) (ends_as told)
        → AsksFor (bind asks (after_call (renamed p3_of_code) storing next m)) s t (λ y. (y, storing m now)) (ends_as {T = B} (Err x))
    by (error.Code c) (Ok v) e k = absurd (cc)
    by (error.Code c) (Err (error.Code d)) e k = let q : c ≡ p3_of_code d = cc in rw q (asks_end _ k.ok refl)
    by (error.Code c) (Err (error.Trap d)) e k = absurd (cc)
    by (error.Code c) (Err (error.Memory d)) e k = absurd (cc)
    by (error.Trap c) (Ok v) e k = absurd (cc)
    by (error.Trap c) (Err (error.Code d)) e k = absurd (cc)
    by (error.Trap c) (Err (error.Trap d)) e k = let q : c ≡ d = cc in rw q (asks_end _ k.ok refl)
    by (error.Trap c) (Err (error.Memory d)) e k = absurd (cc)
    by (error.Memory c) (Ok v) e k = absurd (cc)
    by (error.Memory c) (Err (error.Code d)) e k = absurd (cc)
    by (error.Memory c) (Err (error.Trap d)) e k = absurd (cc)
    by (error.Memory c) (Err (error.Memory d)) e k = asks_err (bind k.err.rest (after_call (renamed p3_of_code) storing next m)) (reaches_in (after_call (renamed p3_of_code) storing next m) k.err.reached)

-- one that gave a value, with which the block goes on
pub stored_goes_on : {A B T : Type 0} (m : Machine) (taken : Result A BaseStop × Records) (next : A → Does P3Code Machine B) {s t : Seen} {view : T → Result B P3Stop × Machine} {r : Result T AllocError} {now : Records} (told : Result A (HostError ErrorCode)) (v : A)
    → ends_as {C = P3Code} {T = A} (Ok v) ≡ named_as p3_of_code (ends_as told) → IfOk (ends_as told) (λ x. (x, now) ≡ taken) → AsksFor (next v (storing m now)) s t view r → AsksFor (bind (Give taken) (after_call (renamed p3_of_code) storing next m)) s t view r
stored_goes_on {B = B} m taken next {s} {t} {view} {r} {now} (Ok w) v e h k =
    let q : v ≡ w = cc in
    asks_at (λ x. bind (Give x) (after_call (renamed p3_of_code) storing next m)) (sym h)
    (asks_then (after_call (renamed p3_of_code) storing next m) (reaches_all (Give (Ok w, now)) s) (rw q at k))
stored_goes_on m taken next (Err (error.Code d)) v e h k = absurd (cc)
stored_goes_on m taken next (Err (error.Trap d)) v e h k = absurd (cc)
stored_goes_on m taken next (Err (error.Memory d)) v e h k = absurd (cc)
