-- How the asks of a call with codes of any type continue where it gives no value, and with the names that an interface gives its codes.
use Rattle.std.specs.Prelude.{◌≡◌, Result, Ok, Err, IsErrAnd, refl}
use Rattle.std.specs.declared.alloc.AllocError.{AllocError}
use Rattle.std.proofs.Common.{sym, subst}
use Rattle.wasi_addr.specs.declared.code.ErrorCode.{ErrorCode}
use Rattle.wasi_world.specs.declared.outcome.Refusal.{Refusal}
use Rattle.wasi_world.specs.declared.outcome.Refusal.TheVariants as refusal
use Rattle.wasi_world.specs.Seen.{Seen}
use Rattle.wasi_world.specs.Asks.{Asks, Give, bind, AsksFor, outcome}
use Rattle.wasi_world.proofs.Walks.{reaches_all, reaches_in, asks_end, asks_err}
use Rattle.wasi_streams.specs.declared.fault.Fault.{Fault}
use Rattle.wasi_streams.specs.declared.fault.Fault.TheVariants as fault
use Rattle.wasi_streams.specs.declared.fault.HostError.{HostError}
use Rattle.wasi_streams.specs.declared.fault.HostError.TheVariants as error
use Rattle.wasi_streams.specs.HostError.{of_fault}
use Rattle.record_common.specs.Stops.{Stop, StopOf, Code, Trap, fault_outcome}
use Rattle.host_store.specs.declared.machine.Machine.{Machine}
use Rattle.host_store.specs.BaseStops.{BaseStop, base_outcome, ends_as, named_as, renamed, trap_of}
use Rattle.host_store.specs.Block.{after_call, give}
use Rattle.host_store.specs.Lines.{storing}
use Rattle.host_store.specs.Store.{Records}

-- out of memory before the first ask
pub ends_none : {C A T : Type 0} {asks : Asks A} {s t : Seen} {view : Result T (StopOf C) → A} {d : AllocError} (r : Result T (HostError C)) → IsErrAnd r (λ x. x ≡ error.Memory d) → t ≡ s → AsksFor asks s t view (ends_as r)
ends_none (Ok v) h e = absurd h
ends_none {C} {T = T} {asks} {s} {t} {view} {d} (Err x) h e =
    let P : HostError C → Type 0 = λ y. AsksFor asks s t view (ends_as {T = T} (Err y)) in subst P (sym h) (asks_err asks (rw e (reaches_all asks s)))

-- an error that is passed on by a `?`
pub ends_passed : {C A B T U : Type 0} {asks : Asks A} (f : A → Asks B) {s t : Seen} {view : Result T (StopOf C) → A} {shown : Result U (StopOf C) → B} (x : HostError C) (r : Result U (HostError C)) → IsErrAnd r (λ y. y ≡ x) → AsksFor asks s t view (ends_as {T = T} (Err x))
    → ((stop : StopOf C) → f (view (Err stop)) ≡ Give (shown (Err stop))) → AsksFor (bind asks f) s t shown (ends_as r)
ends_passed f x (Ok y) h k e = absurd h
ends_passed {C} {T = T} {U = U} {asks} f {s} {t} {view} {shown} x (Err y) h k e =
    let P : HostError C → Type 0 = λ z. AsksFor (bind asks f) s t shown (ends_as {T = U} (Err z)) in subst P (sym h) (by x k)
  where
    by : (x : HostError C) → AsksFor asks s t view (ends_as {T = T} (Err x)) → AsksFor (bind asks f) s t shown (ends_as {T = U} (Err x))
    by (error.Code c) k = asks_end f k.ok (e (Code c))
    by (error.Trap c) k = asks_end f k.ok (e (Trap c))
    by (error.Memory d) k = asks_err (bind k.err.rest f) (reaches_in f k.err.reached)

-- a fault that becomes the call's error by a `?`
pub ends_fault : {C A B T U : Type 0} {asks : Asks A} (f : A → Asks B) {s t : Seen} {view : Result T Stop → A} {shown : Result U (StopOf C) → B} (x : Fault) (r : Result U (HostError C)) → IsErrAnd r (λ y. y ≡ of_fault x) → AsksFor asks s t view (fault_outcome {T = T} (Err x))
    → ((stop : Stop) → f (view (Err stop)) ≡ Give (shown (Err (trap_of stop)))) → AsksFor (bind asks f) s t shown (ends_as r)
ends_fault f x (Ok y) h k e = absurd h
ends_fault {C} {T = T} {U = U} {asks} f {s} {t} {view} {shown} x (Err y) h k e =
    let P : HostError C → Type 0 = λ z. AsksFor (bind asks f) s t shown (ends_as {T = U} (Err z)) in subst P (sym h) (by x k)
  where
    by : (x : Fault) → AsksFor asks s t view (fault_outcome {T = T} (Err x)) → AsksFor (bind asks f) s t shown (ends_as {T = U} (Err (of_fault x)))
    by (fault.Trap c) k = asks_end f k.ok (e (Trap c))
    by (fault.Memory d) k = asks_err (bind k.err.rest f) (reaches_in f k.err.reached)

-- a refusal that becomes an error of the store
pub base_refused : {A B T U : Type 0} {asks : Asks A} (f : A → Asks B) {s t : Seen} {view : Result T ErrorCode → A} {shown : Result U BaseStop → B} (x : Refusal) (r : Result U (HostError ErrorCode)) → ends_as r ≡ base_outcome {T = U} (Err x) → AsksFor asks s t view (outcome {T = T} (Err x))
    → ((c : ErrorCode) → f (view (Err c)) ≡ Give (shown (Err (Code c)))) → AsksFor (bind asks f) s t shown (ends_as r)
base_refused f (refusal.Code c) r h k e = rw h (asks_end f k.ok (e c))
base_refused f (refusal.Memory d) r h k e = rw h (asks_err (bind k.err.rest f) (reaches_in f k.err.reached))

-- and that is passed on by a `?`
pub base_passed : {A B T U : Type 0} {asks : Asks A} (f : A → Asks B) {s t : Seen} {view : Result T ErrorCode → A} {shown : Result U BaseStop → B} (told : Result T Refusal) (x : HostError ErrorCode) (r : Result U (HostError ErrorCode)) → IsErrAnd r (λ y. y ≡ x) → ends_as {T = T} (Err x) ≡ base_outcome told
    → AsksFor asks s t view (outcome told) → ((c : ErrorCode) → f (view (Err c)) ≡ Give (shown (Err (Code c)))) → AsksFor (bind asks f) s t shown (ends_as r)
base_passed f told x (Ok y) h q k e = absurd h
base_passed {T = T} {U = U} {asks} f {s} {t} {view} {shown} told x (Err y) h q k e =
    let P : HostError ErrorCode → Type 0 = λ z. AsksFor (bind asks f) s t shown (ends_as {T = U} (Err z)) in subst P (sym h) (by x told q k)
  where
    coded : (c d : ErrorCode) → d ≡ c → AsksFor asks s t view (Ok (Err d)) → AsksFor (bind asks f) s t shown (Ok (Err (Code c)))
    coded c d same k = subst (λ (z : ErrorCode). AsksFor (bind asks f) s t shown (Ok (Err (Code z)))) same (asks_end f k.ok (e d))

    by : (x : HostError ErrorCode) (told : Result T Refusal) → ends_as {T = T} (Err x) ≡ base_outcome told → AsksFor asks s t view (outcome told) → AsksFor (bind asks f) s t shown (ends_as {T = U} (Err x))
    by (error.Code c) (Ok v) q k = absurd (cc)
    by (error.Code c) (Err (refusal.Code d)) q k = coded c d (cc) k
    by (error.Code c) (Err (refusal.Memory d)) q k = absurd (cc)
    by (error.Trap c) (Ok v) q k = absurd (cc)
    by (error.Trap c) (Err (refusal.Code d)) q k = absurd (cc)
    by (error.Trap c) (Err (refusal.Memory d)) q k = absurd (cc)
    by (error.Memory c) (Ok v) q k = absurd (cc)
    by (error.Memory c) (Err (refusal.Code d)) q k = absurd (cc)
    by (error.Memory c) (Err (refusal.Memory d)) q k = asks_err (bind k.err.rest f) (reaches_in f k.err.reached)

-- a call on the records, as one on the machine with other names for its codes
pub stored_named : {C A : Type 0} (name : ErrorCode → C) (m : Machine) {asks : Asks (Result A BaseStop × Records)} {s t : Seen} {now : Records} (told : Result (Result A BaseStop) AllocError) → AsksFor asks s t (λ (answer : Result A BaseStop). (answer, now)) told
    → AsksFor (bind asks (after_call (renamed name) storing give m)) s t (λ (answer : Result A (StopOf C)). (answer, storing m now)) (named_as name told)
stored_named name m (Ok (Ok value)) k = asks_end _ k.ok refl
stored_named name m (Ok (Err stop)) k = asks_end _ k.ok refl
stored_named name m (Err e) k = asks_err (bind k.err.rest (after_call (renamed name) storing give m)) (reaches_in (after_call (renamed name) storing give m) k.err.reached)
