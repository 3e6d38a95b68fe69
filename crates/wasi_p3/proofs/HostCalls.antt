-- Calls of the host, whose codes get their 0.3 names: what the code answers, and what follows.
use Rattle.std.proofs.Common.{◌≡◌, Result, Ok, Err, refl, ap, subst, sym}
use Rattle.std.specs.Prelude.{IsErrAnd}
use Rattle.std.specs.declared.alloc.AllocError.{AllocError}
use Rattle.wasi_addr.specs.declared.code.ErrorCode.{ErrorCode}
use Rattle.wasi_addr.specs.declared.p3.ErrorCode.{ErrorCode as P3Code}
use Rattle.wasi_streams.specs.declared.fault.HostError.{HostError}
use Rattle.wasi_streams.specs.declared.fault.HostError.TheVariants as error
use Rattle.wasi_world.specs.Seen.{Seen}
use Rattle.wasi_world.specs.Asks.{Asks, bind, AsksFor}
use Rattle.wasi_world.proofs.Walks.{asks_end, asks_err, reaches_in}
use Rattle.record_common.specs.Stops.{StopOf, Code, Trap}
use Rattle.host_store.specs.declared.machine.Machine.{Machine}
use Rattle.host_store.specs.BaseStops.{BaseStop, ends_as, named_as, renamed}
use Rattle.host_store.specs.Block.{Does, after_call, give}
use Rattle.host_store.specs.Lines.{same_stop, storing}
use Rattle.host_store.specs.Store.{Records}
use Rattle.wasi_p3.specs.Stops.{P3Stop}

-- a call on all of it
pub host_named : {A : Type 0} (name : ErrorCode → P3Code) (m : Machine) {asks : Asks (Result A BaseStop × Machine)} {s t : Seen} {now : Machine} (told : Result (Result A BaseStop) AllocError) → AsksFor asks s t (λ (answer : Result A BaseStop). (answer, now)) told
    → AsksFor (bind asks (after_call (renamed name) (λ m now. now) give m)) s t (λ (answer : Result A P3Stop). (answer, now)) (named_as name told)
host_named name m (Ok (Ok value)) k = asks_end _ k.ok refl
host_named name m (Ok (Err stop)) k = asks_end _ k.ok refl
host_named name m (Err e) k = asks_err (bind k.err.rest (after_call (renamed name) (λ m now. now) give m)) (reaches_in (after_call (renamed name) (λ m now. now) give m) k.err.reached)

-- a call on the store, whose codes keep their names
pub stored : {C A : Type 0} (m : Machine) {asks : Asks (Result A (StopOf C) × Records)} {s t : Seen} {now : Records} (told : Result (Result A (StopOf C)) AllocError) → AsksFor asks s t (λ (answer : Result A (StopOf C)). (answer, now)) told
    → AsksFor (bind asks (after_call same_stop storing give m)) s t (λ (answer : Result A (StopOf C)). (answer, storing m now)) told
stored m (Ok (Ok value)) k = asks_end _ k.ok refl
stored m (Ok (Err stop)) k = asks_end _ k.ok refl
stored m (Err e) k = asks_err (bind k.err.rest (after_call same_stop storing give m)) (reaches_in (after_call same_stop storing give m) k.err.reached)

-- an error keeps its name, whatever else might have come
stop_left : {A B : Type 0} (x : HostError P3Code) (stop : P3Stop) → ends_as {T = A} (Err x) ≡ Ok (Err stop) → ends_as {T = B} (Err x) ≡ Ok (Err stop)
stop_left {B = B} (error.Code c) stop e = let same : Code c ≡ stop = cc in ap {B = Result (Result B P3Stop) AllocError} (λ (y : P3Stop). Ok (Err y)) same
stop_left {B = B} (error.Trap k) stop e = let same : Trap k ≡ stop = cc in ap {B = Result (Result B P3Stop) AllocError} (λ (y : P3Stop). Ok (Err y)) same
stop_left (error.Memory d) stop e = absurd (cc)

memory_left : {A B : Type 0} (x : HostError P3Code) (d : AllocError) → ends_as {T = A} (Err x) ≡ Err d → ends_as {T = B} (Err x) ≡ Err d
memory_left (error.Code c) d e = absurd (cc)
memory_left (error.Trap k) d e = absurd (cc)
memory_left {B = B} (error.Memory f) d e = let same : f ≡ d = cc in ap {B = Result (Result B P3Stop) AllocError} (λ (y : AllocError). Err y) same

value_not : {A : Type 0} (x : HostError P3Code) (value : A) → ends_as {T = A} (Err x) ≡ Ok (Ok value) → ⊥
value_not (error.Code c) value e = absurd (cc)
value_not (error.Trap k) value e = absurd (cc)
value_not (error.Memory d) value e = absurd (cc)

-- a call on the store that is passed on by a `?`
module _ {A B : Type 0} (name : ErrorCode → P3Code) (m : Machine) (next : A → Does P3Code Machine B) where
  abbrev Follows : Asks (Result A BaseStop × Records) → Seen → Seen → Records → Result (Result B P3Stop) AllocError → Type 0
  Follows asks s t now r = AsksFor (bind asks (after_call (renamed name) storing next m)) s t (λ (answer : Result B P3Stop). (answer, storing m now)) r

  by_told : {asks : Asks (Result A BaseStop × Records)} {s t : Seen} {now : Records} (x : HostError P3Code) (told : Result A (HostError ErrorCode)) → ends_as {T = A} (Err x) ≡ named_as name (ends_as told) → AsksFor asks s t (λ (answer : Result A BaseStop). (answer, now)) (ends_as told) → Follows asks s t now (ends_as {T = B} (Err x))
  by_told x (Ok value) e k = absurd (value_not x value e)
  by_told {asks} {s} {t} {now} x (Err (error.Code c)) e k = subst (Follows asks s t now) (sym (stop_left {A = A} {B = B} x (Code (name c)) e)) (asks_end _ k.ok refl)
  by_told {asks} {s} {t} {now} x (Err (error.Trap kind)) e k = subst (Follows asks s t now) (sym (stop_left {A = A} {B = B} x (Trap kind) e)) (asks_end _ k.ok refl)
  by_told {asks} {s} {t} {now} x (Err (error.Memory d)) e k = subst (Follows asks s t now) (sym (memory_left {A = A} {B = B} x d e)) (asks_err _ (reaches_in _ k.err.reached))

  pub stopped : {asks : Asks (Result A BaseStop × Records)} {s t : Seen} {now : Records} (told : Result A (HostError ErrorCode)) (x : HostError P3Code) (r : Result B (HostError P3Code)) → IsErrAnd r (λ y. y ≡ x) → ends_as {T = A} (Err x) ≡ named_as name (ends_as told)
      → AsksFor asks s t (λ (answer : Result A BaseStop). (answer, now)) (ends_as told) → Follows asks s t now (ends_as r)
  stopped told x (Ok value) h e k = absurd h
  stopped {asks} {s} {t} {now} told x (Err y) h e k = subst (λ (z : HostError P3Code). Follows asks s t now (ends_as {T = B} (Err z))) (sym h) (by_told x told e k)

-- what it gave
pub value_told : {A : Type 0} (name : ErrorCode → P3Code) (told : Result A (HostError ErrorCode)) (value : A) → ends_as {C = P3Code} (Ok value) ≡ named_as name (ends_as told) → told ≡ Ok value
value_told name (Ok other) value e = let same : other ≡ value = cc in ap Ok same
value_told name (Err (error.Code c)) value e = absurd (cc)
value_told name (Err (error.Trap k)) value e = absurd (cc)
value_told name (Err (error.Memory d)) value e = absurd (cc)
