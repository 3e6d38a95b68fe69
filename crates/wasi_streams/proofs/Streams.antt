-- How a stream call's asks continue where it gives no value.
use Rattle.std.specs.Prelude.{◌≡◌, Result, Ok, Err, IsErrAnd, OnErr}
use Rattle.std.specs.declared.alloc.AllocError.{AllocError}
use Rattle.std.proofs.Common.{ap, sym, subst}
use Rattle.wasi_world.specs.Seen.{Seen}
use Rattle.wasi_world.specs.Asks.{Asks, Give, bind, Reaches, Started, AsksFor}
use Rattle.wasi_world.proofs.Walks.{reaches_all, reaches_in, asks_end, asks_err}
use Rattle.wasi_streams.specs.declared.error.StreamError.{StreamError}
use Rattle.wasi_streams.specs.declared.error.StreamError.TheVariants.{LastOperationFailed, Closed, Trap, Memory}
use Rattle.wasi_streams.specs.StreamStop.{StreamStop, Failed, stream_outcome}
use Rattle.wasi_streams.specs.StreamStop as stop

pub stream_memory : {T : Type 0} {d : AllocError} (r : Result T StreamError) → IsErrAnd r (λ x. x ≡ Memory d) → stream_outcome r ≡ Err d
stream_memory (Ok x) h = absurd h
stream_memory (Err x) h = ap (λ (y : StreamError). stream_outcome (Err y)) h

-- out of memory before the first ask
pub stream_none : {A T : Type 0} {asks : Asks A} {s t : Seen} {view : Result T StreamStop → A} {d : AllocError} (r : Result T StreamError) → IsErrAnd r (λ x. x ≡ Memory d) → t ≡ s → AsksFor asks s t view (stream_outcome r)
stream_none {asks} {s} {t} r h e = rw (stream_memory r h) (asks_err asks (rw e (reaches_all asks s)))

-- or in it
pub stream_exit : {A B T : Type 0} {asks : Asks A} (f : A → Asks B) {s t : Seen} {view : Result T StreamStop → B} {d : AllocError} (r : Result T StreamError) → IsErrAnd r (λ x. x ≡ Memory d) → Started asks s t → AsksFor (bind asks f) s t view (stream_outcome r)
stream_exit f r h k = rw (stream_memory r h) (asks_err (bind k.rest f) (reaches_in f k.reached))

-- after the first ask no others, and this is the result
pub stream_end : {A B T : Type 0} {asks : Asks A} (f : A → Asks B) {s t : Seen} {view : Result T StreamStop → B} {x : Result T StreamStop} (r : Result T StreamError) {a : A} → Reaches asks (Give a) s t → stream_outcome r ≡ Ok x → f a ≡ Give (view x) → AsksFor (bind asks f) s t view (stream_outcome r)
stream_end f r h e k = rw e (asks_end f h k)

-- a stop that is passed on by a `?`
pub stream_on : {A B T U : Type 0} {asks : Asks A} (f : A → Asks B) {s t : Seen} {view : Result T StreamStop → A} {shown : Result U StreamStop → B} (x : StreamError) (r : Result U StreamError) → IsErrAnd r (λ y. y ≡ x) → AsksFor asks s t view (stream_outcome {T = T} (Err x)) → ((stop : StreamStop) → f (view (Err stop)) ≡ Give (shown (Err stop))) → AsksFor (bind asks f) s t shown (stream_outcome r)
stream_on f x (Ok y) h k e = absurd h
stream_on {asks = asks} f {s} {t} {shown = shown} (LastOperationFailed c) (Err y) h k e =
    let P : StreamError → Type 0 = λ z. AsksFor (bind asks f) s t shown (stream_outcome (Err z)) in subst P (sym h) (asks_end f k.ok (e (Failed c)))
stream_on {asks = asks} f {s} {t} {shown = shown} Closed (Err y) h k e =
    let P : StreamError → Type 0 = λ z. AsksFor (bind asks f) s t shown (stream_outcome (Err z)) in subst P (sym h) (asks_end f k.ok (e stop.Closed))
stream_on {asks = asks} f {s} {t} {shown = shown} (Trap kind) (Err y) h k e =
    let P : StreamError → Type 0 = λ z. AsksFor (bind asks f) s t shown (stream_outcome (Err z)) in subst P (sym h) (asks_end f k.ok (e (stop.Trap kind)))
stream_on {asks = asks} f {s} {t} {shown = shown} (Memory d) (Err y) h k e =
    let P : StreamError → Type 0 = λ z. AsksFor (bind asks f) s t shown (stream_outcome (Err z)) in
    subst P (sym h) (asks_err (bind k.err.rest f) (reaches_in f k.err.reached))

-- what holds anyway
pub on_memory : {T : Type 0} {P : Type 0} (r : Result T StreamError) → P → OnErr (stream_outcome r) P
on_memory (Ok x) h = tt
on_memory (Err (LastOperationFailed c)) h = tt
on_memory (Err Closed) h = tt
on_memory (Err (Trap kind)) h = tt
on_memory (Err (Memory d)) h = h

-- what holds when memory runs out, where the error is passed on by a `?`
pub memory_on : (T : Type 0) {U : Type 0} {P Q R : Type 0} (x : StreamError) (r : Result U StreamError) → IsErrAnd r (λ y. y ≡ x) → OnErr (stream_outcome {T = T} (Err x)) P → OnErr (stream_outcome {T = T} (Err x)) Q → (P → Q → R) → OnErr (stream_outcome r) R
memory_on T x (Ok y) h p q k = absurd h
memory_on T {U = U} {R = R} (LastOperationFailed c) (Err y) h p q k = let G : StreamError → Type 0 = λ z. OnErr (stream_outcome {T = U} (Err z)) R in subst G (sym h) tt
memory_on T {U = U} {R = R} Closed (Err y) h p q k = let G : StreamError → Type 0 = λ z. OnErr (stream_outcome {T = U} (Err z)) R in subst G (sym h) tt
memory_on T {U = U} {R = R} (Trap kind) (Err y) h p q k = let G : StreamError → Type 0 = λ z. OnErr (stream_outcome {T = U} (Err z)) R in subst G (sym h) tt
memory_on T {U = U} {R = R} (Memory d) (Err y) h p q k = let G : StreamError → Type 0 = λ z. OnErr (stream_outcome {T = U} (Err z)) R in subst G (sym h) (k p q)
