-- How a host call's asks continue where it gives no value.
use Rattle.std.specs.Prelude.{◌≡◌, Result, Ok, Err, IsErrAnd, OnErr}
use Rattle.std.specs.declared.alloc.AllocError.{AllocError}
use Rattle.std.proofs.Common.{ap, sym, subst}
use Rattle.wasi_addr.specs.declared.code.ErrorCode.{ErrorCode}
use Rattle.wasi_world.specs.declared.outcome.Refusal.{Refusal}
use Rattle.wasi_world.specs.declared.outcome.Refusal.TheVariants as refusal
use Rattle.wasi_world.specs.Seen.{Seen}
use Rattle.wasi_world.specs.Asks.{Asks, Give, bind, Reaches, Started, AsksFor, outcome}
use Rattle.wasi_world.proofs.Walks.{reaches_all, reaches_in, reaches_on, asks_end, asks_err}
use Rattle.record_common.specs.Stops.{SocketError, Stop, code_stop, host_outcome, fault_outcome}
use Rattle.wasi_streams.specs.declared.fault.HostError.TheVariants.{Code, Trap, Memory}
use Rattle.wasi_streams.specs.declared.fault.Fault.{Fault}
use Rattle.wasi_streams.specs.declared.fault.Fault.TheVariants as fault
use Rattle.wasi_streams.specs.HostError.{of_fault, of_refusal as error_of}
use Rattle.record_common.specs.Stops as host

host_memory : {T : Type 0} {d : AllocError} (r : Result T SocketError) → IsErrAnd r (λ x. x ≡ Memory d) → host_outcome r ≡ Err d
host_memory (Ok x) h = absurd h
host_memory (Err x) h = ap (λ (y : SocketError). host_outcome (Err y)) h

-- out of memory before the first ask
pub host_none : {A T : Type 0} {asks : Asks A} {s t : Seen} {view : Result T Stop → A} {d : AllocError} (r : Result T SocketError) → IsErrAnd r (λ x. x ≡ Memory d) → t ≡ s → AsksFor asks s t view (host_outcome r)
host_none {asks} {s} {t} r h e = rw (host_memory r h) (asks_err asks (rw e (reaches_all asks s)))

-- or in it
pub host_exit : {A B T : Type 0} {asks : Asks A} (f : A → Asks B) {s t : Seen} {view : Result T Stop → B} {d : AllocError} (r : Result T SocketError) → IsErrAnd r (λ x. x ≡ Memory d) → Started asks s t → AsksFor (bind asks f) s t view (host_outcome r)
host_exit f r h k = rw (host_memory r h) (asks_err (bind k.rest f) (reaches_in f k.reached))

-- a refusal that becomes the call's error by a `?`
pub host_refused : {A B T U : Type 0} {asks : Asks A} (f : A → Asks B) {s t : Seen} {view : Result T ErrorCode → A} {shown : Result U Stop → B} (x : Refusal) (r : Result U SocketError) → IsErrAnd r (λ y. y ≡ error_of x) → AsksFor asks s t view (outcome {T = T} (Err x)) → ((c : ErrorCode) → f (view (Err c)) ≡ Give (shown (Err (code_stop c)))) → AsksFor (bind asks f) s t shown (host_outcome r)
host_refused f x (Ok y) h k e = absurd h
host_refused {asks} f {s} {t} {view} {shown} (refusal.Code c) (Err y) h k e =
    let P : SocketError → Type 0 = λ z. AsksFor (bind asks f) s t shown (host_outcome (Err z)) in subst P (sym h) (asks_end f k.ok (e c))
host_refused {asks} f {s} {t} {view} {shown} (refusal.Memory d) (Err y) h k e =
    let P : SocketError → Type 0 = λ z. AsksFor (bind asks f) s t shown (host_outcome (Err z)) in
    subst P (sym h) (asks_err (bind k.err.rest f) (reaches_in f k.err.reached))

pub fault_told : {U : Type 0} (x : Fault) (r : Result U SocketError) → IsErrAnd r (λ y. y ≡ of_fault x) → host_outcome r ≡ fault_outcome {T = U} (Err x)
fault_told x (Ok y) h = absurd h
fault_told (fault.Trap k) (Err y) h = ap (λ (z : SocketError). host_outcome (Err z)) h
fault_told (fault.Memory d) (Err y) h = ap (λ (z : SocketError). host_outcome (Err z)) h

-- an error that is passed on by a `?`
pub host_passed : {A B T U : Type 0} {asks : Asks A} (f : A → Asks B) {s t : Seen} {view : Result T Stop → A} {shown : Result U Stop → B} (x : SocketError) (r : Result U SocketError) → IsErrAnd r (λ y. y ≡ x) → AsksFor asks s t view (host_outcome {T = T} (Err x)) → ((stop : Stop) → f (view (Err stop)) ≡ Give (shown (Err stop))) → AsksFor (bind asks f) s t shown (host_outcome r)
host_passed f x (Ok y) h k e = absurd h
host_passed {asks} f {s} {t} {view} {shown} (Code c) (Err y) h k e =
    let P : SocketError → Type 0 = λ z. AsksFor (bind asks f) s t shown (host_outcome (Err z)) in subst P (sym h) (asks_end f k.ok (e (host.Code c)))
host_passed {asks} f {s} {t} {view} {shown} (Trap kind) (Err y) h k e =
    let P : SocketError → Type 0 = λ z. AsksFor (bind asks f) s t shown (host_outcome (Err z)) in subst P (sym h) (asks_end f k.ok (e (host.Trap kind)))
host_passed {asks} f {s} {t} {view} {shown} (Memory d) (Err y) h k e =
    let P : SocketError → Type 0 = λ z. AsksFor (bind asks f) s t shown (host_outcome (Err z)) in
    subst P (sym h) (asks_err (bind k.err.rest f) (reaches_in f k.err.reached))

-- a fault that becomes the call's error by a `?`
pub host_fault : {A B T U : Type 0} {asks : Asks A} (f : A → Asks B) {s t : Seen} {view : Result T Stop → A} {shown : Result U Stop → B} (x : Fault) (r : Result U SocketError) → IsErrAnd r (λ y. y ≡ of_fault x) → AsksFor asks s t view (fault_outcome {T = T} (Err x)) → ((stop : Stop) → f (view (Err stop)) ≡ Give (shown (Err stop))) → AsksFor (bind asks f) s t shown (host_outcome r)
host_fault f (fault.Trap k) r h asked e = host_passed f (Trap k) r h asked e
host_fault f (fault.Memory d) r h asked e = host_passed f (Memory d) r h asked e

-- == of a call that returns no codes
fault_memory : {T : Type 0} {d : AllocError} (r : Result T Fault) → IsErrAnd r (λ x. x ≡ fault.Memory d) → fault_outcome r ≡ Err d
fault_memory (Ok x) h = absurd h
fault_memory (Err x) h = ap (λ (y : Fault). fault_outcome (Err y)) h

-- an error that is passed on by a `?`
pub fault_passed : {A B T U : Type 0} {asks : Asks A} (f : A → Asks B) {s t : Seen} {view : Result T Stop → A} {shown : Result U Stop → B} (x : Fault) (r : Result U Fault) → IsErrAnd r (λ y. y ≡ x) → AsksFor asks s t view (fault_outcome {T = T} (Err x)) → ((stop : Stop) → f (view (Err stop)) ≡ Give (shown (Err stop))) → AsksFor (bind asks f) s t shown (fault_outcome r)
fault_passed f x (Ok y) h k e = absurd h
fault_passed {asks} f {s} {t} {view} {shown} (fault.Trap kind) (Err y) h k e =
    let P : Fault → Type 0 = λ z. AsksFor (bind asks f) s t shown (fault_outcome (Err z)) in subst P (sym h) (asks_end f k.ok (e (host.Trap kind)))
fault_passed {asks} f {s} {t} {view} {shown} (fault.Memory d) (Err y) h k e =
    let P : Fault → Type 0 = λ z. AsksFor (bind asks f) s t shown (fault_outcome (Err z)) in
    subst P (sym h) (asks_err (bind k.err.rest f) (reaches_in f k.err.reached))

-- out of memory after these asks
pub fault_wants : {A T : Type 0} {asks rest : Asks A} {s t : Seen} {view : Result T Stop → A} {d : AllocError} (r : Result T Fault) → IsErrAnd r (λ x. x ≡ fault.Memory d) → Reaches asks rest s t → AsksFor asks s t view (fault_outcome r)
fault_wants {rest = rest} r h k = rw (fault_memory r h) (asks_err rest k)

-- out of memory before the first ask
pub fault_none : {A T : Type 0} {asks : Asks A} {s t : Seen} {view : Result T Stop → A} {d : AllocError} (r : Result T Fault) → IsErrAnd r (λ x. x ≡ fault.Memory d) → t ≡ s → AsksFor asks s t view (fault_outcome r)
fault_none {asks} {s} {t} r h e = rw (fault_memory r h) (asks_err asks (rw e (reaches_all asks s)))

-- or in it
pub fault_exit : {A B T : Type 0} {asks : Asks A} (f : A → Asks B) {s t : Seen} {view : Result T Stop → B} {d : AllocError} (r : Result T Fault) → IsErrAnd r (λ x. x ≡ fault.Memory d) → Started asks s t → AsksFor (bind asks f) s t view (fault_outcome r)
fault_exit f r h k = rw (fault_memory r h) (asks_err (bind k.rest f) (reaches_in f k.reached))

-- or after it, where what follows asks nothing
pub fault_on : {A B T : Type 0} {asks : Asks A} {a : A} (f : A → Asks B) {s t : Seen} {view : Result T Stop → B} {d : AllocError} (r : Result T Fault) → IsErrAnd r (λ x. x ≡ fault.Memory d) → Reaches asks (Give a) s t → AsksFor (bind asks f) s t view (fault_outcome r)
fault_on {a = a} f r h k = rw (fault_memory r h) (asks_err (f a) (reaches_on f k))

-- what is left of a poll that ran out of memory, where the answer and the record are said by equations
pub left_so : {T R A : Type 0} (polls : R → Asks A) (old : Asks A) (p answer : Result T Refusal) (now left : R) (s t : Seen) → answer ≡ p → left ≡ now → OnErr (outcome p) (Reaches old (polls now) s t) → OnErr (outcome answer) (Reaches old (polls left) s t)
left_so {T} {R} polls old p answer now left s t a l h =
    let P : Result T Refusal → R → Type 0 = λ x k. OnErr (outcome x) (Reaches old (polls k) s t) in
    subst (λ (x : Result T Refusal). P x left) (sym a) (subst (λ (k : R). P p k) (sym l) h)
