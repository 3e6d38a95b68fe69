-- What a pending call gives once it is polled again.
use Rattle.std.specs.Prelude.{◌≡◌, Result, Ok, Err, OnErr, refl}
use Rattle.std.specs.declared.alloc.AllocError.{AllocError}
use Rattle.wasi_world.specs.declared.outcome.Answer.{Answer}
use Rattle.wasi_world.specs.Seen.{Seen}
use Rattle.wasi_world.specs.Asks.{Asks, Give, bind, AsksFor}
use Rattle.wasi_world.proofs.Walks.{reaches_in, asks_end, asks_err}
use Rattle.record_common.specs.Stops.{Stop, Trap}
use Rattle.host_store.specs.declared.kind.Interface.{Interface}
use Rattle.host_store.specs.declared.machine.Machine.{Machine}
use Rattle.host_store.specs.BaseStops.{BaseStop}
use Rattle.wasi_host.specs.declared.pending.Outcome.{Outcome}
use Rattle.host_store.specs.Lines.{storing}
use Rattle.host_store.specs.Machine.{with_store}
use Rattle.wasi_host.specs.Pending.{answered_on, answered_told, blocked_outcome, blocked_told, resolved_on, resolved_told}
use Rattle.host_store.specs.Store.{Records}
use Rattle.wasi_world.specs.declared.outcome.Answer.TheVariants.{Ready, Pending}
use Rattle.host_store.specs.declared.error.CallError.{CallError}
use Rattle.host_store.specs.declared.error.CallError.TheVariants as call
use Rattle.host_streams.specs.Blocking.{Blocked}
use Rattle.host_store.specs.CallStops.{Closed, Failed, call_outcome}
use Rattle.host_lookups.specs.Resolves.{Resolved}

-- as what a pending call gives
pub answered_goes : {A : Type 0} (gives : Answer A → Answer Outcome) (face : Interface) {asks : Asks (Result (Answer A) BaseStop × Machine)} {s t : Seen} {n : Machine} (told : Result (Result (Answer A) BaseStop) AllocError) → AsksFor asks s t (λ (answer : Result (Answer A) BaseStop). (answer, n)) told
    → AsksFor (bind asks (λ done. Give (answered_on gives face done))) s t (λ answer. (answer, n)) (answered_told gives face told)
answered_goes gives face (Ok told) k = asks_end _ k.ok refl
answered_goes gives face (Err e) k = asks_err (bind k.err.rest (λ done. Give (answered_on gives face done))) (reaches_in (λ done. Give (answered_on gives face done)) k.err.reached)

-- the same of a call on the records
pub stored_goes : {A : Type 0} (gives : Answer A → Answer Outcome) (face : Interface) (m : Machine) {asks : Asks (Result (Answer A) BaseStop × Records)} {s t : Seen} {now : Records} (told : Result (Result (Answer A) BaseStop) AllocError) → AsksFor asks s t (λ (answer : Result (Answer A) BaseStop). (answer, now)) told
    → AsksFor (bind asks (λ done. Give (answered_on gives face (with_store m done)))) s t (λ answer. (answer, storing m now)) (answered_told gives face told)
stored_goes gives face m (Ok told) k = asks_end _ k.ok refl
stored_goes gives face m (Err e) k = asks_err (bind k.err.rest (λ done. Give (answered_on gives face (with_store m done)))) (reaches_in (λ done. Give (answered_on gives face (with_store m done))) k.err.reached)

-- what is so out of memory is so whatever interface it answers
pub answered_fails : {A : Type 0} (P : Type 0) (gives : Answer A → Answer Outcome) (face : Interface) (told : Result (Result (Answer A) BaseStop) AllocError) → OnErr told P → OnErr (answered_told gives face told) P
answered_fails P gives face (Ok told) p = tt
answered_fails P gives face (Err e) p = p

-- the outcome of a call that was pending
pub call_outcome_of : {A : Type 0} (gives : A → Outcome) {asks : Asks (Blocked A)} {s t : Seen} (m : Machine) (x : Result (Answer A) CallError) {r : Result (Result (Answer Outcome) Stop) AllocError} → r ≡ blocked_told gives x → AsksFor asks s t (λ y. (y, m)) (call_outcome x)
    → AsksFor (bind asks (λ done. Give (blocked_outcome gives done))) s t (λ y. (y, m)) r
call_outcome_of gives m (Ok (Ready a)) h k = rw h (asks_end _ k.ok refl)
call_outcome_of gives m (Ok Pending) h k = rw h (asks_end _ k.ok refl)
call_outcome_of gives m (Err (call.Failed c n)) h k = rw h (asks_end _ k.ok refl)
call_outcome_of gives m (Err call.Closed) h k = rw h (asks_end _ k.ok refl)
call_outcome_of gives m (Err (call.Trap kind)) h k = rw h (asks_end _ k.ok refl)
call_outcome_of gives m (Err (call.Memory d)) h k = rw h (asks_err (bind k.err.rest _) (reaches_in _ k.err.reached))

-- as what a pending call gives
pub resolved_goes : (m : Machine) {asks : Asks (Resolved × Records)} {s t : Seen} {now : Records} (told : Result Resolved AllocError) → AsksFor asks s t (λ (answer : Resolved). (answer, now)) told
    → AsksFor (bind asks (λ done. Give (resolved_on (with_store m done)))) s t (λ answer. (answer, storing m now)) (resolved_told told)
resolved_goes m (Ok told) k = asks_end _ k.ok refl
resolved_goes m (Err e) k = asks_err (bind k.err.rest (λ done. Give (resolved_on (with_store m done)))) (reaches_in (λ done. Give (resolved_on (with_store m done))) k.err.reached)

-- what is so out of memory is so of it
pub resolved_fails : (P : Type 0) (told : Result Resolved AllocError) → OnErr told P → OnErr (resolved_told told) P
resolved_fails P (Ok told) p = tt
resolved_fails P (Err e) p = p
