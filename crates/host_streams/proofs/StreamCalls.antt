-- How a stream's call continues where it gives no value.
use Rattle.std.specs.Prelude.{◌≡◌, ℕ, Option, Some, Result, Ok, Err, IfOk, IfErr, IsErrAnd, refl}
use Rattle.std.specs.declared.alloc.AllocError.{AllocError}
use Rattle.std.proofs.Common.{ap, sym, subst, ◌∙◌}
use Rattle.wasi_addr.specs.declared.code.ErrorCode.{ErrorCode}
use Rattle.wasi_world.specs.Seen.{Seen}
use Rattle.wasi_world.specs.declared.ids.OpId.{OpId}
use Rattle.wasi_world.specs.Asks.{Asks, Give, bind, Started, AsksFor}
use Rattle.wasi_world.specs.declared.outcome.TrapKind.TheVariants.{NoSuchHandle}
use Rattle.wasi_world.proofs.Walks.{reaches_all, reaches_in, asks_end, asks_then, asks_err}
use Rattle.wasi_streams.specs.declared.error.StreamError.{StreamError}
use Rattle.wasi_streams.specs.declared.error.StreamError.TheVariants as told
use Rattle.wasi_streams.specs.StreamStop.{StreamStop, stream_outcome}
use Rattle.wasi_streams.specs.StreamStop as stop
use Rattle.wasi_records.specs.Records.{tcp2_at}
use Rattle.host_store.specs.declared.error.CallError.{CallError}
use Rattle.host_store.specs.declared.error.CallError.TheVariants as call
use Rattle.wasi_streams.specs.declared.fault.Fault.{Fault}
use Rattle.wasi_streams.specs.declared.fault.Fault.TheVariants as fault
use Rattle.host_store.specs.declared.machine.Machine.{Machine}
use Rattle.host_store.specs.declared.kind.Kind.TheVariants.{ErrorValue}
use Rattle.host_store.specs.CallStops.{CallStop, Traps, call_fault, call_outcome, error_outcome, failed_outcome, IsStreamStop, IfStreamMemory}
use Rattle.record_common.specs.Stops.{fault_outcome}
use Rattle.host_store.specs.Kinds.{HandleTable, make_asks}
use Rattle.host_store.specs.Store.{Records}
use Rattle.host_store.specs.Machine.{with_store, side_at}
use Rattle.host_streams.specs.StreamCalls.{convert_asks, stopped, converted}

module _ (m : Machine) (own : OpId) (handle place : ℕ) where
  -- the handle of an error
  pub made_failed : (c : ErrorCode) {table : HandleTable} (made : Result ℕ Fault) {side : Option OpId} {s t : Seen} → side ≡ side_at (tcp2_at m.store.records place)
      → AsksFor (make_asks m.table own ErrorValue (Some handle) side) s t (λ x. (x, table)) (fault_outcome made)
      → AsksFor (convert_asks m own handle place (stop.Failed c)) s t (λ x. let after : Machine = record m { table = table } in (x, after)) (failed_outcome c made)
  made_failed c (Ok e) p h = asks_end _ (rw p at h).ok refl
  made_failed c (Err (fault.Trap k)) p h = asks_end _ (rw p at h).ok refl
  made_failed c (Err (fault.Memory e)) p h = let k = (rw p at h).err in asks_err (bind k.rest _) (reaches_in _ k.reached)

  -- an error that was made is the call's
  pub stopped_by : {T : Type 0} {asks : Asks (CallStop × Machine)} {s t : Seen} {after : Machine} (r : CallError) → AsksFor asks s t (λ x. (x, after)) (error_outcome r)
      → AsksFor (bind asks (λ c. Give (stopped {T = T} c))) s t (λ x. (x, after)) (call_outcome {T = T} (Err r))
  stopped_by (call.Failed c e) h = asks_end _ h.ok refl
  stopped_by call.Closed h = asks_end _ h.ok refl
  stopped_by (call.Trap k) h = asks_end _ h.ok refl
  stopped_by (call.Memory e) h = asks_err (bind h.err.rest _) (reaches_in _ h.err.reached)

  -- the error of a call on a connection is converted
  pub answer_err : (T : Type 0) (s t : Seen) (after : Machine) (x : StreamError) (r : CallError) → IsStreamStop x
      (λ why. AsksFor (convert_asks m own handle place why) s t (λ c. (c, after)) (error_outcome r))
      → IfOk (stream_outcome {T = T} (Err x)) (λ told. AsksFor (converted own handle place (told, m)) s t (λ y.
      (y, after)) (call_outcome {T = T} (Err r)))
  answer_err T s t after (told.LastOperationFailed c) r h = stopped_by r h
  answer_err T s t after told.Closed r h = stopped_by r h
  answer_err T s t after (told.Trap kind) r h = stopped_by r h
  answer_err T s t after (told.Memory e) r h = tt

  abbrev After : Records → Machine
  After store = record m { store = store }

  -- a call on a connection, and then its answer
  pub answered_after : {T : Type 0} {tree : Asks (Result T StreamStop × Records)} {store : Records} {s t u : Seen}
      {after : Machine} (answer : Result T StreamError) (r : Result T CallError)
      → AsksFor tree s t (λ a. (a, store)) (stream_outcome answer)
      → IfOk (stream_outcome answer) (λ said. AsksFor (converted own handle place (said, After store)) t u (λ x.
      (x, after)) (call_outcome r))
      → IfErr (stream_outcome answer) (λ e. (call_outcome r ≡ Err e) × (after ≡ After store) × (u ≡ t))
      → AsksFor (bind tree (λ done. converted own handle place (with_store m done))) s u (λ y. (y, after))
      (call_outcome r)
  answered_after (Ok value) r h k z = asks_then _ h.ok k
  answered_after (Err (told.LastOperationFailed c)) r h k z = asks_then _ h.ok k
  answered_after (Err told.Closed) r h k z = asks_then _ h.ok k
  answered_after (Err (told.Trap kind)) r h k z = asks_then _ h.ok k
  answered_after (Err (told.Memory e)) r h k z = rw (z.0, z.2) (asks_err (bind h.err.rest _)
      (reaches_in _ h.err.reached))

-- out of memory, it stays so
pub answer_memory : (T : Type 0) (s t : Seen) (before after : Machine) (x : StreamError) (r : CallError)
    → IfStreamMemory x (λ e. (r ≡ call.Memory e) × (after ≡ before) × (t ≡ s))
    → IfErr (stream_outcome {T = T} (Err x)) (λ e. (call_outcome {T = T} (Err r) ≡ Err e) × (after ≡ before) × (t ≡ s))
answer_memory T s t before after (told.LastOperationFailed c) r h = tt
answer_memory T s t before after told.Closed r h = tt
answer_memory T s t before after (told.Trap kind) r h = tt
answer_memory T s t before after (told.Memory e) r h = (
  ap (λ (y : CallError). call_outcome {T = T}
      (Err y)) h.0,
  h.1,
  h.2,
)

-- out of memory in a call
call_memory : {T : Type 0} {d : AllocError} (r : Result T CallError) → IsErrAnd r (λ x. x ≡ call.Memory d) → call_outcome r ≡ Err d
call_memory (Ok x) h = absurd h
call_memory (Err x) h = ap (λ (y : CallError). call_outcome (Err y)) h

pub call_exit : {A B T : Type 0} {asks : Asks A} (f : A → Asks B) {s t : Seen} {view : Result T CallStop → B} {d : AllocError} (r : Result T CallError) → IsErrAnd r (λ x. x ≡ call.Memory d) → Started asks s t → AsksFor (bind asks f) s t view (call_outcome r)
call_exit f r h k = rw (call_memory r h) (asks_err (bind k.rest f) (reaches_in f k.reached))

-- a handle that names no stream, before anything is asked
pub none_named : {A B T : Type 0} (f : A → Asks B) (a : A) {s : Seen} {view : Result T CallStop → B} (x : Fault)
    (r : Result T CallError) → IsErrAnd r (λ y. y ≡ call_fault x) → x ≡ fault.Trap NoSuchHandle → f a ≡ Give (view
    (Err (Traps NoSuchHandle)))
    → AsksFor (bind (Give a) f) s s view (call_outcome r)
none_named f a x (Ok y) h p e = absurd h
none_named f a {s} {view} x (Err y) h p e =
    let P : CallError → Type 0 = λ z. AsksFor (bind (Give a) f) s s view (call_outcome (Err z)) in
    subst P (sym (h ∙ ap call_fault p)) (asks_end f (reaches_all (Give a) s) e)
