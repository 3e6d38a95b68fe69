-- Pipes among the records: the network sockets of the records, and the answers of calls that ask nothing.
use Rattle.std.specs.Borrow.{MutBor}
use Rattle.std.specs.declared.alloc.AllocError.{AllocError}
use Rattle.std.proofs.Common.{◌≡◌, ◌∙◌, ℕ, zero, suc, List, [], ◌∷◌, ◌++◌, Some, None, Result, Ok, Err, IfOk, sym, ap, refl}
use Rattle.std.specs.Prelude.{IsErrAnd, OnErr}
use Rattle.wasi_world.specs.declared.ids.OpId.{OpId}
use Rattle.wasi_world.specs.Asks.{Give, bind, AsksFor}
use Rattle.wasi_world.specs.Seen.{Seen}
use Rattle.wasi_world.proofs.Walks.{asks_given, asks_none, asks_end, reaches_in, asks_err}
use Rattle.wasi_streams.specs.declared.error.StreamError.{StreamError}
use Rattle.wasi_streams.specs.declared.error.StreamError.TheVariants as told
use Rattle.wasi_streams.specs.StreamStop.{StreamStop, stream_outcome}
use Rattle.wasi_streams.specs.declared.fault.Fault.{Fault}
use Rattle.wasi_streams.specs.declared.fault.Fault.TheVariants as fault
use Rattle.memory_streams.specs.Plain.{Contents}
use Rattle.host_store.specs.declared.error.CallError.{CallError}
use Rattle.host_store.specs.declared.kind.Kind.{Kind}
use Rattle.host_store.specs.declared.machine.Machine.{Machine}
use Rattle.wasi_records.specs.declared.records.Record.{Record}
use Rattle.wasi_records.specs.declared.records.Record.TheVariants.{Tcp, Udp, Lookup, InputPipe, OutputPipe, Slot as SlotRecord, Gone}
use Rattle.host_store.specs.CallStops.{CallStop, call_outcome, plain_outcome}
use Rattle.record_common.specs.Stops.{Stop, fault_outcome}
use Rattle.host_store.specs.Kinds.{HandleTable, make_asks}
use Rattle.host_streams.specs.PlainStreams.{pipe_asks, piped, with_contents, with_input_bytes}
use Rattle.wasi_records.specs.Records.{input_pipe_at, input_pipe_put, output_pipe_at, output_pipe_put}
use Rattle.host_store.specs.KnownSides.{KnowsSides}
use Rattle.host_store.specs.Store.{Records}
use Rattle.host_streams.specs.StreamCalls.{plain_done}
use Rattle.host_store.proofs.KnownSides.{knows_same}
use Rattle.wasi_records.proofs.PipeCounts.{held_in-input, held_in-output}

-- what the records know of their network sockets is kept
pub knows_input : {s : Seen} (store : Records) (place : ℕ) (x : MutBor (List ℕ)) (now : List ℕ) → Some x.now ≡ input_pipe_at store.records place → KnowsSides s store → KnowsSides s (with_input_bytes store place now)
knows_input store place x now e k = knows_same store (with_input_bytes store place now) (held_in-input store.records place x.now now (sym e)) k

pub knows_output : {s : Seen} (store : Records) (place : ℕ) (x : MutBor Contents) (now : Contents) → Some x.now ≡ output_pipe_at store.records place → KnowsSides s store → KnowsSides s (with_contents store place now)
knows_output store place x now e k = knows_same store (with_contents store place now) (held_in-output store.records place x.now now (sym e)) k

-- == a pipe that is given back as it was
input_put_same : (xs : List Record) (i : ℕ) (bytes : List ℕ) → input_pipe_at xs i ≡ Some bytes → input_pipe_put xs i bytes ≡ xs
input_put_same [] i bytes h = absurd (cc)
input_put_same (Tcp r ∷ xs) zero bytes h = absurd (cc)
input_put_same (Udp u ∷ xs) zero bytes h = absurd (cc)
input_put_same (Lookup l ∷ xs) zero bytes h = absurd (cc)
input_put_same (OutputPipe p ∷ xs) zero bytes h = absurd (cc)
input_put_same (SlotRecord s ∷ xs) zero bytes h = absurd (cc)
input_put_same (Gone ∷ xs) zero bytes h = absurd (cc)
input_put_same (InputPipe b ∷ xs) zero bytes h = cc
input_put_same (x ∷ xs) (suc i) bytes h = ap (λ (l : List Record). x ∷ l) (input_put_same xs i bytes h)

output_put_same : (xs : List Record) (i : ℕ) (pipe : Contents) → output_pipe_at xs i ≡ Some pipe → output_pipe_put xs i pipe ≡ xs
output_put_same [] i pipe h = absurd (cc)
output_put_same (Tcp r ∷ xs) zero pipe h = absurd (cc)
output_put_same (Udp u ∷ xs) zero pipe h = absurd (cc)
output_put_same (Lookup l ∷ xs) zero pipe h = absurd (cc)
output_put_same (InputPipe b ∷ xs) zero pipe h = absurd (cc)
output_put_same (OutputPipe p ∷ xs) zero pipe h = cc
output_put_same (SlotRecord s ∷ xs) zero pipe h = absurd (cc)
output_put_same (Gone ∷ xs) zero pipe h = absurd (cc)
output_put_same (x ∷ xs) (suc i) pipe h = ap (λ (l : List Record). x ∷ l) (output_put_same xs i pipe h)

pub input_back : (store : Records) (place : ℕ) (x : MutBor (List ℕ)) (now : List ℕ) → Some x.now ≡ input_pipe_at store.records place → now ≡ x.now → with_input_bytes store place now ≡ store
input_back store place x now e n = ap (λ (l : List Record). record store { records = l }) (ap (input_pipe_put store.records place) n ∙ input_put_same store.records place x.now (sym e))

pub output_back : (store : Records) (place : ℕ) (x : MutBor Contents) (now : Contents) → Some x.now ≡ output_pipe_at store.records place → now ≡ x.now → with_contents store place now ≡ store
output_back store place x now e n = ap (λ (l : List Record). record store { records = l }) (ap (output_pipe_put store.records place) n ∙ output_put_same store.records place x.now (sym e))

pub on_err : {T E P Q : Type 0} (r : Result T E) → (P → Q) → OnErr r P → OnErr r Q
on_err (Ok x) f h = h
on_err (Err x) f h = f h

-- == a pipe that is made
pub pipe_made : (m : Machine) (own : OpId) (k : Kind) (r : Record) {records : List Record} {table : HandleTable} {s t : Seen} (x : ℕ) → records ≡ m.store.records ++ r ∷ [] → AsksFor (make_asks m.table own k None None) s t (λ (made : Result ℕ Stop). (made, table)) (Ok (Ok x))
    → AsksFor (pipe_asks m own k r) s t (λ (made : Result ℕ Stop). let n : Machine = record { table = table; store = record { records = records; jobs = m.store.jobs; standing = m.store.standing; beside = m.store.beside; limits = m.store.limits } } in (made, n)) (Ok (Ok x))
pipe_made m own k r x e h = rw e (asks_end (λ made. Give (piped m r made)) h.ok refl)

-- no handle was made for it
pub pipe_refused : (m : Machine) (own : OpId) (k : Kind) (r : Record) {records : List Record} {table : HandleTable} {s t : Seen} (x : Fault) (q : Result ℕ Fault) → records ≡ m.store.records → IsErrAnd q (λ y. y ≡ x)
    → AsksFor (make_asks m.table own k None None) s t (λ (made : Result ℕ Stop). (made, table)) (fault_outcome {T = ℕ} (Err x))
    → AsksFor (pipe_asks m own k r) s t (λ (made : Result ℕ Stop). let n : Machine = record { table = table; store = record { records = records; jobs = m.store.jobs; standing = m.store.standing; beside = m.store.beside; limits = m.store.limits } } in (made, n)) (fault_outcome q)
pipe_refused m own k r x (Ok y) e i h = absurd i
pipe_refused m own k r (fault.Trap kind) (Err y) e i h = rw (e, i) (asks_end (λ made. Give (piped m r made)) h.ok refl)
pipe_refused m own k r (fault.Memory d) (Err y) e i h =
    rw (e, i) (asks_err (bind h.err.rest (λ made. Give (piped m r made))) (reaches_in (λ made. Give (piped m r made)) h.err.reached))

-- == what asks nothing has its tree's answer
pub settled : {A T : Type 0} {s : Seen} {view : T → A} {value : A} (r : Result T AllocError) → IfOk r (λ x. view x ≡ value) → AsksFor (Give value) s s view r
settled (Ok x) e = asks_given x (Ok x) refl (ap Give (sym e))
settled {value} (Err d) e = asks_none (λ a. Unit {0}) (Give value) tt refl

-- the answer of a call of a stream that doesn't fail
plain_said : {T : Type 0} (r : Result T StreamError) (m : Machine) (now : Records) (v : Result T StreamStop × Records) → IfOk (stream_outcome r) (λ a. (a, now) ≡ v)
    → IfOk (plain_outcome r) (λ a. let after : Machine = record m { store = now } in (a, after) ≡ plain_done m v)
plain_said (Ok x) m now v e = ap (plain_done m) e
plain_said (Err (told.LastOperationFailed c)) m now v e = ap (plain_done m) e
plain_said (Err told.Closed) m now v e = ap (plain_done m) e
plain_said (Err (told.Trap k)) m now v e = ap (plain_done m) e
plain_said (Err (told.Memory d)) m now v e = tt

pub plain_asks : {T : Type 0} {s : Seen} (m : Machine) (now : Records) (v : Result T StreamStop × Records) (r : Result T StreamError) (q : Result T CallError) → call_outcome q ≡ plain_outcome r → IfOk (stream_outcome r) (λ a. (a, now) ≡ v)
    → AsksFor (Give (plain_done m v)) s s (λ (x : Result T CallStop). let after : Machine = record m { store = now } in (x, after)) (call_outcome q)
plain_asks m now v r q o e = rw o (settled (plain_outcome r) (plain_said r m now v e))
