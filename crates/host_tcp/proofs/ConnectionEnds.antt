-- The ends of a 0.3 connection's streams: what the code does to their slots, and where memory runs out.
use Rattle.std.specs.Prelude.{◌≡◌, ℕ, List, Some, Result, Ok, Err, IfOk, IsErrAnd}
use Rattle.std.specs.declared.alloc.AllocError.{AllocError}
use Rattle.std.proofs.Common.{sym, subst, ◌∙◌}
use Rattle.wasi_world.specs.Seen.{Seen}
use Rattle.wasi_world.specs.Asks.{Asks, bind, AsksFor, Started}
use Rattle.wasi_world.proofs.Walks.{asks_err, reaches_in}
use Rattle.wasi_streams.specs.declared.fault.HostError.{HostError}
use Rattle.wasi_streams.specs.declared.fault.HostError.TheVariants as error
use Rattle.wasi_records.specs.declared.records.Record.{Record}
use Rattle.tcp_records.specs.declared.slot.Slot.{Slot}
use Rattle.tcp_records.specs.declared.socket.TcpRecord.{TcpRecord}
use Rattle.wasi_records.specs.Records.{tcp2_at, tcp2_put}
use Rattle.wasi_records.specs.Sides.{held_in}
use Rattle.wasi_records.specs.Records.{slot_pushed}
use Rattle.record_common.specs.Stops.{StopOf}
use Rattle.wasi_records.proofs.SideCounts.{held_in-set}
use Rattle.wasi_records.proofs.SlotCounts.{held_in-slot_pushed}
use Rattle.wasi_tcp.specs.Socket.{side_of}
use Rattle.host_store.specs.BaseStops.{ends_as}

-- == out of memory
-- there is no answer
pub no_answer : {C T : Type 0} (P : Result T (StopOf C) → Type 0) {d : AllocError} (r : Result T (HostError C)) → IsErrAnd r (λ x. x ≡ error.Memory d) → IfOk (ends_as r) P
no_answer P (Ok v) h = absurd h
no_answer {C} {T} P (Err x) h = let Q : HostError C → Type 0 = λ y. IfOk (ends_as {T = T} (Err y)) P in subst Q (sym h) tt

-- in the first part of a part
pub started_in : {A B : Type 0} {asks : Asks A} (f : A → Asks B) {s t : Seen} → Started asks s t → Started (bind asks f) s t
started_in f k = record { rest = bind k.rest f; reached = reaches_in f k.reached }

-- in a part of a call
pub memory_exit : {C A B T : Type 0} {asks : Asks A} (f : A → Asks B) {s t : Seen} {view : Result T (StopOf C) → B} {d : AllocError} (r : Result T (HostError C)) → IsErrAnd r (λ x. x ≡ error.Memory d) → Started asks s t → AsksFor (bind asks f) s t view (ends_as r)
memory_exit f (Ok v) h k = absurd h
memory_exit {C} {T = T} {asks} f {s} {t} {view} (Err x) h k =
    let Q : HostError C → Type 0 = λ y. AsksFor (bind asks f) s t view (ends_as {T = T} (Err y)) in subst Q (sym h) (asks_err (bind k.rest f) (reaches_in f k.reached))

-- == slots
-- a half that is taken, and the slot of its end, hold no other network socket
pub held_by_end : (rs : List Record) (place : ℕ) (old now : TcpRecord) (s : Slot) → tcp2_at rs place ≡ Some old → side_of now.inner ≡ side_of old.inner → now.listening ≡ old.listening → held_in (slot_pushed (tcp2_put rs place now) s) ≡ held_in rs
held_by_end rs place old now s g e l = held_in-slot_pushed (tcp2_put rs place now) s ∙ held_in-set rs place old now g e l
