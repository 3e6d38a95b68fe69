-- The calls of streams that block: where there is nothing yet the call is pending, and continues later. What a call asks, also when
-- it is continued, carries the name of the line that began it.
use Rattle.std.specs.Prelude.{ℕ, zero, suc, min, nat_lt, ◌==◌, Bool, true, false, if◌then◌else◌, List, [], ◌∷◌, length, take, drop, Option, Some, None, Result, Ok, Err}
use Rattle.wasi_world.specs.declared.ids.OpId.{OpId}
use Rattle.wasi_world.specs.declared.ids.Ids.{Ids}
use Rattle.wasi_world.specs.declared.outcome.Answer.{Answer}
use Rattle.wasi_world.specs.declared.outcome.Answer.TheVariants.{Ready, Pending}
use Rattle.wasi_world.specs.declared.outcome.TrapKind.TheVariants.{NoSuchHandle, TooLong}
use Rattle.wasi_world.specs.Asks.{Asks, Give, bind}
use Rattle.wasi_streams.specs.Streams.{zeros}
use Rattle.host_store.specs.declared.kind.PlainInput.{PlainInput}
use Rattle.host_store.specs.declared.machine.Machine.{Machine}
use Rattle.tcp_records.specs.declared.socket.TcpRecord.{TcpRecord}
use Rattle.host_store.specs.declared.store.BlockingCall.{BlockingCall}
use Rattle.host_store.specs.declared.store.BlockingCall.TheVariants.{Read, Skip, Write, Finish, Flush, Splice, Block, Poll}
use Rattle.host_store.specs.declared.store.StandingCall.TheVariants.{Blocking}
use Rattle.record_common.specs.Stops.{Stop, Code, Trap}
use Rattle.host_store.specs.CallStops.{CallStop, Closed, Failed, Traps}
use Rattle.host_store.specs.Kinds.{kind_at, is_readable, is_writable}
use Rattle.host_store.specs.Machine.{input_at}
use Rattle.record_common.specs.Names.{own_of}
use Rattle.tcp_records.specs.Looks.{ready_reader}
use Rattle.host_store.specs.Readiness.{ready_put}
use Rattle.wasi_records.specs.Records.{tcp2_at}
use Rattle.host_store.specs.Standing.{standing_as}
use Rattle.host_store.specs.Store.{Records}
use Rattle.host_streams.specs.StreamCalls.{plain_input_at, read_asks, skip_asks, check_asks, write_asks, flushed_asks}
use Rattle.host_store.specs.CallStops as host
use Rattle.std.specs.declared.alloc.AllocError.{AllocError}
use Rattle.host_store.specs.declared.error.CallError.{CallError}
use Rattle.host_store.specs.declared.error.CallError.TheVariants as call

-- the handles that a call is on
abbrev pub blocking_handles : BlockingCall → List ℕ
blocking_handles (Read input len) = input ∷ []
blocking_handles (Skip input len) = input ∷ []
blocking_handles (Write output rest) = output ∷ []
blocking_handles (Finish output) = output ∷ []
blocking_handles (Flush output) = output ∷ []
blocking_handles (Splice to from len) = to ∷ from ∷ []
blocking_handles (Block pollable) = pollable ∷ []
blocking_handles (Poll pollables) = pollables

-- what a call gives, or why it doesn't, or that it is pending
abbrev pub Blocked : Type 0 → Type 0
Blocked A = Result (Answer A) CallStop × Machine

-- the call is pending, and continues so
abbrev pub waits_as : {A : Type 0} → Ids → BlockingCall → Machine → Blocked A
waits_as ids call m = (Ok Pending, record m { store = record m.store { standing = Some (standing_as ids (Blocking call)) } })

abbrev pub stops : {A : Type 0} → CallStop → Machine → Blocked A
stops stop m = (Err stop, m)

-- == whether there is something to read
-- a look gives no code
abbrev pub look_stop : Stop → CallStop
look_stop (Trap kind) = Traps kind
look_stop (Code c) = Traps NoSuchHandle

abbrev pub look_at : Records → OpId → ℕ → Option TcpRecord → Asks (Result Bool Stop × Records)
look_at store own place None = Give (Err (Trap NoSuchHandle), store)
look_at store own place (Some r) = bind (ready_reader own r r.streams) (λ done. Give (ready_put store place done))

abbrev pub looked : Machine → Result Bool Stop × Records → Result Bool CallStop × Machine
looked m (Ok ready, store) = (Ok ready, record m { store = store })
looked m (Err stop, store) = (Err (look_stop stop), record m { store = store })

abbrev pub look_on : Machine → OpId → Option ℕ → Asks (Result Bool CallStop × Machine)
look_on m own None = Give (Err (Traps NoSuchHandle), m)
look_on m own (Some place) = bind (look_at m.store own place (tcp2_at m.store.records place)) (λ done. Give (looked m done))

abbrev pub look_by : Machine → OpId → ℕ → Option PlainInput → Asks (Result Bool CallStop × Machine)
look_by m own input (Some plain) = Give (Ok true, m)
look_by m own input None = look_on m own (input_at m input)

-- an input of no connection is always ready
abbrev pub look_asks : Machine → OpId → ℕ → Asks (Result Bool CallStop × Machine)
look_asks m own input = look_by m own input (plain_input_at m input)

-- == a read, and a skip
-- no bytes are an answer where none were wanted
abbrev pub read_answer : Ids → ℕ → ℕ → Result (List ℕ) CallStop × Machine → Blocked (List ℕ)
read_answer ids input len (Ok [], m) = if len == 0 then (Ok (Ready []), m) else waits_as ids (Read input len) m
read_answer ids input len (Ok (b ∷ bytes), m) = (Ok (Ready (b ∷ bytes)), m)
read_answer ids input len (Err stop, m) = stops stop m

abbrev pub read_looked : Ids → ℕ → ℕ → Result Bool CallStop × Machine → Asks (Blocked (List ℕ))
read_looked ids input len (Ok true, m) = bind (read_asks m (own_of ids.line) input len) (λ done. Give (read_answer ids input len done))
read_looked ids input len (Ok false, m) = Give (waits_as ids (Read input len) m)
read_looked ids input len (Err stop, m) = Give (stops stop m)

abbrev pub blocking_read_asks : Machine → Ids → ℕ → ℕ → Asks (Blocked (List ℕ))
blocking_read_asks m ids input len = bind (look_asks m (own_of ids.line) input) (λ done. read_looked ids input len done)

abbrev pub skip_answer : Ids → ℕ → ℕ → Result ℕ CallStop × Machine → Blocked ℕ
skip_answer ids input len (Ok zero, m) = if len == 0 then (Ok (Ready 0), m) else waits_as ids (Skip input len) m
skip_answer ids input len (Ok (suc n), m) = (Ok (Ready (suc n)), m)
skip_answer ids input len (Err stop, m) = stops stop m

abbrev pub skip_looked : Ids → ℕ → ℕ → Result Bool CallStop × Machine → Asks (Blocked ℕ)
skip_looked ids input len (Ok true, m) = bind (skip_asks m (own_of ids.line) input len) (λ done. Give (skip_answer ids input len done))
skip_looked ids input len (Ok false, m) = Give (waits_as ids (Skip input len) m)
skip_looked ids input len (Err stop, m) = Give (stops stop m)

abbrev pub blocking_skip_asks : Machine → Ids → ℕ → ℕ → Asks (Blocked ℕ)
blocking_skip_asks m ids input len = bind (look_asks m (own_of ids.line) input) (λ done. skip_looked ids input len done)

-- == a flush
abbrev pub flush_checked : Ids → ℕ → Result ℕ CallStop × Machine → Blocked (Unit {0})
flush_checked ids output (Ok zero, m) = waits_as ids (Flush output) m
flush_checked ids output (Ok (suc n), m) = (Ok (Ready tt), m)
flush_checked ids output (Err stop, m) = stops stop m

abbrev pub flush_begun : Ids → ℕ → Result (Unit {0}) CallStop × Machine → Asks (Blocked (Unit {0}))
flush_begun ids output (Ok done, m) = bind (check_asks m (own_of ids.line) output) (λ checked. Give (flush_checked ids output checked))
flush_begun ids output (Err stop, m) = Give (stops stop m)

abbrev pub blocking_flush_asks : Machine → Ids → ℕ → Asks (Blocked (Unit {0}))
blocking_flush_asks m ids output = bind (flushed_asks m (own_of ids.line) output) (λ done. flush_begun ids output done)

-- == a write: all is written, and then flushed
-- once all is written, a stream that is closed has taken it
abbrev pub write_ended : CallStop → Machine → Blocked (Unit {0})
write_ended Closed m = (Ok (Ready tt), m)
write_ended (Failed c e) m = (Err (Failed c e), m)
write_ended (Traps kind) m = (Err (Traps kind), m)

abbrev pub last_checked : Ids → ℕ → Result ℕ CallStop × Machine → Blocked (Unit {0})
last_checked ids output (Ok zero, m) = waits_as ids (Finish output) m
last_checked ids output (Ok (suc n), m) = (Ok (Ready tt), m)
last_checked ids output (Err stop, m) = write_ended stop m

abbrev pub last_check_asks : Machine → Ids → ℕ → Asks (Blocked (Unit {0}))
last_check_asks m ids output = bind (check_asks m (own_of ids.line) output) (λ checked. Give (last_checked ids output checked))

abbrev pub finish_flushed : Ids → ℕ → Result (Unit {0}) CallStop × Machine → Asks (Blocked (Unit {0}))
finish_flushed ids output (Ok done, m) = last_check_asks m ids output
finish_flushed ids output (Err stop, m) = Give (write_ended stop m)

abbrev pub finish_write_asks : Machine → Ids → ℕ → Asks (Blocked (Unit {0}))
finish_write_asks m ids output = bind (flushed_asks m (own_of ids.line) output) (λ done. finish_flushed ids output done)

-- how a write continues with what isn't written yet
abbrev pub Again : Type 0
Again = Machine → List ℕ → Asks (Blocked (Unit {0}))

abbrev pub round_written : Ids → ℕ → Again → List ℕ → Result (Unit {0}) CallStop × Machine → Asks (Blocked (Unit {0}))
round_written ids output again rest (Err stop, m) = Give (stops stop m)
round_written ids output again [] (Ok done, m) = finish_write_asks m ids output
round_written ids output again (b ∷ rest) (Ok done, m) = again m (b ∷ rest)

abbrev pub round_checked : Ids → ℕ → Again → List ℕ → Result ℕ CallStop × Machine → Asks (Blocked (Unit {0}))
round_checked ids output again rest (Ok zero, m) = Give (waits_as ids (Write output rest) m)
round_checked ids output again rest (Ok (suc n), m) =
    bind (write_asks m (own_of ids.line) output (take (suc n) rest)) (λ done. round_written ids output again (drop (suc n) rest) done)
round_checked ids output again rest (Err stop, m) = Give (stops stop m)

-- so many rounds at most, each of which writes as much as is permitted; there is one also where there is nothing to write
abbrev pub write_rounds : ℕ → Ids → ℕ → Again
write_rounds zero ids output = λ m rest. Give (waits_as ids (Write output rest) m)
write_rounds (suc k) ids output = λ m rest. bind (check_asks m (own_of ids.line) output) (λ checked. round_checked ids output (write_rounds k ids output) rest checked)

-- each round writes a byte at least where there are any, and there are at most 4096
abbrev pub write_rest_asks : Machine → Ids → ℕ → List ℕ → Asks (Blocked (Unit {0}))
write_rest_asks m ids output rest = write_rounds 4096 ids output m rest

abbrev pub write_when : Machine → Ids → ℕ → List ℕ → Bool → Bool → Asks (Blocked (Unit {0}))
write_when m ids output bytes false too_long = Give (stops (Traps NoSuchHandle) m)
write_when m ids output bytes true true = Give (stops (Traps TooLong) m)
write_when m ids output bytes true false = write_rest_asks m ids output bytes

abbrev pub blocking_write_asks : Machine → Ids → ℕ → List ℕ → Asks (Blocked (Unit {0}))
blocking_write_asks m ids output bytes = write_when m ids output bytes (is_writable (kind_at m.table output)) (nat_lt 4096 (length bytes))

abbrev pub zeroes_when : Machine → Ids → ℕ → ℕ → Bool → Bool → Asks (Blocked (Unit {0}))
zeroes_when m ids output len false too_long = Give (stops (Traps NoSuchHandle) m)
zeroes_when m ids output len true true = Give (stops (Traps TooLong) m)
zeroes_when m ids output len true false = write_rest_asks m ids output (zeros len)

abbrev pub blocking_zeroes_asks : Machine → Ids → ℕ → ℕ → Asks (Blocked (Unit {0}))
blocking_zeroes_asks m ids output len = zeroes_when m ids output len (is_writable (kind_at m.table output)) (nat_lt 4096 len)

-- == a splice
abbrev pub splice_written : ℕ → Result (Unit {0}) CallStop × Machine → Blocked ℕ
splice_written count (Ok done, m) = (Ok (Ready count), m)
splice_written count (Err stop, m) = stops stop m

abbrev pub splice_given : Ids → ℕ → ℕ → ℕ → Result (List ℕ) CallStop × Machine → Asks (Blocked ℕ)
splice_given ids to from len (Ok [], m) = Give (waits_as ids (Splice to from len) m)
splice_given ids to from len (Ok (b ∷ bytes), m) = bind (write_asks m (own_of ids.line) to (b ∷ bytes)) (λ done. Give (splice_written (length (b ∷ bytes)) done))
splice_given ids to from len (Err stop, m) = Give (stops stop m)

abbrev pub splice_looked : Ids → ℕ → ℕ → ℕ → ℕ → Result Bool CallStop × Machine → Asks (Blocked ℕ)
splice_looked ids to from len count (Ok true, m) = bind (read_asks m (own_of ids.line) from count) (λ read. splice_given ids to from len read)
splice_looked ids to from len count (Ok false, m) = Give (waits_as ids (Splice to from len) m)
splice_looked ids to from len count (Err stop, m) = Give (stops stop m)

-- so many bytes are to be read, and may be written
abbrev pub splice_count : Ids → ℕ → ℕ → ℕ → Machine → ℕ → Asks (Blocked ℕ)
splice_count ids to from len m zero = Give (Ok (Ready 0), m)
splice_count ids to from len m (suc count) = bind (look_asks m (own_of ids.line) from) (λ ready. splice_looked ids to from len (suc count) ready)

abbrev pub splice_permitted : Ids → ℕ → ℕ → ℕ → Result ℕ CallStop × Machine → Asks (Blocked ℕ)
splice_permitted ids to from len (Ok zero, m) = Give (waits_as ids (Splice to from len) m)
splice_permitted ids to from len (Ok (suc n), m) = splice_count ids to from len m (min (suc n) len)
splice_permitted ids to from len (Err stop, m) = Give (stops stop m)

-- both handles are tested before anything is asked
abbrev pub blocking_splice_when : Machine → Ids → ℕ → ℕ → ℕ → Bool → Bool → Asks (Blocked ℕ)
blocking_splice_when m ids to from len true true = bind (check_asks m (own_of ids.line) to) (λ checked. splice_permitted ids to from len checked)
blocking_splice_when m ids to from len true false = Give (stops (Traps NoSuchHandle) m)
blocking_splice_when m ids to from len false reads = Give (stops (Traps NoSuchHandle) m)

abbrev pub blocking_splice_asks : Machine → Ids → ℕ → ℕ → ℕ → Asks (Blocked ℕ)
blocking_splice_asks m ids to from len = blocking_splice_when m ids to from len (is_writable (kind_at m.table to)) (is_readable (kind_at m.table from))

-- once all is written, a stream that is closed has taken it
abbrev pub write_told : CallError → Result (Result (Answer (Unit {0})) CallStop) AllocError
write_told (call.Failed c e) = Ok (Err (host.Failed c e))
write_told call.Closed = Ok (Ok (Ready tt))
write_told (call.Trap kind) = Ok (Err (host.Traps kind))
write_told (call.Memory e) = Err e
