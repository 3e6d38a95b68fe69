-- The bytes of the writes that calls let begin on a network socket, along the entries that answer what they ask: a write begins
-- once all that is asked before it is answered, in the state that this leaves.
use Rattle.std.specs.Prelude.{◌≡◌, ℕ, zero, suc, min, nat_lt, ◌&&◌, not, Bool, true, false, if◌then◌else◌, List, [], ◌∷◌, ◌++◌, length, take, drop, Option, Some, None, option_map, Result, Ok, Err, IsSomeAnd}
use Rattle.wasi_world.specs.declared.ids.OpId.{OpId}
use Rattle.wasi_world.specs.declared.call.Entry.{Entry}
use Rattle.wasi_world.specs.Asks.{Asks, Give, Ask, AskWrite}
use Rattle.wasi_world.specs.Sides.{is_same}
use Rattle.wasi_tcp.specs.declared.writer.WriteState.{WriteState}
use Rattle.wasi_tcp.specs.declared.writer.WriteState.TheVariants as writing
use Rattle.wasi_tcp.specs.Writer.{writer_side}
use Rattle.host_store.specs.declared.store.BlockingCall.{BlockingCall}
use Rattle.host_store.specs.declared.store.BlockingCall.TheVariants.{Write, Splice}
use Rattle.host_store.specs.declared.machine.Machine.{Machine}
use Rattle.tcp_records.specs.declared.socket.Streams.{Streams}
use Rattle.tcp_records.specs.declared.socket.TcpRecord.{TcpRecord}
use Rattle.host_store.specs.declared.store.Standing.{Standing}
use Rattle.host_store.specs.declared.store.StandingCall.{StandingCall}
use Rattle.host_store.specs.declared.store.StandingCall.TheVariants.{Blocking}
use Rattle.host_streams.specs.Blocking.{look_asks}
use Rattle.host_store.specs.CallStops.{CallStop}
use Rattle.host_store.specs.Kinds.{kind_at, is_readable, is_writable}
use Rattle.host_store.specs.Machine.{output_at, send3_at}
use Rattle.host_store.specs.declared.kind.ConnectionEnd.{ConnectionEnd}
use Rattle.tcp_records.specs.Ends.{half_of, send_half}
use Rattle.wasi_records.specs.Records.{tcp2_at}
use Rattle.wasi_tcp.specs.Taken.{took}
use Rattle.wasi_tcp.specs.declared.halves.TcpSendStream.{TcpSendStream}
use Rattle.record_common.specs.Names.{own_of}
use Rattle.host_store.specs.Standing.{unstood}
use Rattle.host_streams.specs.StreamCalls.{read_asks, check_asks, write_asks}
use Rattle.wasi_walks.specs.Answered.{record_in}

-- == a tree along entries
-- what it gives, where the first of these entries answer all that it asks, and the entries after them
abbrev pub run_front : {A : Type 0} → Asks A → List Entry → Option (A × List Entry)
run_front (Give a) entries = Some (a, entries)
run_front (Ask op call next) [] = None
run_front (Ask op call next) (e ∷ entries) = run_front (next e.answer) entries
run_front (AskWrite op sock bytes next) [] = None
run_front (AskWrite op sock bytes next) (e ∷ entries) = run_front (next e.answer) entries

-- what is let begin after it, by what it gave and the entries that are left
abbrev pub let_by : {A : Type 0} → (A → List Entry → List ℕ) → Option (A × List Entry) → List ℕ
let_by next None = []
let_by next (Some (a, entries)) = next a entries

abbrev pub let_after : {A : Type 0} → Asks A → (A → List Entry → List ℕ) → List Entry → List ℕ
let_after asks next entries = let_by next (run_front asks entries)

-- == a write
-- the writer that an output names
abbrev pub writer_in : Option Streams → Option WriteState
writer_in streams = option_map (λ (s : Streams). s.writer) streams

abbrev pub writer_of_record : Option TcpRecord → Option WriteState
writer_of_record (Some r) = writer_in r.streams
writer_of_record None = None

abbrev pub writer_at : Machine → ℕ → Option WriteState
writer_at m output = writer_of_record (record_in m (output_at m output))

-- the output is live, and writes to this network socket
abbrev pub WritesTo : Machine → ℕ → OpId → Type 0
WritesTo m output side = IsSomeAnd (writer_at m output) (λ w. writer_side w ≡ Some side)

-- all of the bytes, where they are within the permit
abbrev pub within : ℕ → List ℕ → List ℕ
within permit bytes = if nat_lt permit (length bytes) then [] else bytes

-- only a writer that is ready lets a write begin, on its own network socket
abbrev pub let_begin : OpId → List ℕ → Option WriteState → List ℕ
let_begin side bytes (Some (writing.Ready half permit)) = if is_same half.side side then within permit bytes else []
let_begin side bytes _ = []

-- of these bytes, to an output
abbrev pub let_write : OpId → Machine → ℕ → List ℕ → List ℕ
let_write side m output bytes = let_begin side bytes (writer_at m output)

-- == a splice
-- what was read is written
abbrev pub let_read : OpId → ℕ → Result (List ℕ) CallStop × Machine → List Entry → List ℕ
let_read side to (Ok bytes, m) entries = let_write side m to bytes
let_read side to (Err stop, m) entries = []

-- so many bytes are read
abbrev pub LetCount : Type 0
LetCount = Machine → ℕ → List Entry → List ℕ

abbrev pub let_count : OpId → OpId → ℕ → ℕ → LetCount
let_count side own to from m zero entries = []
let_count side own to from m (suc count) entries = let_after (read_asks m own from (suc count)) (let_read side to) entries

-- where the call blocks, once there is something to read
abbrev pub let_looked : OpId → OpId → ℕ → ℕ → ℕ → Result Bool CallStop × Machine → List Entry → List ℕ
let_looked side own to from count (Ok true, m) entries = let_after (read_asks m own from count) (let_read side to) entries
let_looked side own to from count (Ok false, m) entries = []
let_looked side own to from count (Err stop, m) entries = []

abbrev pub let_blocking_count : OpId → OpId → ℕ → ℕ → LetCount
let_blocking_count side own to from m zero entries = []
let_blocking_count side own to from m (suc count) entries = let_after (look_asks m own from) (let_looked side own to from (suc count)) entries

-- as many as are permitted, at most
abbrev pub let_permitted : LetCount → ℕ → Result ℕ CallStop × Machine → List Entry → List ℕ
let_permitted count len (Ok permit, m) entries = count m (min permit len) entries
let_permitted count len (Err stop, m) entries = []

-- both handles are tested before anything is asked
abbrev pub let_splice_by : LetCount → Machine → OpId → ℕ → ℕ → ℕ → List Entry → List ℕ
let_splice_by count m own to from len entries =
    if is_writable (kind_at m.table to) && is_readable (kind_at m.table from) then let_after (check_asks m own to) (let_permitted count len) entries else []

abbrev pub let_splice : OpId → Machine → OpId → ℕ → ℕ → ℕ → List Entry → List ℕ
let_splice side m own to from len entries = let_splice_by (let_count side own to from) m own to from len entries

abbrev pub let_blocking_splice : OpId → Machine → OpId → ℕ → ℕ → ℕ → List Entry → List ℕ
let_blocking_splice side m own to from len entries = let_splice_by (let_blocking_count side own to from) m own to from len entries

-- == a write that blocks, in rounds
-- how it goes on with what isn't written yet
abbrev pub LetAgain : Type 0
LetAgain = Machine → List ℕ → List Entry → List ℕ

abbrev pub let_rest : LetAgain → List ℕ → Result (Unit {0}) CallStop × Machine → List Entry → List ℕ
let_rest again rest (Err stop, m) entries = []
let_rest again [] (Ok done, m) entries = []
let_rest again (b ∷ rest) (Ok done, m) entries = again m (b ∷ rest) entries

-- each round writes as much as is permitted
abbrev pub let_round : OpId → OpId → ℕ → LetAgain → List ℕ → Result ℕ CallStop × Machine → List Entry → List ℕ
let_round side own output again rest (Ok zero, m) entries = []
let_round side own output again rest (Ok (suc n), m) entries =
    let_write side m output (take (suc n) rest) ++ let_after (write_asks m own output (take (suc n) rest)) (let_rest again (drop (suc n) rest)) entries
let_round side own output again rest (Err stop, m) entries = []

-- so many rounds at most
abbrev pub let_rounds : ℕ → OpId → OpId → ℕ → LetAgain
let_rounds zero side own output m rest entries = []
let_rounds (suc k) side own output m rest entries = let_after (check_asks m own output) (let_round side own output (let_rounds k side own output) rest) entries

abbrev pub let_all : OpId → OpId → ℕ → LetAgain
let_all side own output m bytes entries = let_rounds 4096 side own output m bytes entries

-- the handle is tested before anything is asked, and whether there are too many bytes
abbrev pub let_blocking_write : OpId → Machine → OpId → ℕ → List ℕ → Bool → List Entry → List ℕ
let_blocking_write side m own output bytes too_long entries = if is_writable (kind_at m.table output) && not too_long then let_all side own output m bytes entries else []

-- == a pending call that is continued, by the name of its line
abbrev pub let_again : OpId → OpId → Machine → BlockingCall → List Entry → List ℕ
let_again side own m (Write output rest) entries = let_all side own output m rest entries
let_again side own m (Splice to from len) entries = let_blocking_splice side m own to from len entries
let_again side own m call entries = []

abbrev pub let_on : OpId → OpId → Machine → StandingCall → List Entry → List ℕ
let_on side own m (Blocking call) entries = let_again side own m call entries
let_on side own m call entries = []

abbrev pub let_resumed : OpId → Machine → Option Standing → List Entry → List ℕ
let_resumed side m None entries = []
let_resumed side m (Some s) entries = let_on side (own_of s.ids.line) (record m { store = unstood m.store }) s.call entries

-- == a write of 0.3
-- it offers its bytes once, and is let write those of them that were taken
abbrev pub let_taken : List ℕ → List Entry → List ℕ
let_taken bytes [] = []
let_taken bytes (e ∷ entries) = take (length (took e.answer)) bytes

-- by the half of its end, where that is open
abbrev pub let_offer : OpId → List ℕ → Option TcpSendStream → List Entry → List ℕ
let_offer side bytes None entries = []
let_offer side [] (Some half) entries = []
let_offer side (b ∷ bytes) (Some half) entries = if is_same half.side side then let_taken (take 4294967295 (b ∷ bytes)) entries else []

abbrev pub half_at : Machine → Option ℕ → Option TcpSendStream
half_at m None = None
half_at m (Some place) = half_of send_half (tcp2_at m.store.records place)

abbrev pub half_by : Machine → Option ConnectionEnd → Option TcpSendStream
half_by m None = None
half_by m (Some end) = half_at m end.socket

-- the half of the end that a handle names
abbrev pub let_end : OpId → Machine → ℕ → List ℕ → List Entry → List ℕ
let_end side m handle bytes entries = let_offer side bytes (half_by m (send3_at m handle)) entries
