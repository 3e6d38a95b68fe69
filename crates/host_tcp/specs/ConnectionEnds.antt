-- The ends of the streams of a 0.3 connection, and their result slots: how one is made, closed and dropped.
use Rattle.std.specs.Prelude.{ℕ, if◌then◌else◌, length, Option, Some, None, Result, Ok, Err}
use Rattle.wasi_addr.specs.declared.address.ShutdownType.{ShutdownType}
use Rattle.wasi_world.specs.declared.ids.OpId.{OpId}
use Rattle.wasi_world.specs.declared.outcome.TrapKind.TheVariants.{NoSuchHandle}
use Rattle.wasi_world.specs.Asks.{Asks, Give, bind}
use Rattle.wasi_records.specs.declared.records.Record.TheVariants.{Slot as SlotRecord}
use Rattle.tcp_records.specs.declared.slot.Slot.{Slot}
use Rattle.tcp_records.specs.declared.socket.TcpRecord.{TcpRecord}
use Rattle.tcp_records.specs.Ends.{has_half, shut_half}
use Rattle.tcp_records.specs.Holding.{let_go_asks}
use Rattle.wasi_records.specs.Records.{tcp2_at}
use Rattle.record_common.specs.Stops.{Trap}
use Rattle.tcp_records.specs.Slots.{StreamEnd, slot_for, filled}
use Rattle.wasi_records.specs.Records.{slot_at, slot_pushed}
use Rattle.host_store.specs.declared.kind.ConnectionEnd.{ConnectionEnd}
use Rattle.host_store.specs.BaseStops.{BaseStop}
use Rattle.host_tcp.specs.Dropping.{let_go_at}
use Rattle.host_store.specs.GivingBack.{given_back}
use Rattle.host_store.specs.Store.{Records, with_stored, with_socket}

-- == slots
-- it in place of the one of this number
abbrev pub with_slot : Records → ℕ → Slot → Records
with_slot store place s = with_stored SlotRecord store place s

abbrev pub fill_in : StreamEnd → ℕ → Records → Option Slot → Records
fill_in ended place store None = store
fill_in ended place store (Some s) = with_slot store place (filled ended s)

-- this became of the stream; nobody asks where the slot was dropped
abbrev pub fill : StreamEnd → ℕ → Records → Records
fill ended place store = fill_in ended place store (slot_at store.records place)

abbrev pub drop_slot_in : ℕ → Records → Option Slot → Records
drop_slot_in place store None = store
drop_slot_in place store (Some s) = given_back place store

-- its handle goes, and it with it
abbrev pub drop_slot : ℕ → Records → Records
drop_slot place store = drop_slot_in place store (slot_at store.records place)

-- == an end is made
-- of the half of this socket, where it could be taken
abbrev pub end_by : ℕ → StreamEnd → Option ℕ
end_by place (Ok done) = Some place
end_by place (Err c) = None

abbrev pub end_of : ℕ → ℕ → StreamEnd → ConnectionEnd
end_of place slot taken = record { socket = end_by place taken; slot = slot }

-- its half is taken where it can be, and else the end is closed with the code; its slot is the last of the records
abbrev pub with_end : ℕ → StreamEnd × TcpRecord → Records → Records
with_end place taken store =
    let now = with_socket store place taken.1 in record now { records = slot_pushed now.records (slot_for taken.0) }

abbrev pub take_end_in : (TcpRecord → StreamEnd × TcpRecord) → ℕ → Records → Option TcpRecord → Result ConnectionEnd BaseStop × Records
take_end_in takes place store None = (Err (Trap NoSuchHandle), store)
take_end_in takes place store (Some r) = (Ok (end_of place (length store.records) (takes r).0), with_end place (takes r) store)

abbrev pub take_end : (TcpRecord → StreamEnd × TcpRecord) → ℕ → Records → Result ConnectionEnd BaseStop × Records
take_end takes place store = take_end_in takes place store (tcp2_at store.records place)

-- == an end is closed
abbrev pub shut_at : OpId → ShutdownType → ℕ → Records → Option TcpRecord → Asks (Unit {0} × Records)
shut_at op how place store None = Give (tt, store)
shut_at op how place store (Some r) = bind (shut_half op how r r.streams) (λ done. Give (tt, with_socket store place done.1))

-- nothing holds the network socket any more, or the record stays
abbrev pub let_go : OpId → ℕ → Records → Asks (Unit {0} × Records)
let_go op place store = let_go_at store place (let_go_asks op) (tcp2_at store.records place)

-- its half is released, its slot filled, and the network socket released with the last of its holders
abbrev pub close_end : OpId → ShutdownType → ℕ → ℕ → StreamEnd → Records → Asks (Unit {0} × Records)
close_end op how slot socket ended store =
    bind (shut_at op how socket store (tcp2_at store.records socket)) (λ done. let_go op socket (fill ended slot done.1))

-- it is open while its half is the socket's
abbrev pub open_by : ShutdownType → ℕ → Option TcpRecord → Option ℕ
open_by how place None = None
open_by how place (Some r) = if has_half how r then Some place else None

abbrev pub open_in : ShutdownType → Records → Option ℕ → Option ℕ
open_in how store None = None
open_in how store (Some place) = open_by how place (tcp2_at store.records place)

abbrev pub end_goes : OpId → ShutdownType → ℕ → Records → Option ℕ → Asks (Unit {0} × Records)
end_goes op how slot store None = Give (tt, store)
end_goes op how slot store (Some socket) = close_end op how slot socket (Ok tt) store

-- the handle of an end goes: an open one is closed, as one whose stream went well
abbrev pub drop_end : OpId → ShutdownType → ConnectionEnd → Records → Asks (Unit {0} × Records)
drop_end op how end store = end_goes op how end.slot store (open_in how store end.socket)
