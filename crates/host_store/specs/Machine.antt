-- The state behind a guest's calls: its table and its store, and what a handle names in them.
use Rattle.std.specs.Prelude.{ℕ, Option, Some, None, Result, Err}
use Rattle.wasi_world.specs.declared.ids.OpId.{OpId}
use Rattle.wasi_world.specs.declared.outcome.TrapKind.TheVariants.{NoSuchHandle}
use Rattle.wasi_world.specs.Asks.{Asks, Give}
use Rattle.wasi_table.specs.Table.{empty}
use Rattle.host_store.specs.declared.kind.ConnectionEnd.{ConnectionEnd}
use Rattle.host_store.specs.declared.machine.Machine.{Machine}
use Rattle.tcp_records.specs.declared.socket.TcpRecord.{TcpRecord}
use Rattle.record_common.specs.Stops.{Stop, Trap}
use Rattle.host_store.specs.Kinds.{HandleTable, kind_at, place_of, udp_of, tcp3_of, udp3_of, input_of, output_of, incoming_of, outgoing_of, lookup_of, listen3_of, receive3_of, send3_of, result3_of}
pub use Rattle.record_common.specs.Names.{own_of}
use Rattle.host_store.specs.Store.{Records, no_records}

-- no handle, no record, no job, no pending call
abbrev pub first_state : Machine
first_state = record { table = empty; store = no_records }

abbrev pub with_table : Machine → Result ℕ Stop × HandleTable → Result ℕ Stop × Machine
with_table m made = (made.0, record m { table = made.1 })

abbrev pub with_store : {A : Type 0} → Machine → A × Records → A × Machine
with_store m done = (done.0, record m { store = done.1 })

-- == the handles of a call, or a trap
abbrev pub socket_at : Machine → ℕ → Option ℕ
socket_at m h = place_of (kind_at m.table h)

abbrev pub udp_socket_at : Machine → ℕ → Option ℕ
udp_socket_at m h = udp_of (kind_at m.table h)

abbrev pub tcp3_at : Machine → ℕ → Option ℕ
tcp3_at m h = tcp3_of (kind_at m.table h)

abbrev pub udp3_at : Machine → ℕ → Option ℕ
udp3_at m h = udp3_of (kind_at m.table h)

abbrev pub listen3_at : Machine → ℕ → Option ℕ
listen3_at m h = listen3_of (kind_at m.table h)

abbrev pub receive3_at : Machine → ℕ → Option ConnectionEnd
receive3_at m h = receive3_of (kind_at m.table h)

abbrev pub send3_at : Machine → ℕ → Option ConnectionEnd
send3_at m h = send3_of (kind_at m.table h)

abbrev pub result3_at : Machine → ℕ → Option ℕ
result3_at m h = result3_of (kind_at m.table h)

abbrev pub input_at : Machine → ℕ → Option ℕ
input_at m h = input_of (kind_at m.table h)

abbrev pub output_at : Machine → ℕ → Option ℕ
output_at m h = output_of (kind_at m.table h)

abbrev pub outgoing_at : Machine → ℕ → Option ℕ
outgoing_at m h = outgoing_of (kind_at m.table h)

abbrev pub incoming_at : Machine → ℕ → Option ℕ
incoming_at m h = incoming_of (kind_at m.table h)

abbrev pub lookup_number : Machine → ℕ → Option ℕ
lookup_number m h = lookup_of (kind_at m.table h)

abbrev pub no_such_handle : {A : Type 0} → Machine → Asks (Result A Stop × Machine)
no_such_handle m = Give (Err (Trap NoSuchHandle), m)

-- the network socket that a record was made with, by which its handles are marked
abbrev pub side_at : Option TcpRecord → Option OpId
side_at None = None
side_at (Some r) = r.side
