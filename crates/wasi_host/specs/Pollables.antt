-- Pollables, and whether what they watch is ready.
use Rattle.std.specs.Prelude.{ℕ, Bool, true, false, Option, Some, None, Result, Ok}
use Rattle.wasi_world.specs.declared.ids.OpId.{OpId}
use Rattle.wasi_world.specs.declared.ids.Ids.{Ids}
use Rattle.wasi_world.specs.Asks.{Asks, Give, bind}
use Rattle.wasi_records.specs.Records.{tcp2_at, udp2_at, open_at, lookup_at}
use Rattle.host_store.specs.declared.kind.Kind.TheVariants.{Incoming, Outgoing, Pollable, Lookup}
use Rattle.host_store.specs.declared.kind.Watched.{Watched}
use Rattle.host_store.specs.declared.kind.Watched.TheVariants as watched
use Rattle.host_store.specs.declared.machine.Machine.{Machine}
use Rattle.record_common.specs.Stops.{Stop}
use Rattle.host_store.specs.Kinds.{kind_at, watched_by, watch_of, place_in, make_asks}
pub use Rattle.record_common.specs.Names.{own_of}
use Rattle.host_store.specs.Store.{Records}
use Rattle.host_store.specs.Readiness.{ready_at, ready_ids_at}
use Rattle.host_udp.specs.DatagramCalls.{incoming_names, outgoing_ready, ready_incoming_at}
use Rattle.host_lookups.specs.NameLookupCalls.{lookup_ready}
use Rattle.host_udp.specs.UdpCreates.{udp_side_at}
use Rattle.host_store.specs.Machine.{with_table, with_store, no_such_handle, side_at}

-- == pollables
-- the network socket of what is watched, by which its pollables are marked
abbrev pub watched_side : Records → Watched → Option OpId
watched_side store (watched.Udp place) = udp_side_at (udp2_at store.records place)
watched_side store (watched.Incoming place) = udp_side_at (udp2_at store.records place)
watched_side store (watched.Outgoing place) = udp_side_at (udp2_at store.records place)
watched_side store (watched.Lookup place) = None
watched_side store watched.Plain = None
watched_side store w = side_at (tcp2_at store.records (place_in w))

abbrev pub subscribe_on : Machine → OpId → ℕ → Option Watched → Asks (Result ℕ Stop × Machine)
subscribe_on m own this None = no_such_handle m
subscribe_on m own this (Some w) =
    bind (make_asks m.table own (Pollable w) (Some this) (watched_side m.store w)) (λ made. Give (with_table m made))

-- a pollable of a socket or of a stream
abbrev pub subscribe_asks : Machine → OpId → ℕ → Asks (Result ℕ Stop × Machine)
subscribe_asks m own this = subscribe_on m own this (watched_by (kind_at m.table this))

abbrev pub ready_on : Machine → Ids → Option Watched → Asks (Result Bool Stop × Machine)
ready_on m ids None = no_such_handle m
ready_on m ids (Some (watched.Udp place)) = Give (Ok true, m)
ready_on m ids (Some watched.Plain) = Give (Ok true, m)
ready_on m ids (Some (watched.Incoming place)) = bind (ready_incoming_at m.store ids place (open_at m.store.records place)) (λ done. Give (with_store m done))
ready_on m ids (Some (watched.Outgoing place)) = Give (Ok (outgoing_ready (open_at m.store.records place)), m)
ready_on m ids (Some (watched.Lookup place)) = Give (Ok (lookup_ready (lookup_at m.store.records place)), m)
ready_on m ids (Some w) = bind (ready_at m.store (own_of ids.line) ids w (place_in w) (tcp2_at m.store.records (place_in w))) (λ done. Give (with_store m done))

-- one look at what a pollable watches; a UDP socket is ready, and a stream of no connection, an outgoing datagram stream where it sends nothing in the background, and
-- a lookup where it isn't in progress
abbrev pub ready_asks : Machine → Ids → ℕ → Asks (Result Bool Stop × Machine)
ready_asks m ids pollable = ready_on m ids (watch_of (kind_at m.table pollable))

abbrev pub ready_ids_on : Machine → Ids → Option Watched → Ids
ready_ids_on m ids None = ids
ready_ids_on m ids (Some watched.Plain) = ids
ready_ids_on m ids (Some (watched.Incoming place)) = incoming_names ids (open_at m.store.records place)
ready_ids_on m ids (Some w) = ready_ids_at ids w (tcp2_at m.store.records (place_in w))

-- the names that are left to the line then
abbrev pub ids_after_ready : Machine → Ids → ℕ → Ids
ids_after_ready m ids pollable = ready_ids_on m ids (watch_of (kind_at m.table pollable))

-- a receive may begin, whose name is taken also where memory runs out then
abbrev pub is_incoming : Option Watched → Bool
is_incoming (Some (watched.Incoming place)) = true
is_incoming _ = false

abbrev pub watches_incoming : Machine → ℕ → Bool
watches_incoming m pollable = is_incoming (watch_of (kind_at m.table pollable))
