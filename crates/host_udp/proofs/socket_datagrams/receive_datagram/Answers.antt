use Rattle.std.proofs.Common.{None}
use Rattle.wasi_world.proofs.Walks.{asks_then, reaches_on}
use Rattle.udp_records.specs.declared.datagrams.Incoming.{Incoming}
use Rattle.udp_records.specs.declared.datagrams.Receiving.TheVariants as receiving
use Rattle.udp_records.specs.Udp.{with_udp_inner}
use Rattle.udp_records.proofs.ReceiveCalms.{receive_begins_none, receive_makes_none}
use Rattle.record_common.proofs.SideCounts.{none_then}
use Rattle.wasi_records.proofs.UdpLookups.{open_found, held_in-open}
use Rattle.host_store.specs.BaseStops.{ends_as}
use Rattle.host_store.specs.Store.{Records}
use Rattle.host_store.specs.Store.{with_open_udp}
use Rattle.host_store.proofs.Bases.{ends_none}
use Rattle.host_store.proofs.KnownSides.{knows_none}
use Rattle.host_udp.proofs.SocketDatagrams.{receive_kept}
use Rattle.host_store.specs.declared.store.Store.TheView.{view}
use Rattle.host_udp.proofs.socket_datagrams.receive_datagram.Goals as goal

-- of no stream, and from anywhere
abbrev anyone : Incoming
anyone = record { remote = None; receiving = receiving.Nothing }

pub returns-in_err-receive-clause-asked : goal.returns-in_err-receive-clause-asked
returns-in_err-receive-clause-asked g c = ends_none c.from_residual.result c.from_residual.ensures.1 c.in_err-receive.ensures.unasked

pub returns-in_err-receive-clause-sides : goal.returns-in_err-receive-clause-sides
returns-in_err-receive-clause-sides g c = λ k.
    let socket = c.in-Some.socket.now in
    knows_none _ _ (receive_begins_none c.own.result socket.inner _ c.recv.ensures.asked)
    (held_in-open c.store.inside.records.items c.args.place socket (with_udp_inner socket c.recv.new.self) (open_found c.store.inside.records.items c.args.place c.in-Some.socket c.in-Some.ensures.item) c.recv.ensures.side)
    (rw (← c.store.view_is) at k)

pub returns-clause-asked : goal.returns-clause-asked
returns-clause-asked g c =
    let store : Records = view c.store.inside in
    let now = with_udp_inner c.in-Some.socket.now c.recv.new.self in
    rw (← c.store.view_is, open_found c.store.inside.records.items c.args.place c.in-Some.socket c.in-Some.ensures.item, ← c.own.ensures)
    (asks_then _ (reaches_on _ c.in_ok-receive.ensures.asked.ok)
    (receive_kept (with_open_udp store c.args.place now) c.args.ids.line c.args.place now c.in_ok-receive.receive c.poll-polled.new.self c.poll-polled.result (ends_as c.keep_receive.result) c.keep_receive.new.store (c.poll-polled.ensures.polled c.in_ok-receive.ensures.going) c.keep_receive.ensures.told c.keep_receive.ensures.calls))

pub returns-clause-sides : goal.returns-clause-sides
returns-clause-sides g c = λ k.
    let socket = c.in-Some.socket.now in
    c.keep_receive.ensures.sides _
    (knows_none _ _
    (none_then (receive_begins_none c.own.result socket.inner _ c.recv.ensures.asked)
    (receive_makes_none anyone c.in_ok-receive.receive c.poll-polled.new.self c.poll-polled.result c.poll-polled.ensures.before (c.poll-polled.ensures.polled c.in_ok-receive.ensures.going)))
    (held_in-open c.store.inside.records.items c.args.place socket (with_udp_inner socket c.recv.new.self) (open_found c.store.inside.records.items c.args.place c.in-Some.socket c.in-Some.ensures.item) c.recv.ensures.side)
    (rw (← c.store.view_is) at k))
