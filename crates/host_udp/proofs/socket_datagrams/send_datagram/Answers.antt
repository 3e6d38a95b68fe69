use Rattle.wasi_world.proofs.Walks.{asks_then, reaches_on}
use Rattle.udp_records.specs.Udp.{with_udp_inner}
use Rattle.udp_records.proofs.DatagramCalms.{calm_send_begins}
use Rattle.udp_records.proofs.DatagramSends.{send_makes_none}
use Rattle.record_common.proofs.SideCounts.{none_calm, none_then}
use Rattle.wasi_records.proofs.UdpLookups.{open_found, held_in-open}
use Rattle.host_store.specs.BaseStops.{ends_as}
use Rattle.host_store.specs.Store.{Records}
use Rattle.host_store.specs.Store.{with_open_udp}
use Rattle.host_store.proofs.Bases.{ends_none}
use Rattle.host_store.proofs.KnownSides.{knows_none}
use Rattle.host_udp.proofs.SocketDatagrams.{send_kept}
use Rattle.host_store.specs.declared.store.Store.TheView.{view}
use Rattle.host_udp.proofs.socket_datagrams.send_datagram.Goals as goal

pub returns-in_err-send-clause-asked : goal.returns-in_err-send-clause-asked
returns-in_err-send-clause-asked g c = ends_none c.from_residual.result c.from_residual.ensures.1 c.in_err-send.ensures.unasked

pub returns-in_err-send-clause-sides : goal.returns-in_err-send-clause-sides
returns-in_err-send-clause-sides g c = λ k.
    let socket = c.in-Some.socket.now in
    knows_none _ _ (none_calm (calm_send_begins c.own.result socket.inner c.args.datagram.bytes c.args.datagram.remote_address) _ c.send.ensures.asked)
    (held_in-open c.store.inside.records.items c.args.place socket (with_udp_inner socket c.send.new.self) (open_found c.store.inside.records.items c.args.place c.in-Some.socket c.in-Some.ensures.item) c.send.ensures.side)
    (rw (← c.store.view_is) at k)

pub returns-clause-asked : goal.returns-clause-asked
returns-clause-asked g c =
    let store : Records = view c.store.inside in
    let now = with_udp_inner c.in-Some.socket.now c.send.new.self in
    rw (← c.store.view_is, open_found c.store.inside.records.items c.args.place c.in-Some.socket c.in-Some.ensures.item, ← c.own.ensures)
    (asks_then _ (reaches_on _ c.in_ok-send.ensures.asked.ok)
    (send_kept (with_open_udp store c.args.place now) c.args.ids.line c.args.place now c.in_ok-send.send c.poll-polled.new.self c.poll-polled.result (ends_as c.keep_send.result) c.keep_send.new.store c.poll-polled.ensures.who (c.poll-polled.ensures.polled c.in_ok-send.ensures.going) c.keep_send.ensures.told c.keep_send.ensures.calls))

pub returns-clause-sides : goal.returns-clause-sides
returns-clause-sides g c = λ k.
    let socket = c.in-Some.socket.now in
    c.keep_send.ensures.sides _
    (knows_none _ _
    (none_then (none_calm (calm_send_begins c.own.result socket.inner c.args.datagram.bytes c.args.datagram.remote_address) _ c.send.ensures.asked)
    (send_makes_none c.send.new.self c.in_ok-send.send c.poll-polled.new.self c.poll-polled.result c.poll-polled.ensures.before (c.poll-polled.ensures.polled c.in_ok-send.ensures.going)))
    (held_in-open c.store.inside.records.items c.args.place socket (with_udp_inner socket c.send.new.self) (open_found c.store.inside.records.items c.args.place c.in-Some.socket c.in-Some.ensures.item) c.send.ensures.side)
    (rw (← c.store.view_is) at k))
