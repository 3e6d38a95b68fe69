use Rattle.std.proofs.Common.{refl}
use Rattle.udp_records.specs.Udp.{without_udp_socket}
use Rattle.wasi_records.proofs.UdpLookups.{open_found, held_in-open}
use Rattle.host_store.proofs.KnownSides.{knows_same}
use Rattle.host_udp.proofs.socket_datagrams.drop_udp.Goals as goal

pub returns-clause-sides : goal.returns-clause-sides
returns-clause-sides g c = λ k.
    c.let_udp_go-2.ensures.sides
    (knows_same _ _
    (held_in-open c.store.inside.records.items c.args.place c.in-Some.socket.now (without_udp_socket c.in-Some.socket.now) (open_found c.store.inside.records.items c.args.place c.in-Some.socket c.in-Some.ensures.item) refl)
    (rw (← c.store.view_is) at k))
