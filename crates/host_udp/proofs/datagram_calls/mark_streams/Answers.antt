use Rattle.std.proofs.Common.{refl}
use Rattle.wasi_world.proofs.Walks.{asks_at, asks_end, asks_then}
use Rattle.host_store.specs.declared.machine.Machine.{Machine}
use Rattle.host_udp.specs.DatagramCalls.{mark_streams_of}
use Rattle.record_common.proofs.Hosts.{host_fault}
use Rattle.host_udp.proofs.datagram_calls.mark_streams.Goals as goal

pub returns-in_err-incoming-clause-asked : goal.returns-in_err-incoming-clause-asked
returns-in_err-incoming-clause-asked g c =
    let m : Machine = record { table = c.args.table.now; store = c.args.store.now } in
    asks_at (mark_streams_of m c.args.own c.args.handle) c.in_ok-place.ensures
    (host_fault _ _ c.from_residual-in_err-incoming.result c.from_residual-in_err-incoming.ensures.1 (rw c.udp_side-side.ensures at c.in_err-incoming.ensures.asked) (λ stop. refl))

pub returns-in_err-outgoing-clause-asked : goal.returns-in_err-outgoing-clause-asked
returns-in_err-outgoing-clause-asked g c =
    let m : Machine = record { table = c.args.table.now; store = c.args.store.now } in
    asks_at (mark_streams_of m c.args.own c.args.handle) c.in_ok-place.ensures
    (asks_then _ (rw c.udp_side-side.ensures at c.in_ok-incoming.ensures.asked).ok
    (host_fault _ _ c.from_residual-in_err-outgoing.result c.from_residual-in_err-outgoing.ensures.1 (rw c.udp_side-side.ensures at c.in_err-outgoing.ensures.asked) (λ stop. refl)))

pub returns-clause-asked : goal.returns-clause-asked
returns-clause-asked g c =
    let m : Machine = record { table = c.args.table.now; store = c.args.store.now } in
    asks_at (mark_streams_of m c.args.own c.args.handle) c.in_ok-place.ensures
    (asks_then _ (rw c.udp_side-side.ensures at c.in_ok-incoming.ensures.asked).ok
    (asks_end _ (rw c.udp_side-side.ensures at c.in_ok-outgoing.ensures.asked).ok refl))
