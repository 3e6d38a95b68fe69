use Rattle.std.proofs.Common.{refl}
use Rattle.wasi_world.proofs.Walks.{asks_end, asks_given}
use Rattle.record_common.proofs.Hosts.{host_refused}
use Rattle.wasi_records.proofs.Lookups.{found_at, none_at}
use Rattle.record_common.proofs.SideCounts.{Any}
use Rattle.wasi_records.proofs.SideCounts.{held_in-set}
use Rattle.tcp_records.proofs.SideCounts.{calm_tell_local}
use Rattle.host_store.proofs.KnownSides.{knows_asked, knows_calm}
use Rattle.host_tcp.proofs.tcp_calls.tcp_local_address.Goals as goal

pub returns-in_default-clause-asked : goal.returns-in_default-clause-asked
returns-in_default-clause-asked g c = rw (← c.store.view_is, none_at c.store.inside.records.items c.args.place c.in_default.ensures.item) (asks_given _ _ refl refl)

pub returns-in_err-addr-clause-asked : goal.returns-in_err-addr-clause-asked
returns-in_err-addr-clause-asked g c =
    rw (← c.store.view_is, found_at c.store.inside.records.items c.args.place c.in-Some.record c.in-Some.ensures.item)
    (host_refused _ _ c.from_residual.result c.from_residual.ensures.1 c.in_err-addr.ensures.asked (λ code. refl))

pub returns-clause-asked : goal.returns-clause-asked
returns-clause-asked g c =
    rw (← c.store.view_is, found_at c.store.inside.records.items c.args.place c.in-Some.record c.in-Some.ensures.item)
    (asks_end _ c.in_ok-addr.ensures.asked.ok refl)

pub returns-in_err-addr-clause-sides : goal.returns-in_err-addr-clause-sides
returns-in_err-addr-clause-sides g c = λ k.
    knows_asked Any _ _ _ (calm_tell_local c.args.op c.in-Some.record.now) c.in_err-addr.ensures.asked
    (held_in-set c.store.inside.records.items c.args.place c.in-Some.record.now c.local_address.new.self (found_at c.store.inside.records.items c.args.place c.in-Some.record c.in-Some.ensures.item) c.local_address.ensures.side c.local_address.ensures.listening)
    (rw (← c.store.view_is) at k)

pub returns-clause-sides : goal.returns-clause-sides
returns-clause-sides g c = λ k.
    knows_calm Any _ _ (calm_tell_local c.args.op c.in-Some.record.now) c.in_ok-addr.ensures.asked.ok
    (held_in-set c.store.inside.records.items c.args.place c.in-Some.record.now c.local_address.new.self (found_at c.store.inside.records.items c.args.place c.in-Some.record c.in-Some.ensures.item) c.local_address.ensures.side c.local_address.ensures.listening)
    (rw (← c.store.view_is) at k)
