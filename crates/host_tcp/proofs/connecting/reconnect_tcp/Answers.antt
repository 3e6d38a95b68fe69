use Rattle.std.proofs.Common.{refl}
use Rattle.wasi_world.proofs.Walks.{asks_end, reaches_all}
use Rattle.wasi_records.proofs.Lookups.{found_at, none_at}
use Rattle.host_store.specs.Store.{Records}
use Rattle.host_tcp.proofs.Connects.{polled_asked, polled_stays}
use Rattle.host_store.proofs.KnownSides.{knows_polled, knows_same}
use Rattle.host_store.specs.declared.store.Store.TheView.{view}
use Rattle.host_tcp.proofs.connecting.reconnect_tcp.Goals as goal

pub returns-in_default-clause-asked : goal.returns-in_default-clause-asked
returns-in_default-clause-asked g c = rw (← c.store.view_is, none_at c.store.inside.records.items c.args.place c.in_default.ensures.item, c.remove.ensures) (asks_end _ (reaches_all _ _) refl)

pub returns-clause-asked : goal.returns-clause-asked
returns-clause-asked g c =
    let store : Records = view c.store.inside in
    rw (← c.store.view_is, found_at c.store.inside.records.items c.args.place c.in-Some.record c.in-Some.ensures.item, c.unnamed.ensures.told, c.keep_polled.ensures)
    (polled_asked store c.args.place c.reconnect-connected.new.record c.args.line c.reconnect-connected.result c.reconnect-connected.ensures.asked)

pub returns-clause-sides : goal.returns-clause-sides
returns-clause-sides g c = λ k.
    let store : Records = view c.store.inside in
    knows_same _ _ refl (knows_polled store c.args.place c.in-Some.record.now c.reconnect-connected.new.record (found_at c.store.inside.records.items c.args.place c.in-Some.record c.in-Some.ensures.item) c.reconnect-connected.ensures.sides (rw (← c.store.view_is) at k))

pub returns-clause-stays : goal.returns-clause-stays
returns-clause-stays g c = rw (← c.store.view_is, c.unnamed.ensures.told, c.keep_polled.ensures) (polled_stays _ c.args.line c.reconnect-connected.result)
