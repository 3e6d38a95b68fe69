use Rattle.std.proofs.Common.{refl}
use Rattle.wasi_world.proofs.Walks.{asks_given}
use Rattle.wasi_records.proofs.Lookups.{found_at, none_at}
use Rattle.host_store.specs.Store.{Records}
use Rattle.host_store.proofs.KnownSides.{knows_polled}
use Rattle.host_tcp.proofs.Listens.{settled_asked}
use Rattle.host_store.specs.declared.store.Store.TheView.{view}
use Rattle.host_tcp.proofs.listening.look_accept.Goals as goal

pub returns-in_default-clause-asked : goal.returns-in_default-clause-asked
returns-in_default-clause-asked g c = rw (← c.store.view_is, none_at c.store.inside.records.items c.args.place c.in_default.ensures.item) (asks_given _ _ refl refl)

pub returns-in_default-clause-names : goal.returns-in_default-clause-names
returns-in_default-clause-names g c = rw (← c.store.view_is, none_at c.store.inside.records.items c.args.place c.in_default.ensures.item) refl

pub returns-clause-asked : goal.returns-clause-asked
returns-clause-asked g c =
    let store : Records = view c.store.inside in
    rw (← c.store.view_is, found_at c.store.inside.records.items c.args.place c.in-Some.record c.in-Some.ensures.item, c.unnamed.ensures.told)
    (settled_asked store c.args.place c.look_accept.new.self c.look_accept.result c.look_accept.ensures.asked)

pub returns-clause-sides : goal.returns-clause-sides
returns-clause-sides g c = λ k.
    let store : Records = view c.store.inside in
    knows_polled store c.args.place c.in-Some.record.now c.look_accept.new.self (found_at c.store.inside.records.items c.args.place c.in-Some.record c.in-Some.ensures.item) c.look_accept.ensures.sides (rw (← c.store.view_is) at k)

pub returns-clause-names : goal.returns-clause-names
returns-clause-names g c = rw (← c.store.view_is, found_at c.store.inside.records.items c.args.place c.in-Some.record c.in-Some.ensures.item) c.look_accept.ensures.ids
