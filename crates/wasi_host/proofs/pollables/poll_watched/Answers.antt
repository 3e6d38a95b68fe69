use Rattle.std.proofs.Common.{refl}
use Rattle.wasi_world.proofs.Walks.{asks_gives, asks_given}
use Rattle.host_store.specs.Store.{Records}
use Rattle.host_store.specs.Readiness.{ready_put}
use Rattle.host_store.proofs.KnownSides.{knows_polled}
use Rattle.wasi_records.proofs.Lookups.{found_at, none_at}
use Rattle.host_store.specs.declared.store.Store.TheView.{view}
use Rattle.wasi_host.proofs.pollables.poll_watched.Goals as goal

pub returns-in_default-clause-asked : goal.returns-in_default-clause-asked
returns-in_default-clause-asked g c = rw (← c.store.view_is, none_at c.store.inside.records.items c.args.place c.in_default.ensures.item) (asks_given _ _ refl refl)

pub returns-clause-asked : goal.returns-clause-asked
returns-clause-asked g c =
    let store : Records = view c.store.inside in
    rw (← c.store.view_is, found_at c.store.inside.records.items c.args.place c.in-Some.record c.in-Some.ensures.item)
    (asks_gives (ready_put store c.args.place) c.poll_ready.ensures.asked)

pub returns-clause-sides : goal.returns-clause-sides
returns-clause-sides g c = λ k.
    let store : Records = view c.store.inside in
    knows_polled store c.args.place c.in-Some.record.now c.poll_ready.new.record (found_at c.store.inside.records.items c.args.place c.in-Some.record c.in-Some.ensures.item) c.poll_ready.ensures.sides (rw (← c.store.view_is) at k)
