use Rattle.std.proofs.Common.{refl}
use Rattle.wasi_world.proofs.Walks.{asks_gives, asks_given}
use Rattle.host_store.specs.Store.{Records, with_record_put}
use Rattle.wasi_records.proofs.Lookups.{found_at, none_at}
use Rattle.record_common.proofs.SideCounts.{Any}
use Rattle.wasi_records.proofs.SideCounts.{held_in-set}
use Rattle.host_store.proofs.KnownSides.{knows_asked}
use Rattle.tcp_records.proofs.StreamCounts.{calm_writer}
use Rattle.host_store.specs.declared.store.Store.TheView.{view}
use Rattle.host_streams.proofs.connections.flush.Goals as goal

pub returns-clause-asked : goal.returns-clause-asked
returns-clause-asked g c =
    let store : Records = view c.store.inside in
    rw (← c.store.view_is, found_at c.store.inside.records.items c.args.place c.in-Some.record c.in-Some.ensures.item)
    (asks_gives (with_record_put store c.args.place) c.flush.ensures.asked)

pub returns-in_default-clause-asked : goal.returns-in_default-clause-asked
returns-in_default-clause-asked g c = rw (← c.store.view_is, none_at c.store.inside.records.items c.args.place c.in_default.ensures.item) (asks_given _ _ refl refl)

pub returns-clause-sides : goal.returns-clause-sides
returns-clause-sides g c = λ k.
    knows_asked Any _ _ _ (calm_writer _ c.in-Some.record.now (λ w. tt)) c.flush.ensures.asked
    (held_in-set c.store.inside.records.items c.args.place c.in-Some.record.now c.flush.new.self (found_at c.store.inside.records.items c.args.place c.in-Some.record c.in-Some.ensures.item) c.flush.ensures.side c.flush.ensures.listening)
    (rw (← c.store.view_is) at k)
