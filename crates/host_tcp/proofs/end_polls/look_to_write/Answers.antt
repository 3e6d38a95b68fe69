use Rattle.std.proofs.Common.{List, ap, refl}
use Rattle.wasi_world.proofs.Walks.{asks_given}
use Rattle.wasi_records.specs.declared.records.Record.{Record}
use Rattle.wasi_records.proofs.Lookups.{found_at, none_at, set_back}
use Rattle.host_store.specs.Store.{Records}
use Rattle.host_store.specs.declared.store.Store.TheView.{view}
use Rattle.host_tcp.proofs.end_polls.look_to_write.Goals as goal

pub returns-in_default-clause-asked : goal.returns-in_default-clause-asked
returns-in_default-clause-asked g c = rw (← c.store.view_is, none_at c.store.inside.records.items c.args.place c.in_default.ensures.item) (asks_given _ _ refl refl)

pub returns-clause-asked : goal.returns-clause-asked
returns-clause-asked g c = rw (← c.store.view_is, found_at c.store.inside.records.items c.args.place c.in-Some.record c.in-Some.ensures.item) c.look_to_write.ensures.asked

pub returns-clause-same : goal.returns-clause-same
returns-clause-same g c =
    let store : Records = view c.store.inside in
    rw (← c.store.view_is, c.look_to_write.ensures.same)
    (ap (λ (l : List Record). record store { records = l }) (set_back c.store.inside.records.items c.args.place c.in-Some.record c.in-Some.ensures.item))
