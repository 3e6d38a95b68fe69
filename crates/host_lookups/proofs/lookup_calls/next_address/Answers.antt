use Rattle.wasi_records.proofs.NameLookups.{lookup_found, held_in-lookup}
use Rattle.host_store.proofs.KnownSides.{knows_same}
use Rattle.host_lookups.proofs.lookup_calls.next_address.Goals as goal

pub returns-clause-sides : goal.returns-clause-sides
returns-clause-sides c = λ s k.
    knows_same _ _ (held_in-lookup c.store.inside.records.items c.args.place c.in-Some.lookup.now _ (lookup_found c.store.inside.records.items c.args.place c.in-Some.lookup c.in-Some.ensures.item)) (rw (← c.store.view_is) at k)
