use Rattle.std.proofs.Common.{refl, sym}
use Rattle.lookup_records.specs.declared.name_lookup.Lookup.TheVariants.{Failed}
use Rattle.wasi_records.specs.declared.records.Record.TheVariants.{Lookup}
use Rattle.host_store.proofs.GivenBack.{was_none}
use Rattle.wasi_records.proofs.NameLookups.{held_in-lookup}
use Rattle.host_lookups.proofs.lookup_calls.drop_lookup.Goals as goal

pub returns-clause-sides : goal.returns-clause-sides
returns-clause-sides c = λ s k.
    let items = c.store.inside.records.items in
    let place = c.args.place in
    c.give_back.ensures.sides s (rw (← c.store.view_is) (was_none items place (Lookup Failed) refl (held_in-lookup items place c.in-Some._dropped.now Failed (sym c.in-Some.ensures.item)))) k
