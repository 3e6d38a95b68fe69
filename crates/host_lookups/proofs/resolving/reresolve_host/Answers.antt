use Rattle.std.proofs.Common.{refl}
use Rattle.record_common.specs.Names.{own_of}
use Rattle.lookup_records.proofs.NameLookups.{calm_lookup}
use Rattle.record_common.proofs.SideCounts.{none_calm}
use Rattle.host_store.specs.Store.{Records}
use Rattle.host_store.proofs.KnownSides.{knows_none}
use Rattle.host_lookups.proofs.Resolves.{lookup_stays, polled_asked}
use Rattle.host_store.specs.declared.store.Store.TheView.{view}
use Rattle.host_lookups.proofs.resolving.reresolve_host.Goals as goal

pub returns-clause-asked : goal.returns-clause-asked
returns-clause-asked g c =
    let store : Records = view c.store.inside in
    rw (← c.store.view_is, c.resolved.ensures, c.keep_polled.ensures)
    (polled_asked store c.args.line c.args.host c.lookup-told.result c.lookup-told.ensures.asked)

pub returns-clause-sides : goal.returns-clause-sides
returns-clause-sides g c = λ k. knows_none _ _ (none_calm (calm_lookup (own_of c.args.line) c.args.host) _ c.lookup-told.ensures.asked) refl (rw (← c.store.view_is) at k)

pub returns-clause-stays : goal.returns-clause-stays
returns-clause-stays g c = rw (← c.store.view_is, c.resolved.ensures, c.keep_polled.ensures) (lookup_stays _ c.args.line c.lookup-told.result)
