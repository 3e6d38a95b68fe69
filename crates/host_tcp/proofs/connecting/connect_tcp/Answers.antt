use Rattle.std.proofs.Common.{List, Err, ap, sym, refl}
use Rattle.wasi_addr.specs.declared.code.ErrorCode.TheVariants.{InvalidState}
use Rattle.wasi_world.specs.declared.ids.OpId.{OpId}
use Rattle.wasi_world.specs.Asks.{Give}
use Rattle.wasi_world.proofs.Walks.{asks_at, asks_end, reaches_all}
use Rattle.wasi_records.specs.declared.records.Record.{Record}
use Rattle.wasi_records.specs.Sides.{held_in}
use Rattle.record_common.specs.Stops.{Code}
use Rattle.wasi_records.proofs.Lookups.{found_at, none_at, set_back}
use Rattle.host_store.specs.declared.beside.BesideCall.TheVariants.{Connect}
use Rattle.host_store.specs.Beside.{beside_as}
use Rattle.host_tcp.specs.Connects.{connects}
use Rattle.host_store.specs.Store.{Records}
use Rattle.host_store.proofs.Bases.{ends_none}
use Rattle.host_tcp.proofs.Connects.{begun_asked}
use Rattle.host_store.proofs.KnownSides.{knows_polled, knows_same}
use Rattle.host_store.specs.declared.store.Store.TheView.{view}
use Rattle.host_tcp.proofs.connecting.connect_tcp.Goals as goal

pub returns-in_default-clause-asked : goal.returns-in_default-clause-asked
returns-in_default-clause-asked g c = rw (← c.store.view_is, none_at c.store.inside.records.items c.args.place c.in_default.ensures.item) (asks_end _ (reaches_all _ _) refl)

pub returns-then-not-is_nothing-clause-asked : goal.returns-then-not-is_nothing-clause-asked
returns-then-not-is_nothing-clause-asked g c =
    let store : Records = view c.store.inside in
    rw (← c.store.view_is, found_at c.store.inside.records.items c.args.place c.in-Some.record c.in-Some.ensures.item, ← c.is_nothing.ensures, c.if-not-is_nothing.true)
    (asks_end _ (reaches_all _ _) (ap (λ (l : List Record). Give (Err (Code InvalidState), record store { records = l })) (sym (set_back c.store.inside.records.items c.args.place c.in-Some.record c.in-Some.ensures.item))))

pub returns-then-not-is_nothing-clause-sides : goal.returns-then-not-is_nothing-clause-sides
returns-then-not-is_nothing-clause-sides g c = λ k. knows_same _ _ (ap held_in (set_back c.store.inside.records.items c.args.place c.in-Some.record c.in-Some.ensures.item)) (rw (← c.store.view_is) at k)

pub returns-in_err-push-clause-asked : goal.returns-in_err-push-clause-asked
returns-in_err-push-clause-asked g c = ends_none c.from_residual.result c.from_residual.ensures.1 refl

pub returns-in_err-push-clause-sides : goal.returns-in_err-push-clause-sides
returns-in_err-push-clause-sides g c = λ k. knows_same _ _ (ap held_in (set_back c.store.inside.records.items c.args.place c.in-Some.record c.in-Some.ensures.item)) (rw (← c.store.view_is) at k)

pub returns-clause-asked : goal.returns-clause-asked
returns-clause-asked g c =
    let store : Records = view c.store.inside in
    let call = beside_as c.args.ids.line (Connect c.args.place) in
    rw (← c.store.view_is, found_at c.store.inside.records.items c.args.place c.in-Some.record c.in-Some.ensures.item, ← c.is_nothing.ensures, c.if-not-is_nothing.false, c.unnamed.ensures.told, c.keep_begun.ensures store.beside call c.in_ok-push.ensures.ok)
    (begun_asked store c.args.place c.connect-connected.new.record call c.connect-connected.result (asks_at (λ (op : OpId). connects op c.args.addr c.in-Some.record.now) (sym c.own.ensures) c.connect-connected.ensures.asked))

pub returns-clause-sides : goal.returns-clause-sides
returns-clause-sides g c = λ k.
    let store : Records = view c.store.inside in
    knows_same _ _ refl (knows_polled store c.args.place c.in-Some.record.now c.connect-connected.new.record (found_at c.store.inside.records.items c.args.place c.in-Some.record c.in-Some.ensures.item) c.connect-connected.ensures.sides (rw (← c.store.view_is) at k))
