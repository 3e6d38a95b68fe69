use Rattle.std.proofs.Common.{List, length, Err, ap, sym, ◌∙◌, subst, refl}
use Rattle.wasi_world.specs.Asks.{Give}
use Rattle.wasi_world.proofs.Walks.{asks_then}
use Rattle.host_store.specs.declared.machine.Machine.{Machine}
use Rattle.wasi_records.specs.declared.records.Record.{Record}
use Rattle.record_common.specs.Stops.{Code}
use Rattle.host_store.specs.KnownSides.{KnowsSides}
use Rattle.host_store.specs.Store.{Records}
use Rattle.host_store.proofs.Bases.{ends_none, base_passed}
use Rattle.host_udp.proofs.UdpMakes.{begun_on, knows_begun, knows_refused}
use Rattle.host_store.specs.declared.store.Store.TheView.{view}
use Rattle.host_udp.proofs.udp_calls.create_udp.Goals as goal

pub returns-in_err-reserve-clause-asked : goal.returns-in_err-reserve-clause-asked
returns-in_err-reserve-clause-asked g c = ends_none c.from_residual.result c.from_residual.ensures.1 refl

pub returns-in_err-create-clause-asked : goal.returns-in_err-create-clause-asked
returns-in_err-create-clause-asked g c = rw (← c.store.view_is)
    (base_passed _ c.new.result _ c.from_residual-in_err-create.result c.from_residual-in_err-create.ensures.1 c.in_err-create.ensures.told (rw c.own.ensures at c.new.ensures.asked)
    (λ code. ap (λ (l : List Record). let m : Machine = record { table = c.args.table.now; store = record { records = l; jobs = c.store.inside.jobs.items; standing = c.store.inside.standing; beside = c.store.inside.beside; limits = c.store.inside.limits.items } } in Give (Err (Code code), m)) (sym c.reserve.ensures.items)))

pub returns-in_err-create-clause-sides : goal.returns-in_err-create-clause-sides
returns-in_err-create-clause-sides g c = λ k. rw c.reserve.ensures.items (knows_refused c.own.result c.args.ctx.now c.args.family c.new.result _ _ c.in_err-create.ensures.told c.new.ensures.asked c.new.ensures.unasked (rw (← c.store.view_is) at k))

pub returns-clause-asked : goal.returns-clause-asked
returns-clause-asked g c = rw (← c.store.view_is)
    (asks_then _ (rw (c.own.ensures, c.in_ok-create.ensures.ok) at c.new.ensures.asked).ok
    (begun_on c.args.interface (record { table = c.args.table.now; store = view c.store.inside }) c.args.ids c.in_ok-create.create
    (c.len-place.ensures ∙ ap length c.reserve.ensures.items) (rw (c.reserve.ensures.items, c.new-2.ensures) at c.push_reserved.ensures.items) c.create_on.ensures.asked))

pub returns-clause-sides : goal.returns-clause-sides
returns-clause-sides g c = λ k.
    let store : Records = view c.store.inside in
    c.create_on.ensures.sides
    (subst (λ (l : List Record). KnowsSides (g.W.World.seen c.new.new.world) (record store { records = l })) (sym (rw (c.reserve.ensures.items, c.new-2.ensures) at c.push_reserved.ensures.items))
    (knows_begun c.own.result c.args.ctx.now c.args.family c.in_ok-create.create store (rw c.in_ok-create.ensures.ok at c.new.ensures.asked).ok (rw (← c.store.view_is) at k)))
