use Rattle.std.proofs.Common.{Err, refl, ap, sym, ◌∙◌}
use Rattle.wasi_world.specs.Asks.{Give}
use Rattle.wasi_world.proofs.Walks.{asks_end}
use Rattle.record_common.specs.Stops.{Code}
use Rattle.host_store.specs.Store.{Records}
use Rattle.host_udp.proofs.UdpLeft.{udp_there, left_put}
use Rattle.host_store.proofs.Bases.{base_refused}
use Rattle.wasi_records.proofs.UdpLookups.{udp_at}
use Rattle.host_store.proofs.KnownSides.{knows_fewer}
use Rattle.host_store.specs.declared.store.Store.TheView.{view}
use Rattle.host_udp.proofs.udp_calls.poll_create.Goals as goal

pub returns-in-Ok-clause-asked : goal.returns-in-Ok-clause-asked
returns-in-Ok-clause-asked g c = rw (← c.store.view_is, udp_at c.store.inside.records.items c.args.place c.in-Some.record c.in-Some.ensures.item) (asks_end _ c.in-Ok.ensures.asked.ok refl)

pub returns-in-Ok-clause-sides : goal.returns-in-Ok-clause-sides
returns-in-Ok-clause-sides g c = λ k.
    let store : Records = view c.store.inside in
    knows_fewer store c.args.place c.in-Some.record.now c.poll_create.new.self (udp_at c.store.inside.records.items c.args.place c.in-Some.record c.in-Some.ensures.item) c.poll_create.ensures.held (rw (← c.store.view_is) at k)

pub returns-in-Err-clause-asked : goal.returns-in-Err-clause-asked
returns-in-Err-clause-asked g c =
    let store : Records = view c.store.inside in
    let found = udp_at c.store.inside.records.items c.args.place c.in-Some.record c.in-Some.ensures.item in
    let left = c.leave_udp.ensures.state c.poll_create.new.self (udp_there store.records c.args.place c.in-Some.record.now c.poll_create.new.self found) ∙ left_put store c.args.place c.poll_create.new.self in
    rw (← c.store.view_is, found) (base_refused _ c.in-Err.refusal c.unnamed.result c.unnamed.ensures.told c.in-Err.ensures.asked (λ code. ap (λ (now : Records). Give (Err (Code code), now)) (sym left)))

pub returns-in-Err-clause-sides : goal.returns-in-Err-clause-sides
returns-in-Err-clause-sides g c = λ k.
    let store : Records = view c.store.inside in
    c.leave_udp.ensures.sides _ (knows_fewer store c.args.place c.in-Some.record.now c.poll_create.new.self (udp_at c.store.inside.records.items c.args.place c.in-Some.record c.in-Some.ensures.item) c.poll_create.ensures.held (rw (← c.store.view_is) at k))
