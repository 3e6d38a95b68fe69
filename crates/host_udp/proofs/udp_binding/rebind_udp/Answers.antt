use Rattle.std.proofs.Common.{Ok, ap, sym, refl, ◌∙◌}
use Rattle.wasi_world.specs.declared.outcome.Answer.{Answer}
use Rattle.wasi_world.specs.Asks.{Give}
use Rattle.wasi_world.proofs.Walks.{asks_end, asks_given, asks_gives}
use Rattle.host_udp.specs.UdpBinds.{udp_bind_told}
use Rattle.host_store.specs.Store.{Records}
use Rattle.host_store.specs.Store.{with_open_udp}
use Rattle.wasi_records.proofs.UdpLookups.{open_found, not_open, held_in-open}
use Rattle.host_store.proofs.Bases.{base_passed}
use Rattle.udp_records.specs.declared.udp.OpenUdp.{OpenUdp}
use Rattle.host_udp.proofs.UdpBinds.{udp_bound_side}
use Rattle.host_store.proofs.KnownSides.{knows_none, knows_stood}
use Rattle.host_store.specs.declared.store.Store.TheView.{view}
use Rattle.host_udp.proofs.udp_binding.rebind_udp.Goals as goal

pub returns-in_default-clause-asked : goal.returns-in_default-clause-asked
returns-in_default-clause-asked g c = rw (← c.store.view_is, not_open c.store.inside.records.items c.args.place c.in_default.ensures.item) (asks_given _ _ refl refl)

pub returns-in_err-answer-clause-asked : goal.returns-in_err-answer-clause-asked
returns-in_err-answer-clause-asked g c = rw (← c.store.view_is, open_found c.store.inside.records.items c.args.place c.in-Some.socket c.in-Some.ensures.item)
    (base_passed _ c.poll_bind.result _ c.from_residual.result c.from_residual.ensures.1 c.in_err-answer.ensures.told (asks_gives (udp_bind_told c.args.interface) c.poll_bind.ensures.asked) (λ code. refl))

pub returns-in_err-answer-clause-sides : goal.returns-in_err-answer-clause-sides
returns-in_err-answer-clause-sides g c = λ k.
    knows_none _ _ c.poll_bind.ensures.none
    (held_in-open c.store.inside.records.items c.args.place c.in-Some.socket.now c.poll_bind.new.self (open_found c.store.inside.records.items c.args.place c.in-Some.socket c.in-Some.ensures.item) c.poll_bind.ensures.side)
    (rw (← c.store.view_is) at k)

pub returns-clause-asked : goal.returns-clause-asked
returns-clause-asked g c = rw (← c.store.view_is, open_found c.store.inside.records.items c.args.place c.in-Some.socket c.in-Some.ensures.item)
    (asks_end _ (rw c.in_ok-answer.ensures.ok at (asks_gives (udp_bind_told c.args.interface) c.poll_bind.ensures.asked)).ok
    (ap (λ (d : Answer (Unit {0}) × Records). Give (Ok d.0, d.1)) (sym (rw c.leave_udp_bound.ensures at c.stand.ensures))))

pub returns-clause-sides : goal.returns-clause-sides
returns-clause-sides g c = λ k.
    let store : Records = view c.store.inside in
    knows_stood (with_open_udp store c.args.place c.leave_udp_bound.new.socket) _ _ _ _ _ c.stand.ensures
    (knows_none store (with_open_udp store c.args.place c.leave_udp_bound.new.socket) c.poll_bind.ensures.none
    (held_in-open c.store.inside.records.items c.args.place c.in-Some.socket.now c.leave_udp_bound.new.socket (open_found c.store.inside.records.items c.args.place c.in-Some.socket c.in-Some.ensures.item)
    (ap (λ (x : OpenUdp). x.inner.side) c.leave_udp_bound.ensures ∙ (udp_bound_side c.args.interface c.in_ok-answer.answer c.poll_bind.new.self ∙ c.poll_bind.ensures.side)))
    (rw (← c.store.view_is) at k))
