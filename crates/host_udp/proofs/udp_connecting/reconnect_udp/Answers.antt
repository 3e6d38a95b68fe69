use Rattle.std.proofs.Common.{Ok, ap, sym, refl}
use Rattle.wasi_world.specs.declared.outcome.Answer.{Answer}
use Rattle.wasi_world.specs.Asks.{Give}
use Rattle.wasi_world.proofs.Walks.{asks_end, asks_given}
use Rattle.host_store.specs.Store.{Records}
use Rattle.host_store.specs.Store.{with_open_udp}
use Rattle.wasi_records.proofs.UdpLookups.{open_found, not_open, held_in-open}
use Rattle.host_store.proofs.Bases.{base_passed}
use Rattle.host_store.proofs.KnownSides.{knows_none, knows_stood}
use Rattle.host_store.specs.declared.store.Store.TheView.{view}
use Rattle.host_udp.proofs.udp_connecting.reconnect_udp.Goals as goal

pub returns-in_default-clause-asked : goal.returns-in_default-clause-asked
returns-in_default-clause-asked g c = rw (← c.store.view_is, not_open c.store.inside.records.items c.args.place c.in_default.ensures.item) (asks_given _ _ refl refl)

pub returns-in_err-answer-clause-asked : goal.returns-in_err-answer-clause-asked
returns-in_err-answer-clause-asked g c = rw (← c.store.view_is, open_found c.store.inside.records.items c.args.place c.in-Some.socket c.in-Some.ensures.item)
    (base_passed _ c.reconnect.result _ c.from_residual.result c.from_residual.ensures.1 c.in_err-answer.ensures.told c.reconnect.ensures.asked (λ code. refl))

pub returns-in_err-answer-clause-sides : goal.returns-in_err-answer-clause-sides
returns-in_err-answer-clause-sides g c = λ k.
    knows_none _ _ c.reconnect.ensures.none
    (held_in-open c.store.inside.records.items c.args.place c.in-Some.socket.now c.reconnect.new.self (open_found c.store.inside.records.items c.args.place c.in-Some.socket c.in-Some.ensures.item) c.reconnect.ensures.side)
    (rw (← c.store.view_is) at k)

pub returns-clause-asked : goal.returns-clause-asked
returns-clause-asked g c = rw (← c.store.view_is, open_found c.store.inside.records.items c.args.place c.in-Some.socket c.in-Some.ensures.item)
    (asks_end _ (rw c.in_ok-answer.ensures.ok at c.reconnect.ensures.asked).ok
    (ap (λ (d : Answer (Unit {0}) × Records). Give (Ok d.0, d.1)) (sym c.stand.ensures)))

pub returns-clause-sides : goal.returns-clause-sides
returns-clause-sides g c = λ k.
    let store : Records = view c.store.inside in
    knows_stood (with_open_udp store c.args.place c.reconnect.new.self) _ _ _ _ _ c.stand.ensures
    (knows_none store (with_open_udp store c.args.place c.reconnect.new.self) c.reconnect.ensures.none
    (held_in-open c.store.inside.records.items c.args.place c.in-Some.socket.now c.reconnect.new.self (open_found c.store.inside.records.items c.args.place c.in-Some.socket c.in-Some.ensures.item) c.reconnect.ensures.side)
    (rw (← c.store.view_is) at k))
