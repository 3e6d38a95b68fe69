use Rattle.std.proofs.Common.{ap, sym, refl}
use Rattle.wasi_world.specs.Asks.{Give}
use Rattle.wasi_world.proofs.Walks.{asks_end, asks_given}
use Rattle.host_store.specs.Standing.{allowed_answer}
use Rattle.host_store.specs.Store.{Records, with_socket}
use Rattle.record_common.proofs.Hosts.{host_refused}
use Rattle.host_store.proofs.KnownSides.{knows_polled, knows_stood}
use Rattle.wasi_records.proofs.Lookups.{found_at, none_at}
use Rattle.host_store.specs.declared.store.Store.TheView.{view}
use Rattle.host_tcp.proofs.tcp_calls.relisten.Goals as goal

pub returns-in_default-clause-asked : goal.returns-in_default-clause-asked
returns-in_default-clause-asked g c =
    rw (← c.store.view_is, none_at c.store.inside.records.items c.args.place c.in_default.ensures.item) (asks_given _ _ refl refl)

pub returns-in_err-answer-clause-asked : goal.returns-in_err-answer-clause-asked
returns-in_err-answer-clause-asked g c =
    rw (← c.store.view_is, found_at c.store.inside.records.items c.args.place c.in-Some.record c.in-Some.ensures.item)
    (host_refused _ _ c.from_residual.result c.from_residual.ensures.1 c.in_err-answer.ensures.asked (λ code. refl))

pub returns-in_err-answer-clause-sides : goal.returns-in_err-answer-clause-sides
returns-in_err-answer-clause-sides g c = λ k.
    let store : Records = view c.store.inside in
    knows_polled store c.args.place c.in-Some.record.now c.poll_listen.new.self (found_at c.store.inside.records.items c.args.place c.in-Some.record c.in-Some.ensures.item) c.poll_listen.ensures.sides (rw (← c.store.view_is) at k)

pub returns-clause-asked : goal.returns-clause-asked
returns-clause-asked g c =
    rw (← c.store.view_is, found_at c.store.inside.records.items c.args.place c.in-Some.record c.in-Some.ensures.item)
    (asks_end _ c.in_ok-answer.ensures.asked.ok (ap (λ d. Give (allowed_answer d)) (sym c.stand.ensures)))

pub returns-clause-sides : goal.returns-clause-sides
returns-clause-sides g c = λ k.
    let store : Records = view c.store.inside in
    knows_stood (with_socket store c.args.place c.poll_listen.new.self) _ _ _ _ _ c.stand.ensures
    (knows_polled store c.args.place c.in-Some.record.now c.poll_listen.new.self (found_at c.store.inside.records.items c.args.place c.in-Some.record c.in-Some.ensures.item) c.poll_listen.ensures.sides (rw (← c.store.view_is) at k))
