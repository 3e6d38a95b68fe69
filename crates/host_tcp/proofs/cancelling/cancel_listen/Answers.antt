use Rattle.std.proofs.Common.{refl}
use Rattle.wasi_world.proofs.Walks.{asks_given}
use Rattle.host_store.specs.Store.{Records}
use Rattle.host_tcp.proofs.Cancels.{listen_balances, listen_cancelled, listen_stays}
use Rattle.host_store.proofs.KnownSides.{knows_polled}
use Rattle.wasi_records.proofs.Lookups.{found_at, none_at}
use Rattle.host_store.specs.declared.store.Store.TheView.{view}
use Rattle.host_tcp.proofs.cancelling.cancel_listen.Goals as goal

pub returns-in_default-clause-asked : goal.returns-in_default-clause-asked
returns-in_default-clause-asked g c = rw (← c.store.view_is, none_at c.store.inside.records.items c.args.place c.in_default.ensures.item) (asks_given _ _ refl refl)

pub returns-clause-asked : goal.returns-clause-asked
returns-clause-asked g c =
    let store : Records = view c.store.inside in
    rw (← c.store.view_is, found_at c.store.inside.records.items c.args.place c.in-Some.record c.in-Some.ensures.item)
    (listen_cancelled store c.args.place c.in-Some.record.now c.give_listening_up.new.self c.give_listening_up.result c.give_listening_up.ensures.asked c.give_listening_up.ensures.ok)

pub returns-clause-sides : goal.returns-clause-sides
returns-clause-sides g c = λ k.
    let store : Records = view c.store.inside in
    knows_polled store c.args.place c.in-Some.record.now c.give_listening_up.new.self (found_at c.store.inside.records.items c.args.place c.in-Some.record c.in-Some.ensures.item)
    (listen_balances c.in-Some.record.now c.give_listening_up.new.self c.give_listening_up.result c.give_listening_up.ensures.asked c.give_listening_up.ensures.ok c.give_listening_up.ensures.err c.give_listening_up.ensures.unasked) (rw (← c.store.view_is) at k)

pub returns-clause-left : goal.returns-clause-left
returns-clause-left g c =
    let store : Records = view c.store.inside in
    rw (← c.store.view_is, found_at c.store.inside.records.items c.args.place c.in-Some.record c.in-Some.ensures.item)
    (listen_stays store c.args.place c.in-Some.record.now c.give_listening_up.new.self c.give_listening_up.result c.give_listening_up.ensures.err)

pub returns-clause-unasked : goal.returns-clause-unasked
returns-clause-unasked g c = c.give_listening_up.ensures.unasked
