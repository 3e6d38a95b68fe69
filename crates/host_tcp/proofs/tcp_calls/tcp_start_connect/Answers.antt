use Rattle.std.proofs.Common.{List, Err, ap, sym, ◌∙◌, refl}
use Rattle.wasi_addr.specs.declared.p2.ErrorCode.TheVariants.{ConcurrencyConflict}
use Rattle.wasi_world.specs.Asks.{Give}
use Rattle.wasi_world.proofs.Walks.{asks_at, asks_end, asks_given}
use Rattle.wasi_records.specs.Sides.{held_in}
use Rattle.wasi_records.specs.declared.records.Record.{Record}
use Rattle.record_common.specs.Stops.{Code}
use Rattle.host_store.specs.Store.{Records}
use Rattle.host_tcp.specs.TcpCalls.{start_connect_by}
use Rattle.record_common.proofs.Hosts.{host_refused}
use Rattle.wasi_records.proofs.Lookups.{found_at, none_at, set_back}
use Rattle.record_common.proofs.SideCounts.{Any}
use Rattle.wasi_records.proofs.SideCounts.{held_in-set}
use Rattle.tcp_records.proofs.SideCounts.{calm_begin_connect}
use Rattle.host_store.proofs.KnownSides.{knows_asked, knows_calm, knows_same}
use Rattle.host_store.specs.declared.store.Store.TheView.{view}
use Rattle.host_tcp.proofs.tcp_calls.tcp_start_connect.Goals as goal

pub returns-in_default-clause-asked : goal.returns-in_default-clause-asked
returns-in_default-clause-asked g c = rw (← c.store.view_is, none_at c.store.inside.records.items c.args.place c.in_default.ensures.item) (asks_given _ _ refl refl)

pub returns-then-not-is_nothing-clause-asked : goal.returns-then-not-is_nothing-clause-asked
returns-then-not-is_nothing-clause-asked g c =
    let store : Records = view c.store.inside in
    rw (← c.store.view_is, found_at c.store.inside.records.items c.args.place c.in-Some.record c.in-Some.ensures.item)
    (asks_at (start_connect_by store c.args.op c.args.place c.args.addr c.in-Some.record.now) (sym c.is_nothing.ensures ∙ c.if-not-is_nothing.true)
    (asks_given (Err (Code ConcurrencyConflict)) _ refl (ap (λ (l : List Record). Give (Err (Code ConcurrencyConflict), record store { records = l })) (sym (set_back c.store.inside.records.items c.args.place c.in-Some.record c.in-Some.ensures.item)))))

pub returns-in_err-begin_connect-clause-asked : goal.returns-in_err-begin_connect-clause-asked
returns-in_err-begin_connect-clause-asked g c =
    let store : Records = view c.store.inside in
    rw (← c.store.view_is, found_at c.store.inside.records.items c.args.place c.in-Some.record c.in-Some.ensures.item)
    (asks_at (start_connect_by store c.args.op c.args.place c.args.addr c.in-Some.record.now) (sym c.is_nothing.ensures ∙ c.if-not-is_nothing.false)
    (host_refused _ _ c.from_residual.result c.from_residual.ensures.1 c.in_err-begin_connect.ensures.asked (λ code. refl)))

pub returns-clause-asked : goal.returns-clause-asked
returns-clause-asked g c =
    let store : Records = view c.store.inside in
    rw (← c.store.view_is, found_at c.store.inside.records.items c.args.place c.in-Some.record c.in-Some.ensures.item)
    (asks_at (start_connect_by store c.args.op c.args.place c.args.addr c.in-Some.record.now) (sym c.is_nothing.ensures ∙ c.if-not-is_nothing.false)
    (asks_end _ c.in_ok-begin_connect.ensures.asked.ok refl))

pub returns-in_err-begin_connect-clause-sides : goal.returns-in_err-begin_connect-clause-sides
returns-in_err-begin_connect-clause-sides g c = λ k.
    knows_asked Any _ _ _ (calm_begin_connect c.args.op c.in-Some.record.now c.args.addr) c.in_err-begin_connect.ensures.asked
    (held_in-set c.store.inside.records.items c.args.place c.in-Some.record.now c.begin_connect.new.self (found_at c.store.inside.records.items c.args.place c.in-Some.record c.in-Some.ensures.item) c.begin_connect.ensures.side c.begin_connect.ensures.listening)
    (rw (← c.store.view_is) at k)

pub returns-clause-sides : goal.returns-clause-sides
returns-clause-sides g c = λ k.
    knows_calm Any _ _ (calm_begin_connect c.args.op c.in-Some.record.now c.args.addr) c.in_ok-begin_connect.ensures.asked.ok
    (held_in-set c.store.inside.records.items c.args.place c.in-Some.record.now c.begin_connect.new.self (found_at c.store.inside.records.items c.args.place c.in-Some.record c.in-Some.ensures.item) c.begin_connect.ensures.side c.begin_connect.ensures.listening)
    (rw (← c.store.view_is) at k)

pub returns-then-not-is_nothing-clause-sides : goal.returns-then-not-is_nothing-clause-sides
returns-then-not-is_nothing-clause-sides g c = λ k. knows_same _ _ (ap held_in (set_back c.store.inside.records.items c.args.place c.in-Some.record c.in-Some.ensures.item)) (rw (← c.store.view_is) at k)
