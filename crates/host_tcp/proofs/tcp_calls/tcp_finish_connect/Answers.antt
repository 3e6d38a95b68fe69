use Rattle.std.proofs.Common.{List, Err, ap, sym, refl}
use Rattle.wasi_addr.specs.declared.p2.ErrorCode.TheVariants.{NotInProgress}
use Rattle.wasi_world.specs.Asks.{Give}
use Rattle.wasi_world.proofs.Walks.{asks_given}
use Rattle.host_store.proofs.KnownSides.{knows_same, knows_polled}
use Rattle.wasi_records.specs.Sides.{held_in}
use Rattle.wasi_records.specs.declared.records.Record.{Record}
use Rattle.record_common.specs.Stops.{Code}
use Rattle.host_store.specs.Store.{Records, with_socket}
use Rattle.host_store.proofs.Called.{called_last}
use Rattle.wasi_records.proofs.Lookups.{found_at, none_at, set_back}
use Rattle.host_store.specs.declared.store.Store.TheView.{view}
use Rattle.host_tcp.proofs.tcp_calls.tcp_finish_connect.Goals as goal

pub returns-in_default-clause-asked : goal.returns-in_default-clause-asked
returns-in_default-clause-asked g c = rw (← c.store.view_is, none_at c.store.inside.records.items c.args.place c.in_default.ensures.item) (asks_given _ _ refl refl)

pub returns-then-not-is_started-clause-asked : goal.returns-then-not-is_started-clause-asked
returns-then-not-is_started-clause-asked g c =
    rw (← c.store.view_is, found_at c.store.inside.records.items c.args.place c.in-Some.record c.in-Some.ensures.item, ← c.is_started.ensures, c.if-not-is_started.true)
    (asks_given (Err (Code NotInProgress)) _ refl (ap (λ (l : List Record). Give (Err (Code NotInProgress), record { records = l; jobs = c.store.inside.jobs.items; standing = c.store.inside.standing; beside = c.store.inside.beside; limits = c.store.inside.limits.items })) (sym (set_back c.store.inside.records.items c.args.place c.in-Some.record c.in-Some.ensures.item))))

pub returns-clause-asked : goal.returns-clause-asked
returns-clause-asked g c =
    let store : Records = view c.store.inside in
    rw (← c.store.view_is, found_at c.store.inside.records.items c.args.place c.in-Some.record c.in-Some.ensures.item, ← c.is_started.ensures, c.if-not-is_started.false)
    (called_last (with_socket store c.args.place) c.poll_connect.ensures.asked)

pub returns-clause-sides : goal.returns-clause-sides
returns-clause-sides g c = λ k.
    let store : Records = view c.store.inside in
    knows_polled store c.args.place c.in-Some.record.now c.poll_connect.new.self (found_at c.store.inside.records.items c.args.place c.in-Some.record c.in-Some.ensures.item) c.poll_connect.ensures.sides (rw (← c.store.view_is) at k)

pub returns-then-not-is_started-clause-sides : goal.returns-then-not-is_started-clause-sides
returns-then-not-is_started-clause-sides g c = λ k. knows_same _ _ (ap held_in (set_back c.store.inside.records.items c.args.place c.in-Some.record c.in-Some.ensures.item)) (rw (← c.store.view_is) at k)
