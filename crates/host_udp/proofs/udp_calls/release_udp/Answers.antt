use Rattle.std.proofs.Common.{◌≡◌, List, refl, ap, sym, ◌∙◌}
use Rattle.wasi_world.specs.Asks.{Give}
use Rattle.wasi_world.proofs.Walks.{asks_end, asks_exit, asks_given}
use Rattle.udp_records.proofs.ReceiveLists.{on_err}
use Rattle.wasi_records.specs.declared.records.Record.{Record}
use Rattle.host_store.specs.Store.{Records}
use Rattle.host_store.specs.Store.{with_udp}
use Rattle.host_udp.proofs.UdpLeft.{udp_there, left_put}
use Rattle.wasi_records.proofs.UdpLookups.{udp_at, no_udp, udp_put_same}
use Rattle.host_store.proofs.KnownSides.{knows_fewer}
use Rattle.host_store.specs.declared.store.Store.TheView.{view}
use Rattle.host_udp.proofs.udp_calls.release_udp.Goals as goal

pub returns-in_default-clause-asked : goal.returns-in_default-clause-asked
returns-in_default-clause-asked g c = rw (← c.store.view_is, no_udp c.store.inside.records.items c.args.place c.in_default.ensures.item) (asks_given _ _ refl refl)

pub returns-in_err-close-clause-asked : goal.returns-in_err-close-clause-asked
returns-in_err-close-clause-asked g c = rw (← c.store.view_is, udp_at c.store.inside.records.items c.args.place c.in-Some.record c.in-Some.ensures.item) (asks_exit _ _ c.from_residual.ensures.1 c.in_err-close.ensures.asked.err)

pub returns-in_err-close-clause-sides : goal.returns-in_err-close-clause-sides
returns-in_err-close-clause-sides g c = λ k.
    let store : Records = view c.store.inside in
    knows_fewer store c.args.place c.in-Some.record.now c.close.new.self (udp_at c.store.inside.records.items c.args.place c.in-Some.record c.in-Some.ensures.item) c.close.ensures.held (rw (← c.store.view_is) at k)

pub returns-clause-asked : goal.returns-clause-asked
returns-clause-asked g c =
    let store : Records = view c.store.inside in
    let found = udp_at c.store.inside.records.items c.args.place c.in-Some.record c.in-Some.ensures.item in
    let left = c.leave_udp.ensures.state c.close.new.self (udp_there store.records c.args.place c.in-Some.record.now c.close.new.self found) ∙ left_put store c.args.place c.close.new.self in
    rw (← c.store.view_is, found) (asks_end _ c.in_ok-close.ensures.asked.ok (ap (λ (now : Records). Give (tt, now)) (sym left)))

pub returns-clause-sides : goal.returns-clause-sides
returns-clause-sides g c = λ k.
    let store : Records = view c.store.inside in
    c.leave_udp.ensures.sides _ (knows_fewer store c.args.place c.in-Some.record.now c.close.new.self (udp_at c.store.inside.records.items c.args.place c.in-Some.record c.in-Some.ensures.item) c.close.ensures.held (rw (← c.store.view_is) at k))

pub returns-in_err-close-clause-err : goal.returns-in_err-close-clause-err
returns-in_err-close-clause-err g c =
    let store : Records = view c.store.inside in
    let found = udp_at c.store.inside.records.items c.args.place c.in-Some.record c.in-Some.ensures.item in
    let same : with_udp store c.args.place c.close.new.self ≡ store = rw c.in_err-close.ensures.err (ap (λ (l : List Record). let r : Records = record store { records = l } in r) (udp_put_same c.store.inside.records.items c.args.place c.in-Some.record.now found)) in
    on_err c.from_residual.result (same ∙ c.store.view_is)

pub returns-in_err-close-clause-unasked : goal.returns-in_err-close-clause-unasked
returns-in_err-close-clause-unasked g c = on_err c.from_residual.result c.in_err-close.ensures.unasked

pub returns-in_err-close-clause-exclusive : goal.returns-in_err-close-clause-exclusive
returns-in_err-close-clause-exclusive g c = ap (λ (store : Records). store.standing) c.store.view_is

pub returns-clause-exclusive : goal.returns-clause-exclusive
returns-clause-exclusive g c = c.leave_udp.ensures.exclusive ∙ ap (λ (store : Records). store.standing) c.store.view_is
