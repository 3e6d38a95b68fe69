use Rattle.std.proofs.Common.{refl}
use Rattle.wasi_world.proofs.Walks.{asks_exit, asks_end, asks_given}
use Rattle.wasi_records.specs.declared.records.Record.TheVariants.{Tcp}
use Rattle.host_store.specs.Store.{Records}
use Rattle.host_store.proofs.KnownSides.{knows_polled}
use Rattle.wasi_records.proofs.Lookups.{found_at, none_at}
use Rattle.host_store.proofs.GivenBack.{put_none}
use Rattle.host_store.specs.declared.store.Store.TheView.{view}
use Rattle.host_tcp.proofs.releasing.tcp_release.Goals as goal

pub returns-in_default-clause-asked : goal.returns-in_default-clause-asked
returns-in_default-clause-asked g c = rw (← c.store.view_is, none_at c.store.inside.records.items c.args.place c.in_default.ensures.item) (asks_given _ _ refl refl)

pub returns-in_err-release-clause-asked : goal.returns-in_err-release-clause-asked
returns-in_err-release-clause-asked g c =
    rw (← c.store.view_is, found_at c.store.inside.records.items c.args.place c.in-Some.record c.in-Some.ensures.item)
    (asks_exit _ _ c.from_residual.ensures.1 c.in_err-release.ensures.asked.err)

pub returns-in_err-release-clause-sides : goal.returns-in_err-release-clause-sides
returns-in_err-release-clause-sides g c = λ k.
    let store : Records = view c.store.inside in
    knows_polled store c.args.place c.in-Some.record.now c.release.new.self (found_at c.store.inside.records.items c.args.place c.in-Some.record c.in-Some.ensures.item) c.release.ensures.sides (rw (← c.store.view_is) at k)

pub returns-clause-asked : goal.returns-clause-asked
returns-clause-asked g c =
    rw (← c.store.view_is, found_at c.store.inside.records.items c.args.place c.in-Some.record c.in-Some.ensures.item, c.give_back.ensures.state)
    (asks_end _ c.in_ok-release.ensures.asked.ok refl)

pub returns-clause-sides : goal.returns-clause-sides
returns-clause-sides g c = λ k.
    let store : Records = view c.store.inside in
    c.give_back.ensures.sides (g.W.World.seen c.release.new.world) (put_none c.store.inside.records.items c.args.place (Tcp c.release.new.self) c.in_ok-release.ensures.none)
    (knows_polled store c.args.place c.in-Some.record.now c.release.new.self (found_at c.store.inside.records.items c.args.place c.in-Some.record c.in-Some.ensures.item) c.release.ensures.sides (rw (← c.store.view_is) at k))
