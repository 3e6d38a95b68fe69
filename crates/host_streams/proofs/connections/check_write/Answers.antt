use Rattle.std.proofs.Common.{◌≡◌, ℕ, refl, ap, sym, ◌∙◌}
use Rattle.wasi_world.proofs.Walks.{asks_at, asks_gives, asks_given}
use Rattle.wasi_tcp.specs.Writer.{check_write_asks}
use Rattle.tcp_records.specs.Halves.{writer_asks}
use Rattle.host_store.specs.Limits.{most_at}
use Rattle.host_store.specs.Store.{Records, with_record_put}
use Rattle.wasi_records.specs.Records.{tcp2_at}
use Rattle.wasi_records.proofs.Lookups.{found_at, none_at}
use Rattle.record_common.proofs.SideCounts.{Any}
use Rattle.wasi_records.proofs.SideCounts.{held_in-set}
use Rattle.host_store.proofs.KnownSides.{knows_asked}
use Rattle.host_store.proofs.KeptLimits.{most_small}
use Rattle.tcp_records.proofs.StreamCounts.{calm_writer, calm_check}
use Rattle.host_store.specs.declared.store.Store.TheView.{view}
use Rattle.host_streams.proofs.connections.check_write.Goals as goal

pub check_write-requires-clause-most : goal.check_write-requires-clause-most
check_write-requires-clause-most g c = rw c.most_for-most.ensures (most_small c.args.store.now _)

pub returns-clause-asked : goal.returns-clause-asked
returns-clause-asked g c =
    let store : Records = view c.store.inside in
    let here = found_at c.store.inside.records.items c.args.place c.in-Some.record c.in-Some.ensures.item in
    let told : c.most_for-most.result ≡ most_at store (tcp2_at c.store.inside.records.items c.args.place) = rw (← c.store.view_is) at c.most_for-most.ensures in
    rw (← c.store.view_is, here)
    (asks_gives (with_record_put store c.args.place)
    (asks_at (λ (n : ℕ). writer_asks (check_write_asks n c.args.op) c.in-Some.record.now) (sym (told ∙ ap (most_at store) here)) c.check_write.ensures.asked))

pub returns-in_default-clause-asked : goal.returns-in_default-clause-asked
returns-in_default-clause-asked g c = rw (← c.store.view_is, none_at c.store.inside.records.items c.args.place c.in_default.ensures.item) (asks_given _ _ refl refl)

pub returns-clause-sides : goal.returns-clause-sides
returns-clause-sides g c = λ k.
    knows_asked Any _ _ _ (calm_writer _ c.in-Some.record.now (calm_check c.most_for-most.result c.args.op)) c.check_write.ensures.asked
    (held_in-set c.store.inside.records.items c.args.place c.in-Some.record.now c.check_write.new.self (found_at c.store.inside.records.items c.args.place c.in-Some.record c.in-Some.ensures.item) c.check_write.ensures.side c.check_write.ensures.listening)
    (rw (← c.store.view_is) at k)
