use Rattle.std.proofs.Common.{refl}
use Rattle.host_store.specs.Store.{Records}
use Rattle.tcp_records.proofs.ConnectCounts.{balances_as}
use Rattle.host_store.proofs.KnownSides.{knows_polled}
use Rattle.wasi_records.proofs.Lookups.{found_at}
use Rattle.tcp_records.proofs.SideCounts.{balances_none}
use Rattle.host_store.specs.declared.store.Store.TheView.{view}
use Rattle.host_tcp.proofs.cancelling.tcp_cancel_bind.Goals as goal

pub returns-clause-sides : goal.returns-clause-sides
returns-clause-sides c = λ s k.
    let store : Records = view c.store.inside in
    knows_polled store c.args.place c.in-Some.record.now _ (found_at c.store.inside.records.items c.args.place c.in-Some.record c.in-Some.ensures.item) (balances_as _ refl (balances_none c.in-Some.record.now s)) (rw (← c.store.view_is) at k)
