use Rattle.std.proofs.Common.{sym}
use Rattle.wasi_records.proofs.SlotCounts.{held_in-slot}
use Rattle.host_store.proofs.KnownSides.{knows_same}
use Rattle.host_tcp.proofs.connection_ends.fill.Goals as goal

pub returns-clause-sides : goal.returns-clause-sides
returns-clause-sides c = λ s k. knows_same _ _ (held_in-slot c.store.inside.records.items c.args.slot c.in-Some.found.now c.fill.new.self (sym c.in-Some.ensures.item)) (rw (← c.store.view_is) at k)
