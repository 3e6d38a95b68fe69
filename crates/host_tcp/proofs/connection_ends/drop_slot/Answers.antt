use Rattle.std.proofs.Common.{refl, sym}
use Rattle.wasi_records.specs.declared.records.Record.TheVariants.{Slot as SlotRecord}
use Rattle.tcp_records.specs.declared.slot.Slot.TheVariants.{Unfilled}
use Rattle.wasi_records.proofs.SlotCounts.{held_in-slot}
use Rattle.host_store.proofs.GivenBack.{was_none}
use Rattle.host_tcp.proofs.connection_ends.drop_slot.Goals as goal

pub returns-clause-sides : goal.returns-clause-sides
returns-clause-sides c = λ s k.
    let items = c.store.inside.records.items in
    let slot = c.args.slot in
    c.give_back.ensures.sides s (rw (← c.store.view_is) (was_none items slot (SlotRecord Unfilled) refl (held_in-slot items slot c.in-Some._dropped.now Unfilled (sym c.in-Some.ensures.item)))) k
