use Rattle.std.proofs.Common.{[], refl, sym}
use Rattle.wasi_records.specs.declared.records.Record.TheVariants.{InputPipe}
use Rattle.host_store.proofs.GivenBack.{was_none}
use Rattle.wasi_records.proofs.PipeCounts.{held_in-input}
use Rattle.host_streams.proofs.plain_streams.drop_plain_input.Goals as goal

pub returns-clause-sides : goal.returns-clause-sides
returns-clause-sides c = λ s k.
    let items = c.store.inside.records.items in
    let place = c.in-Pipe.place in
    c.give_back.ensures.sides s (rw (← c.store.view_is) (was_none items place (InputPipe []) refl (held_in-input items place c.in-Some._dropped.now [] (sym c.in-Some.ensures.item)))) k
