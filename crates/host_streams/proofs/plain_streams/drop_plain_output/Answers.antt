use Rattle.std.proofs.Common.{refl, sym}
use Rattle.memory_streams.specs.Plain.{no_contents}
use Rattle.wasi_records.specs.declared.records.Record.TheVariants.{OutputPipe}
use Rattle.host_store.proofs.GivenBack.{was_none}
use Rattle.wasi_records.proofs.PipeCounts.{held_in-output}
use Rattle.host_streams.proofs.plain_streams.drop_plain_output.Goals as goal

pub returns-clause-sides : goal.returns-clause-sides
returns-clause-sides c = λ s k.
    let items = c.store.inside.records.items in
    let place = c.in-Pipe.place in
    c.give_back.ensures.sides s (rw (← c.store.view_is) (was_none items place (OutputPipe (no_contents 0)) refl (held_in-output items place c.in-Some._dropped.now (no_contents 0) (sym c.in-Some.ensures.item)))) k
