use Rattle.std.proofs.Common.{ap, refl, ◌∙◌}
use Rattle.host_store.specs.declared.machine.Machine.{Machine}
use Rattle.wasi_records.specs.Sides.{held_in}
use Rattle.host_store.specs.Store.{Records}
use Rattle.record_common.proofs.Hosts.{fault_none}
use Rattle.wasi_records.proofs.PipeCounts.{held_in-more}
use Rattle.host_streams.proofs.Pipes.{pipe_made, pipe_refused}
use Rattle.host_store.proofs.KnownSides.{knows_same}
use Rattle.host_store.specs.declared.store.Store.TheView.{view}
use Rattle.host_streams.proofs.plain_streams.make_pipe.Goals as goal

pub returns-in_err-reserve-clause-asked : goal.returns-in_err-reserve-clause-asked
returns-in_err-reserve-clause-asked g c = fault_none c.from_residual.result c.from_residual.ensures.1 refl

pub returns-in_err-handle-clause-asked : goal.returns-in_err-handle-clause-asked
returns-in_err-handle-clause-asked g c =
    let m : Machine = record { table = c.args.table.now; store = view c.store.inside } in
    rw (← c.store.view_is)
    (pipe_refused m c.args.own c.args.kind c.args.pipe _ c.from_residual-in_err-handle.result c.reserve.ensures.items c.from_residual-in_err-handle.ensures.1 c.in_err-handle.ensures.asked)

pub returns-clause-asked : goal.returns-clause-asked
returns-clause-asked g c =
    let m : Machine = record { table = c.args.table.now; store = view c.store.inside } in
    rw (← c.store.view_is)
    (pipe_made m c.args.own c.args.kind c.args.pipe c.in_ok-handle.handle (rw c.reserve.ensures.items at c.push_reserved.ensures.items) c.in_ok-handle.ensures.asked)

pub returns-clause-sides : goal.returns-clause-sides
returns-clause-sides g c = λ k.
    let store : Records = view c.store.inside in
    knows_same store _ (ap held_in (rw c.reserve.ensures.items at c.push_reserved.ensures.items) ∙ held_in-more store.records c.args.pipe c.requires.holds_none) (c.in_ok-handle.ensures.sides store (rw (← c.store.view_is) at k))
