use Rattle.std.proofs.Common.{List, Ok, Err, length, sym, ap, ◌∙◌}
use Rattle.wasi_world.specs.declared.outcome.TrapKind.TheVariants.{NoSuchHandle}
use Rattle.wasi_records.specs.declared.records.Record.{Record}
use Rattle.tcp_records.specs.Ends.{take_receive_end}
use Rattle.wasi_records.specs.Sides.{held_in}
use Rattle.record_common.specs.Stops.{Trap}
use Rattle.host_tcp.specs.ConnectionEnds.{end_of, with_end}
use Rattle.host_store.specs.Store.{Records}
use Rattle.host_tcp.proofs.AcceptedRecords.{found_still, none_still}
use Rattle.host_tcp.proofs.ConnectionEnds.{held_by_end, no_answer}
use Rattle.host_store.proofs.KnownSides.{knows_same}
use Rattle.host_store.specs.declared.store.Store.TheView.{view}
use Rattle.host_tcp.proofs.connection_ends.take_receive_end.Goals as goal

pub returns-in_err-reserve-clause-taken : goal.returns-in_err-reserve-clause-taken
returns-in_err-reserve-clause-taken c = no_answer _ c.from_residual.result c.from_residual.ensures.1

pub returns-in_err-reserve-clause-sides : goal.returns-in_err-reserve-clause-sides
returns-in_err-reserve-clause-sides c = λ s k. knows_same _ _ (ap held_in c.reserve.ensures.items) (rw (← c.store.view_is) at k)

pub returns-in_default-clause-taken : goal.returns-in_default-clause-taken
returns-in_default-clause-taken c =
    let store : Records = view c.store.inside in
    rw (← c.store.view_is, none_still c.reserve.new.self.items c.store.inside.records.items c.args.place c.reserve.ensures.items c.in_default.ensures.item)
    (ap (λ (l : List Record). (Err (Trap NoSuchHandle), record store { records = l })) c.reserve.ensures.items)

pub returns-in_default-clause-sides : goal.returns-in_default-clause-sides
returns-in_default-clause-sides c = λ s k. knows_same _ _ (ap held_in c.reserve.ensures.items) (rw (← c.store.view_is) at k)

pub returns-clause-taken : goal.returns-clause-taken
returns-clause-taken c =
    let store : Records = view c.store.inside in
    rw (← c.store.view_is, found_still c.reserve.new.self.items c.store.inside.records.items c.args.place c.in-Some.record c.reserve.ensures.items c.in-Some.ensures.item, c.connection_end.ensures, c.len-slot.ensures, c.push_reserved.ensures.items, c.new.ensures, c.take_receive_end-taken.ensures.told, c.take_receive_end-taken.ensures.record)
    (ap (λ (l : List Record). (Ok (end_of c.args.place (length l) (take_receive_end c.in-Some.record.now).0), with_end c.args.place (take_receive_end c.in-Some.record.now) (record store { records = l }))) c.reserve.ensures.items)

pub returns-clause-sides : goal.returns-clause-sides
returns-clause-sides c = λ s k.
    knows_same _ _ (ap held_in c.push_reserved.ensures.items ∙ (held_by_end c.reserve.new.self.items c.args.place c.in-Some.record.now c.take_receive_end-taken.new.self c.new.result (sym c.in-Some.ensures.item) c.take_receive_end-taken.ensures.side c.take_receive_end-taken.ensures.listening ∙ ap held_in c.reserve.ensures.items))
    (rw (← c.store.view_is) at k)
