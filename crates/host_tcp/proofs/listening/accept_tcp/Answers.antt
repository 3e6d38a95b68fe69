use Rattle.std.proofs.Common.{List, Ok, Err, refl, sym, ap}
use Rattle.wasi_world.specs.declared.outcome.Answer.TheVariants.{Pending, Ready}
use Rattle.wasi_world.specs.declared.outcome.TrapKind.TheVariants.{NoSuchHandle}
use Rattle.wasi_world.specs.Asks.{Give}
use Rattle.wasi_world.proofs.Walks.{asks_end, asks_given}
use Rattle.wasi_records.specs.Records.{tcp2_put}
use Rattle.wasi_records.specs.declared.records.Record.{Record}
use Rattle.record_common.specs.Stops.{Code, Trap}
use Rattle.host_store.specs.BaseStops.{ends_as}
use Rattle.host_tcp.specs.Listens.{keep_accepted}
use Rattle.host_store.specs.Store.{Records}
use Rattle.host_tcp.proofs.AcceptedRecords.{found_still, none_still, names_left}
use Rattle.host_store.proofs.Bases.{base_passed, ends_none}
use Rattle.host_store.proofs.KnownSides.{knows_polled}
use Rattle.host_tcp.proofs.Listens.{knows_kept, none_given}
use Rattle.host_store.specs.declared.store.Store.TheView.{view}
use Rattle.host_tcp.proofs.listening.accept_tcp.Goals as goal

pub returns-in_err-reserve-clause-asked : goal.returns-in_err-reserve-clause-asked
returns-in_err-reserve-clause-asked g c = ends_none c.from_residual.result c.from_residual.ensures.1 refl

pub returns-in_default-clause-asked : goal.returns-in_default-clause-asked
returns-in_default-clause-asked g c =
    let store : Records = view c.store.inside in
    rw (← c.store.view_is, none_still c.reserve.new.self.items c.store.inside.records.items c.args.place c.reserve.ensures.items c.in_default.ensures.item)
    (asks_given (Err (Trap NoSuchHandle)) _ refl (ap (λ (l : List Record). Give (Err (Trap NoSuchHandle), record store { records = l })) (sym {A = List Record} c.reserve.ensures.items)))

pub returns-in_default-clause-names : goal.returns-in_default-clause-names
returns-in_default-clause-names g c = rw (← c.store.view_is, none_still c.reserve.new.self.items c.store.inside.records.items c.args.place c.reserve.ensures.items c.in_default.ensures.item) refl

pub returns-in_err-answer-clause-asked : goal.returns-in_err-answer-clause-asked
returns-in_err-answer-clause-asked g c =
    let store : Records = view c.store.inside in
    let found = found_still c.reserve.new.self.items c.store.inside.records.items c.args.place c.in-Some.record c.reserve.ensures.items c.in-Some.ensures.item in
    rw (← c.store.view_is, found)
    (base_passed _ c.poll_accept.result _ c.from_residual-in_err-answer.result c.from_residual-in_err-answer.ensures.1 c.in_err-answer.ensures.told c.poll_accept.ensures.asked
    (λ code. ap (λ (l : List Record). Give (Err (Code code), record store { records = tcp2_put l c.args.place c.poll_accept.new.self })) (sym {A = List Record} c.reserve.ensures.items)))

pub returns-in_err-answer-clause-sides : goal.returns-in_err-answer-clause-sides
returns-in_err-answer-clause-sides g c = λ k.
    let store : Records = view c.store.inside in
    let found = found_still c.reserve.new.self.items c.store.inside.records.items c.args.place c.in-Some.record c.reserve.ensures.items c.in-Some.ensures.item in
    rw c.reserve.ensures.items
    (knows_polled store c.args.place c.in-Some.record.now c.poll_accept.new.self found (none_given c.poll_accept.result _ c.in_err-answer.ensures.told c.poll_accept.ensures.sides) (rw (← c.store.view_is) at k))

pub returns-in_err-answer-clause-names : goal.returns-in_err-answer-clause-names
returns-in_err-answer-clause-names g c =
    let found = found_still c.reserve.new.self.items c.store.inside.records.items c.args.place c.in-Some.record c.reserve.ensures.items c.in-Some.ensures.item in
    rw (← c.store.view_is) (names_left (ends_as c.from_residual-in_err-answer.result) c.store.inside.records.items c.args.place c.args.ids.now c.poll_accept.new.ids c.in-Some.record.now found c.poll_accept.ensures.ids)

pub returns-in-Pending-clause-asked : goal.returns-in-Pending-clause-asked
returns-in-Pending-clause-asked g c =
    let store : Records = view c.store.inside in
    let found = found_still c.reserve.new.self.items c.store.inside.records.items c.args.place c.in-Some.record c.reserve.ensures.items c.in-Some.ensures.item in
    rw (← c.store.view_is, found)
    (asks_end _ (rw (c.in_ok-answer.ensures.ok, c.in-Pending.is) at c.poll_accept.ensures.asked).ok
    (ap (λ (l : List Record). Give (Ok Pending, record store { records = tcp2_put l c.args.place c.poll_accept.new.self })) (sym {A = List Record} c.reserve.ensures.items)))

pub returns-in-Pending-clause-sides : goal.returns-in-Pending-clause-sides
returns-in-Pending-clause-sides g c = λ k.
    let store : Records = view c.store.inside in
    let found = found_still c.reserve.new.self.items c.store.inside.records.items c.args.place c.in-Some.record c.reserve.ensures.items c.in-Some.ensures.item in
    rw c.reserve.ensures.items
    (knows_polled store c.args.place c.in-Some.record.now c.poll_accept.new.self found (rw (c.in_ok-answer.ensures.ok, c.in-Pending.is) at c.poll_accept.ensures.sides) (rw (← c.store.view_is) at k))

pub returns-in-Pending-clause-names : goal.returns-in-Pending-clause-names
returns-in-Pending-clause-names g c =
    let found = found_still c.reserve.new.self.items c.store.inside.records.items c.args.place c.in-Some.record c.reserve.ensures.items c.in-Some.ensures.item in
    rw (← c.store.view_is, found) c.poll_accept.ensures.ids

pub returns-in-Ready-clause-asked : goal.returns-in-Ready-clause-asked
returns-in-Ready-clause-asked g c =
    let store : Records = view c.store.inside in
    let found = found_still c.reserve.new.self.items c.store.inside.records.items c.args.place c.in-Some.record c.reserve.ensures.items c.in-Some.ensures.item in
    rw (← c.store.view_is, found, c.len-accepted.ensures, c.push_reserved.ensures.items, c.new.ensures)
    (asks_end _ (rw (c.in_ok-answer.ensures.ok, c.in-Ready.is) at c.poll_accept.ensures.asked).ok
    (ap (λ (l : List Record). keep_accepted (Ready c.in-Ready.socket) (record store { records = tcp2_put l c.args.place c.poll_accept.new.self })) (sym {A = List Record} c.reserve.ensures.items)))

pub returns-in-Ready-clause-sides : goal.returns-in-Ready-clause-sides
returns-in-Ready-clause-sides g c = λ k.
    let store : Records = view c.store.inside in
    let found = found_still c.reserve.new.self.items c.store.inside.records.items c.args.place c.in-Some.record c.reserve.ensures.items c.in-Some.ensures.item in
    rw (c.push_reserved.ensures.items, c.new.ensures)
    (knows_kept store c.args.place c.in-Some.record.now c.poll_accept.new.self c.in-Ready.socket c.reserve.new.self.items c.reserve.ensures.items found (rw (c.in_ok-answer.ensures.ok, c.in-Ready.is) at c.poll_accept.ensures.sides) (rw (← c.store.view_is) at k))
