use Rattle.std.proofs.Common.{List, Err, refl, sym, ap}
use Rattle.wasi_addr.specs.declared.p2.ErrorCode.TheVariants.{WouldBlock}
use Rattle.wasi_world.specs.declared.outcome.TrapKind.TheVariants.{NoSuchHandle}
use Rattle.wasi_world.specs.Asks.{Give}
use Rattle.wasi_world.proofs.Walks.{asks_end, asks_given}
use Rattle.wasi_records.specs.Records.{tcp2_put}
use Rattle.wasi_records.specs.declared.records.Record.{Record}
use Rattle.record_common.specs.Stops.{Code, Trap, code_stop, host_outcome}
use Rattle.wasi_records.specs.Accepted.{with_accepted_in}
use Rattle.host_tcp.specs.TcpCalls.{with_records}
use Rattle.host_store.specs.Store.{Records}
use Rattle.host_tcp.proofs.AcceptedRecords.{knows_accepted, found_still, none_still, names_left}
use Rattle.host_store.proofs.KnownSides.{knows_polled}
use Rattle.record_common.proofs.Hosts.{host_none, host_refused}
use Rattle.host_store.specs.declared.store.Store.TheView.{view}
use Rattle.host_tcp.proofs.tcp_calls.accept.Goals as goal

pub returns-in_err-reserve-clause-asked : goal.returns-in_err-reserve-clause-asked
returns-in_err-reserve-clause-asked g c = host_none c.from_residual.result c.from_residual.ensures.1 refl

pub returns-in_default-clause-asked : goal.returns-in_default-clause-asked
returns-in_default-clause-asked g c =
    let store : Records = view c.store.inside in
    rw (← c.store.view_is, none_still c.reserve.new.self.items c.store.inside.records.items c.args.place c.reserve.ensures.items c.in_default.ensures.item)
    (asks_given _ _ refl (ap (λ (l : List Record). Give (Err (Trap NoSuchHandle), record store { records = l })) (sym {A = List Record} c.reserve.ensures.items)))

pub returns-in_default-clause-names : goal.returns-in_default-clause-names
returns-in_default-clause-names g c = rw (← c.store.view_is, none_still c.reserve.new.self.items c.store.inside.records.items c.args.place c.reserve.ensures.items c.in_default.ensures.item) refl

pub returns-in_err-answer-clause-asked : goal.returns-in_err-answer-clause-asked
returns-in_err-answer-clause-asked g c =
    let store : Records = view c.store.inside in
    let found = found_still c.reserve.new.self.items c.store.inside.records.items c.args.place c.in-Some.record c.reserve.ensures.items c.in-Some.ensures.item in
    rw (← c.store.view_is, found)
    (host_refused _ _ c.from_residual-in_err-answer.result c.from_residual-in_err-answer.ensures.1 c.in_err-answer.ensures.asked
    (λ code. ap (λ (l : List Record). Give (Err (code_stop code), record store { records = tcp2_put l c.args.place c.poll_accept.new.self })) (sym {A = List Record} c.reserve.ensures.items)))

pub returns-in_err-answer-clause-sides : goal.returns-in_err-answer-clause-sides
returns-in_err-answer-clause-sides g c = λ k.
    let store : Records = view c.store.inside in
    let found = found_still c.reserve.new.self.items c.store.inside.records.items c.args.place c.in-Some.record c.reserve.ensures.items c.in-Some.ensures.item in
    rw c.reserve.ensures.items
    (knows_polled store c.args.place c.in-Some.record.now c.poll_accept.new.self found c.in_err-answer.ensures.sides (rw (← c.store.view_is) at k))

pub returns-in_err-answer-clause-names : goal.returns-in_err-answer-clause-names
returns-in_err-answer-clause-names g c =
    let found = found_still c.reserve.new.self.items c.store.inside.records.items c.args.place c.in-Some.record c.reserve.ensures.items c.in-Some.ensures.item in
    rw (← c.store.view_is) (names_left (host_outcome c.from_residual-in_err-answer.result) c.store.inside.records.items c.args.place c.args.ids.now c.poll_accept.new.ids c.in-Some.record.now found c.poll_accept.ensures.ids)

pub returns-in-Pending-clause-asked : goal.returns-in-Pending-clause-asked
returns-in-Pending-clause-asked g c =
    let store : Records = view c.store.inside in
    let found = found_still c.reserve.new.self.items c.store.inside.records.items c.args.place c.in-Some.record c.reserve.ensures.items c.in-Some.ensures.item in
    rw (← c.store.view_is, found)
    (asks_end _ (rw c.in-Pending.is at c.in_ok-answer.ensures.asked.ok)
    (ap (λ (l : List Record). Give (Err (Code WouldBlock), record store { records = tcp2_put l c.args.place c.poll_accept.new.self })) (sym {A = List Record} c.reserve.ensures.items)))

pub returns-in-Pending-clause-sides : goal.returns-in-Pending-clause-sides
returns-in-Pending-clause-sides g c = λ k.
    let store : Records = view c.store.inside in
    let found = found_still c.reserve.new.self.items c.store.inside.records.items c.args.place c.in-Some.record c.reserve.ensures.items c.in-Some.ensures.item in
    rw c.reserve.ensures.items
    (knows_polled store c.args.place c.in-Some.record.now c.poll_accept.new.self found (rw c.in-Pending.is at c.in_ok-answer.ensures.sides) (rw (← c.store.view_is) at k))

pub returns-in-Pending-clause-names : goal.returns-in-Pending-clause-names
returns-in-Pending-clause-names g c =
    let found = found_still c.reserve.new.self.items c.store.inside.records.items c.args.place c.in-Some.record c.reserve.ensures.items c.in-Some.ensures.item in
    rw (← c.store.view_is, found) c.poll_accept.ensures.ids

pub returns-in-Ready-clause-asked : goal.returns-in-Ready-clause-asked
returns-in-Ready-clause-asked g c =
    let store : Records = view c.store.inside in
    let found = found_still c.reserve.new.self.items c.store.inside.records.items c.args.place c.in-Some.record c.reserve.ensures.items c.in-Some.ensures.item in
    rw (← c.store.view_is, found, c.keep_accepted.ensures.told, c.keep_accepted.ensures.records)
    (asks_end _ (rw c.in-Ready.is at c.in_ok-answer.ensures.asked.ok)
    (ap (λ (l : List Record). Give (with_records store (with_accepted_in (tcp2_put l c.args.place c.poll_accept.new.self) c.in-Ready.socket))) (sym {A = List Record} c.reserve.ensures.items)))

pub returns-in-Ready-clause-sides : goal.returns-in-Ready-clause-sides
returns-in-Ready-clause-sides g c = λ k.
    let store : Records = view c.store.inside in
    let found = found_still c.reserve.new.self.items c.store.inside.records.items c.args.place c.in-Some.record c.reserve.ensures.items c.in-Some.ensures.item in
    knows_accepted store c.args.place c.in-Some.record.now c.poll_accept.new.self c.in-Ready.socket c.reserve.new.self.items c.keep_accepted.new.records.items c.reserve.ensures.items c.keep_accepted.ensures.records found (rw c.in-Ready.is at c.in_ok-answer.ensures.accepted) (rw c.in-Ready.is at c.in_ok-answer.ensures.sides) (rw (← c.store.view_is) at k)

pub returns-in-Ready-clause-names : goal.returns-in-Ready-clause-names
returns-in-Ready-clause-names g c =
    let found = found_still c.reserve.new.self.items c.store.inside.records.items c.args.place c.in-Some.record c.reserve.ensures.items c.in-Some.ensures.item in
    rw (← c.store.view_is) (names_left (host_outcome c.keep_accepted.result) c.store.inside.records.items c.args.place c.args.ids.now c.poll_accept.new.ids c.in-Some.record.now found c.poll_accept.ensures.ids)
