use Rattle.std.proofs.Common.{List, Err, ap, sym, ◌∙◌, refl}
use Rattle.wasi_addr.specs.declared.p2.ErrorCode.TheVariants.{ConcurrencyConflict, InvalidState}
use Rattle.wasi_world.specs.declared.ids.OpId.{OpId}
use Rattle.wasi_world.specs.Asks.{Give}
use Rattle.wasi_world.proofs.Walks.{asks_at, asks_end, asks_given}
use Rattle.wasi_records.specs.declared.records.Record.{Record}
use Rattle.record_common.specs.Stops.{Code}
use Rattle.wasi_records.specs.Sides.{held_in}
use Rattle.host_store.specs.Standing.{allowed_answer}
use Rattle.host_store.specs.Store.{Records}
use Rattle.udp_records.specs.Udp.{begin_udp_bind_asks}
use Rattle.host_udp.specs.UdpCalls.{start_udp_bind_by, start_udp_bind_unless}
use Rattle.host_store.specs.Store.{with_open_udp}
use Rattle.record_common.proofs.Hosts.{host_refused}
use Rattle.host_store.proofs.KnownSides.{knows_none, knows_stood, knows_same}
use Rattle.wasi_records.proofs.UdpLookups.{open_found, not_open, open_back, held_in-open}
use Rattle.host_store.specs.declared.store.Store.TheView.{view}
use Rattle.host_udp.proofs.udp_calls.start_udp_bind.Goals as goal

pub returns-in_default-clause-asked : goal.returns-in_default-clause-asked
returns-in_default-clause-asked g c = rw (← c.store.view_is, not_open c.store.inside.records.items c.args.place c.in_default.ensures.item) (asks_given _ _ refl refl)

pub returns-then-not-is_nothing-clause-asked : goal.returns-then-not-is_nothing-clause-asked
returns-then-not-is_nothing-clause-asked g c =
    let store : Records = view c.store.inside in
    rw (← c.store.view_is, open_found c.store.inside.records.items c.args.place c.in-Some.socket c.in-Some.ensures.item)
    (asks_at (start_udp_bind_by store c.args.ids c.args.place c.args.addr c.in-Some.socket.now) (sym c.is_nothing.ensures ∙ c.if-not-is_nothing.true)
    (asks_given (Err (Code ConcurrencyConflict)) _ refl (ap (λ (l : List Record). Give (Err (Code ConcurrencyConflict), record store { records = l })) (sym (open_back c.store.inside.records.items c.args.place c.in-Some.socket c.in-Some.ensures.item)))))

pub returns-in_err-answer-clause-asked : goal.returns-in_err-answer-clause-asked
returns-in_err-answer-clause-asked g c =
    let store : Records = view c.store.inside in
    rw (← c.store.view_is, open_found c.store.inside.records.items c.args.place c.in-Some.socket c.in-Some.ensures.item)
    (asks_at (start_udp_bind_by store c.args.ids c.args.place c.args.addr c.in-Some.socket.now) (sym c.is_nothing.ensures ∙ c.if-not-is_nothing.false)
    (asks_at (start_udp_bind_unless store c.args.ids c.args.place c.args.addr c.in-Some.socket.now) (sym c.has_streams.ensures ∙ c.if-has_streams.false)
    (host_refused _ _ c.from_residual.result c.from_residual.ensures.1 (asks_at (λ (x : OpId). begin_udp_bind_asks x c.in-Some.socket.now c.args.addr) (sym c.own.ensures) c.in_err-answer.ensures.asked) (λ code. refl))))

pub returns-in_err-answer-clause-sides : goal.returns-in_err-answer-clause-sides
returns-in_err-answer-clause-sides g c = λ k.
    knows_none _ _ c.begin_bind.ensures.none (held_in-open c.store.inside.records.items c.args.place c.in-Some.socket.now c.begin_bind.new.self (open_found c.store.inside.records.items c.args.place c.in-Some.socket c.in-Some.ensures.item) c.begin_bind.ensures.side) (rw (← c.store.view_is) at k)

pub returns-clause-asked : goal.returns-clause-asked
returns-clause-asked g c =
    let store : Records = view c.store.inside in
    rw (← c.store.view_is, open_found c.store.inside.records.items c.args.place c.in-Some.socket c.in-Some.ensures.item)
    (asks_at (start_udp_bind_by store c.args.ids c.args.place c.args.addr c.in-Some.socket.now) (sym c.is_nothing.ensures ∙ c.if-not-is_nothing.false)
    (asks_at (start_udp_bind_unless store c.args.ids c.args.place c.args.addr c.in-Some.socket.now) (sym c.has_streams.ensures ∙ c.if-has_streams.false)
    (asks_end _ (asks_at (λ (x : OpId). begin_udp_bind_asks x c.in-Some.socket.now c.args.addr) (sym c.own.ensures) c.in_ok-answer.ensures.asked).ok (ap (λ d. Give (allowed_answer d)) (sym c.stand.ensures)))))

pub returns-clause-sides : goal.returns-clause-sides
returns-clause-sides g c = λ k.
    let store : Records = view c.store.inside in
    knows_stood (with_open_udp store c.args.place c.begin_bind.new.self) _ _ _ _ _ c.stand.ensures
    (knows_none store (with_open_udp store c.args.place c.begin_bind.new.self) c.begin_bind.ensures.none
    (held_in-open c.store.inside.records.items c.args.place c.in-Some.socket.now c.begin_bind.new.self (open_found c.store.inside.records.items c.args.place c.in-Some.socket c.in-Some.ensures.item) c.begin_bind.ensures.side)
    (rw (← c.store.view_is) at k))

pub returns-then-not-is_nothing-clause-sides : goal.returns-then-not-is_nothing-clause-sides
returns-then-not-is_nothing-clause-sides g c = λ k. knows_same _ _ (ap held_in (open_back c.store.inside.records.items c.args.place c.in-Some.socket c.in-Some.ensures.item)) (rw (← c.store.view_is) at k)

pub returns-then-has_streams-clause-asked : goal.returns-then-has_streams-clause-asked
returns-then-has_streams-clause-asked g c =
    let store : Records = view c.store.inside in
    rw (← c.store.view_is, open_found c.store.inside.records.items c.args.place c.in-Some.socket c.in-Some.ensures.item)
    (asks_at (start_udp_bind_by store c.args.ids c.args.place c.args.addr c.in-Some.socket.now) (sym c.is_nothing.ensures ∙ c.if-not-is_nothing.false)
    (asks_at (start_udp_bind_unless store c.args.ids c.args.place c.args.addr c.in-Some.socket.now) (sym c.has_streams.ensures ∙ c.if-has_streams.true)
    (asks_given (Err (Code InvalidState)) _ refl (ap (λ (l : List Record). Give (Err (Code InvalidState), record store { records = l })) (sym (open_back c.store.inside.records.items c.args.place c.in-Some.socket c.in-Some.ensures.item))))))

pub returns-then-has_streams-clause-sides : goal.returns-then-has_streams-clause-sides
returns-then-has_streams-clause-sides g c = λ k. knows_same _ _ (ap held_in (open_back c.store.inside.records.items c.args.place c.in-Some.socket c.in-Some.ensures.item)) (rw (← c.store.view_is) at k)
