use Rattle.std.proofs.Common.{Err, ap, sym, ◌∙◌, refl}
use Rattle.wasi_world.specs.declared.ids.OpId.{OpId}
use Rattle.wasi_world.specs.declared.outcome.TrapKind.TheVariants.{StreamsAlive}
use Rattle.wasi_world.specs.Asks.{Give}
use Rattle.wasi_world.proofs.Walks.{asks_at, asks_end, asks_given}
use Rattle.host_udp.specs.DatagramCalls.{start_streams_by}
use Rattle.udp_records.specs.Datagrams.{begin_streams_asks}
use Rattle.record_common.specs.Stops.{Trap}
use Rattle.host_store.specs.Standing.{allowed_answer}
use Rattle.host_store.specs.Store.{Records}
use Rattle.host_udp.proofs.DatagramStores.{knows_open, knows_open-stood, knows_back, given_back}
use Rattle.record_common.proofs.Hosts.{host_refused}
use Rattle.wasi_records.proofs.UdpLookups.{open_found}
use Rattle.host_store.specs.declared.store.Store.TheView.{view}
use Rattle.host_udp.proofs.datagram_calls.start_streams.Goals as goal

pub returns-then-has_streams-clause-asked : goal.returns-then-has_streams-clause-asked
returns-then-has_streams-clause-asked g c =
    let store : Records = view c.store.inside in
    rw (← c.store.view_is, open_found c.store.inside.records.items c.args.place c.in-Some.socket c.in-Some.ensures.item)
    (asks_at (start_streams_by store c.args.ids c.args.place c.args.handle c.args.remote c.in-Some.socket.now) (sym c.has_streams.ensures ∙ c.if-has_streams.true)
    (asks_given (Err (Trap StreamsAlive)) _ refl (ap (λ (r : Records). Give (Err (Trap StreamsAlive), r)) (sym (given_back store c.args.place c.in-Some.socket c.in-Some.ensures.item)))))

pub returns-then-has_streams-clause-sides : goal.returns-then-has_streams-clause-sides
returns-then-has_streams-clause-sides g c = λ k.
    let store : Records = view c.store.inside in
    knows_back store c.args.place c.in-Some.socket c.in-Some.ensures.item (rw (← c.store.view_is) at k)

pub returns-in_err-answer-clause-asked : goal.returns-in_err-answer-clause-asked
returns-in_err-answer-clause-asked g c =
    let store : Records = view c.store.inside in
    rw (← c.store.view_is, open_found c.store.inside.records.items c.args.place c.in-Some.socket c.in-Some.ensures.item)
    (asks_at (start_streams_by store c.args.ids c.args.place c.args.handle c.args.remote c.in-Some.socket.now) (sym c.has_streams.ensures ∙ c.if-has_streams.false)
    (host_refused _ _ c.from_residual.result c.from_residual.ensures.1 (asks_at (λ (x : OpId). begin_streams_asks x c.in-Some.socket.now c.args.remote) (sym c.own.ensures) c.in_err-answer.ensures.asked) (λ code. refl)))

pub returns-in_err-answer-clause-sides : goal.returns-in_err-answer-clause-sides
returns-in_err-answer-clause-sides g c = λ k.
    let store : Records = view c.store.inside in
    knows_open store c.args.place c.in-Some.socket c.begin_streams.new.self c.in-Some.ensures.item c.begin_streams.ensures.side c.begin_streams.ensures.none (rw (← c.store.view_is) at k)

pub returns-clause-asked : goal.returns-clause-asked
returns-clause-asked g c =
    let store : Records = view c.store.inside in
    rw (← c.store.view_is, open_found c.store.inside.records.items c.args.place c.in-Some.socket c.in-Some.ensures.item)
    (asks_at (start_streams_by store c.args.ids c.args.place c.args.handle c.args.remote c.in-Some.socket.now) (sym c.has_streams.ensures ∙ c.if-has_streams.false)
    (asks_end _ (asks_at (λ (x : OpId). begin_streams_asks x c.in-Some.socket.now c.args.remote) (sym c.own.ensures) c.in_ok-answer.ensures.asked).ok (ap (λ d. Give (allowed_answer d)) (sym c.stand.ensures))))

pub returns-clause-sides : goal.returns-clause-sides
returns-clause-sides g c = λ k.
    let store : Records = view c.store.inside in
    knows_open-stood store _ c.args.place c.in-Some.socket c.begin_streams.new.self _ _ _ _ c.stand.ensures c.in-Some.ensures.item c.begin_streams.ensures.side c.begin_streams.ensures.none (rw (← c.store.view_is) at k)
