use Rattle.std.proofs.Common.{List, Ok, Err, ap, sym, refl}
use Rattle.wasi_addr.specs.declared.code.ErrorCode.TheVariants.{InvalidState}
use Rattle.wasi_world.specs.declared.ids.OpId.{OpId}
use Rattle.wasi_world.specs.declared.outcome.Answer.{Answer}
use Rattle.wasi_world.specs.Asks.{Give}
use Rattle.wasi_world.proofs.Walks.{asks_at, asks_end, asks_given}
use Rattle.wasi_records.specs.declared.records.Record.{Record}
use Rattle.udp_records.specs.Datagrams.{udp_connect_asks}
use Rattle.wasi_records.specs.Sides.{held_in}
use Rattle.record_common.specs.Stops.{Code}
use Rattle.host_store.specs.Store.{Records}
use Rattle.host_store.specs.Store.{with_open_udp}
use Rattle.wasi_records.proofs.UdpLookups.{open_found, open_back, not_open, held_in-open}
use Rattle.host_store.proofs.Bases.{base_passed}
use Rattle.host_store.proofs.KnownSides.{knows_none, knows_same, knows_stood}
use Rattle.host_store.specs.declared.store.Store.TheView.{view}
use Rattle.host_udp.proofs.udp_connecting.connect_udp.Goals as goal

pub returns-in_default-clause-asked : goal.returns-in_default-clause-asked
returns-in_default-clause-asked g c = rw (← c.store.view_is, not_open c.store.inside.records.items c.args.place c.in_default.ensures.item) (asks_given _ _ refl refl)

pub returns-then-has_streams-clause-asked : goal.returns-then-has_streams-clause-asked
returns-then-has_streams-clause-asked g c =
    let store : Records = view c.store.inside in
    rw (← c.store.view_is, open_found c.store.inside.records.items c.args.place c.in-Some.socket c.in-Some.ensures.item, ← c.has_streams.ensures, c.if-has_streams.true)
    (asks_given (Err (Code InvalidState)) _ refl (ap (λ (l : List Record). Give (Err (Code InvalidState), record store { records = l })) (sym (open_back c.store.inside.records.items c.args.place c.in-Some.socket c.in-Some.ensures.item))))

pub returns-then-has_streams-clause-sides : goal.returns-then-has_streams-clause-sides
returns-then-has_streams-clause-sides g c = λ k. knows_same _ _ (ap held_in (open_back c.store.inside.records.items c.args.place c.in-Some.socket c.in-Some.ensures.item)) (rw (← c.store.view_is) at k)

pub returns-in_err-answer-clause-asked : goal.returns-in_err-answer-clause-asked
returns-in_err-answer-clause-asked g c = rw (← c.store.view_is, open_found c.store.inside.records.items c.args.place c.in-Some.socket c.in-Some.ensures.item, ← c.has_streams.ensures, c.if-has_streams.false)
    (base_passed _ c.connect.result _ c.from_residual.result c.from_residual.ensures.1 c.in_err-answer.ensures.told (asks_at (λ (x : OpId). udp_connect_asks x c.in-Some.socket.now c.args.addr) (sym c.own.ensures) c.connect.ensures.asked) (λ code. refl))

pub returns-in_err-answer-clause-sides : goal.returns-in_err-answer-clause-sides
returns-in_err-answer-clause-sides g c = λ k.
    knows_none _ _ c.connect.ensures.none
    (held_in-open c.store.inside.records.items c.args.place c.in-Some.socket.now c.connect.new.self (open_found c.store.inside.records.items c.args.place c.in-Some.socket c.in-Some.ensures.item) c.connect.ensures.side)
    (rw (← c.store.view_is) at k)

pub returns-clause-asked : goal.returns-clause-asked
returns-clause-asked g c = rw (← c.store.view_is, open_found c.store.inside.records.items c.args.place c.in-Some.socket c.in-Some.ensures.item, ← c.has_streams.ensures, c.if-has_streams.false)
    (asks_end _ (rw c.in_ok-answer.ensures.ok at (asks_at (λ (x : OpId). udp_connect_asks x c.in-Some.socket.now c.args.addr) (sym c.own.ensures) c.connect.ensures.asked)).ok
    (ap (λ (d : Answer (Unit {0}) × Records). Give (Ok d.0, d.1)) (sym c.stand.ensures)))

pub returns-clause-sides : goal.returns-clause-sides
returns-clause-sides g c = λ k.
    let store : Records = view c.store.inside in
    knows_stood (with_open_udp store c.args.place c.connect.new.self) _ _ _ _ _ c.stand.ensures
    (knows_none store (with_open_udp store c.args.place c.connect.new.self) c.connect.ensures.none
    (held_in-open c.store.inside.records.items c.args.place c.in-Some.socket.now c.connect.new.self (open_found c.store.inside.records.items c.args.place c.in-Some.socket c.in-Some.ensures.item) c.connect.ensures.side)
    (rw (← c.store.view_is) at k))
