use Rattle.std.proofs.Common.{Ok, ap, sym, ◌∙◌, refl}
use Rattle.wasi_world.specs.declared.ids.OpId.{OpId}
use Rattle.wasi_world.specs.declared.outcome.Answer.{Answer}
use Rattle.tcp_records.specs.declared.socket.TcpRecord.{TcpRecord}
use Rattle.wasi_world.specs.Asks.{Give}
use Rattle.wasi_world.proofs.Walks.{asks_at, asks_end, asks_given, asks_gives}
use Rattle.wasi_tcp.specs.Shape.{Socket}
use Rattle.wasi_tcp.specs.Socket.{side_of}
use Rattle.tcp_records.specs.Binding.{begin_bind_asks}
use Rattle.host_store.specs.declared.kind.Interface.TheVariants.{P3}
use Rattle.host_tcp.specs.Binds.{bind_told}
use Rattle.host_store.specs.Store.{Records, with_socket}
use Rattle.wasi_records.proofs.Lookups.{found_at, none_at}
use Rattle.wasi_records.proofs.SideCounts.{held_in-set}
use Rattle.host_store.proofs.Bases.{base_passed}
use Rattle.host_tcp.proofs.Binds.{bound_listens, bound_socket}
use Rattle.host_store.proofs.KnownSides.{knows_none, knows_stood}
use Rattle.host_store.specs.declared.store.Store.TheView.{view}
use Rattle.host_tcp.proofs.binding.bind_tcp.Goals as goal

pub returns-in_default-clause-asked : goal.returns-in_default-clause-asked
returns-in_default-clause-asked g c = rw (← c.store.view_is, none_at c.store.inside.records.items c.args.place c.in_default.ensures.item) (asks_given _ _ refl refl)

pub returns-in_err-answer-clause-asked : goal.returns-in_err-answer-clause-asked
returns-in_err-answer-clause-asked g c = rw (← c.store.view_is, found_at c.store.inside.records.items c.args.place c.in-Some.record c.in-Some.ensures.item)
    (base_passed _ c.begin_bind.result _ c.from_residual.result c.from_residual.ensures.1 c.in_err-answer.ensures.told (asks_gives (bind_told P3) (asks_at (λ (x : OpId). begin_bind_asks x c.in-Some.record.now c.args.addr) (sym c.own.ensures) c.begin_bind.ensures.asked)) (λ code. refl))

pub returns-in_err-answer-clause-sides : goal.returns-in_err-answer-clause-sides
returns-in_err-answer-clause-sides g c = λ k.
    knows_none _ _ c.begin_bind.ensures.none
    (held_in-set c.store.inside.records.items c.args.place c.in-Some.record.now c.begin_bind.new.self (found_at c.store.inside.records.items c.args.place c.in-Some.record c.in-Some.ensures.item) c.begin_bind.ensures.side c.begin_bind.ensures.listening)
    (rw (← c.store.view_is) at k)

pub returns-clause-asked : goal.returns-clause-asked
returns-clause-asked g c = rw (← c.store.view_is, found_at c.store.inside.records.items c.args.place c.in-Some.record c.in-Some.ensures.item)
    (asks_end _ (rw c.in_ok-answer.ensures.ok at (asks_gives (bind_told P3) (asks_at (λ (x : OpId). begin_bind_asks x c.in-Some.record.now c.args.addr) (sym c.own.ensures) c.begin_bind.ensures.asked))).ok
    (ap (λ (d : Answer (Unit {0}) × Records). Give (Ok d.0, d.1)) (sym (rw c.leave_bound.ensures at c.stand.ensures))))

pub returns-clause-sides : goal.returns-clause-sides
returns-clause-sides g c = λ k.
    let store : Records = view c.store.inside in
    knows_stood (with_socket store c.args.place c.leave_bound.new.record) _ _ _ _ _ c.stand.ensures
    (knows_none store (with_socket store c.args.place c.leave_bound.new.record) c.begin_bind.ensures.none
    (held_in-set c.store.inside.records.items c.args.place c.in-Some.record.now c.leave_bound.new.record (found_at c.store.inside.records.items c.args.place c.in-Some.record c.in-Some.ensures.item)
    (ap (λ (x : TcpRecord). side_of x.inner) c.leave_bound.ensures ∙ (ap (λ (s : Socket). side_of s) (bound_socket P3 c.in_ok-answer.answer c.begin_bind.new.self) ∙ c.begin_bind.ensures.side))
    (ap (λ (x : TcpRecord). x.listening) c.leave_bound.ensures ∙ (bound_listens P3 c.in_ok-answer.answer c.begin_bind.new.self ∙ c.begin_bind.ensures.listening)))
    (rw (← c.store.view_is) at k))
