use Rattle.std.proofs.Common.{List, ap, length, sym, ◌∙◌, subst}
use Rattle.wasi_world.proofs.Walks.{reaches_all, asks_err}
use Rattle.wasi_tcp.specs.Socket.{new_asks}
use Rattle.wasi_records.specs.declared.records.Record.{Record}
use Rattle.host_store.specs.KnownSides.{KnowsSides}
use Rattle.host_store.specs.Store.{Records}
use Rattle.host_store.proofs.KnownSides.{knows_created, knows_refused}
use Rattle.host_tcp.proofs.TcpHandles.{makes_none}
use Rattle.host_store.specs.declared.store.Store.TheView.{view}
use Rattle.host_tcp.proofs.creating.make_tcp.Goals as goal

pub returns-in_err-reserve-clause-made : goal.returns-in_err-reserve-clause-made
returns-in_err-reserve-clause-made g c =
    let store : Records = view c.store.inside in
    rw (← c.store.view_is) (makes_none c.args.own c.args.ctx.now c.args.family _ c.from_residual.result c.from_residual.ensures.1 (ap (λ (l : List Record). let n : Records = record store { records = l } in n) c.reserve.ensures.items)
    (asks_err (new_asks c.args.own c.args.ctx.now c.args.family) (reaches_all _ _)))

pub returns-in_err-socket-clause-made : goal.returns-in_err-socket-clause-made
returns-in_err-socket-clause-made g c =
    let store : Records = view c.store.inside in
    rw (← c.store.view_is) (makes_none c.args.own c.args.ctx.now c.args.family _ c.from_residual-in_err-socket.result c.from_residual-in_err-socket.ensures.1 (ap (λ (l : List Record). let n : Records = record store { records = l } in n) c.reserve.ensures.items) c.in_err-socket.ensures.asked)

pub returns-in_err-socket-clause-sides : goal.returns-in_err-socket-clause-sides
returns-in_err-socket-clause-sides g c = λ k. rw c.reserve.ensures.items (knows_refused c.args.own c.args.ctx.now c.args.family _ _ c.in_err-socket.ensures.asked c.in_err-socket.ensures.unasked (rw (← c.store.view_is) at k))

pub returns-clause-made : goal.returns-clause-made
returns-clause-made g c =
    let store : Records = view c.store.inside in
    rw (← c.store.view_is) (record {
      socket = c.in_ok-socket.socket;
      asked = c.in_ok-socket.ensures.asked;
      record_is = ap (λ (l : List Record). let n : Records = record store { records = l } in n) (rw (c.reserve.ensures.items, c.new-2.ensures) at c.push_reserved.ensures.items);
      number = c.len-place.ensures ∙ ap length c.reserve.ensures.items;
    })

pub returns-clause-sides : goal.returns-clause-sides
returns-clause-sides g c = λ k.
    let store : Records = view c.store.inside in
    subst (λ (l : List Record). KnowsSides (g.W.World.seen c.new.new.world) (record store { records = l })) (sym (rw (c.reserve.ensures.items, c.new-2.ensures) at c.push_reserved.ensures.items))
    (knows_created c.args.own c.args.ctx.now c.args.family c.in_ok-socket.socket store c.in_ok-socket.ensures.asked.ok c.in_ok-socket.ensures.side (rw (← c.store.view_is) at k))
