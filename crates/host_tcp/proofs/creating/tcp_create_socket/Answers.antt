use Rattle.std.proofs.Common.{ap, refl}
use Rattle.wasi_records.specs.Sides.{held_in}
use Rattle.record_common.proofs.Hosts.{fault_told, host_none}
use Rattle.host_store.specs.declared.kind.Kind.TheVariants.{Tcp2}
use Rattle.host_store.specs.Limits.{with_limit}
use Rattle.host_tcp.specs.Creates.{same_told, code_told}
use Rattle.host_store.proofs.KnownSides.{knows_same}
use Rattle.host_tcp.proofs.TcpHandles.{asks_made, create_refused}
use Rattle.host_tcp.proofs.creating.tcp_create_socket.Goals as goal

pub returns-in_err-make_room-clause-asked : goal.returns-in_err-make_room-clause-asked
returns-in_err-make_room-clause-asked g c = host_none c.from_residual.result c.from_residual.ensures.1 refl

pub returns-in_err-make_room-clause-sides : goal.returns-in_err-make_room-clause-sides
returns-in_err-make_room-clause-sides g c = λ k. knows_same c.args.store.now c.make_room.new.store (ap held_in c.in_err-make_room.ensures.records) k

pub returns-in_err-place-clause-asked : goal.returns-in_err-place-clause-asked
returns-in_err-place-clause-asked g c = create_refused (record { table = c.args.table.now; store = with_limit c.args.store.now c.args.ctx.now }) c.args.own c.args.ctx.now c.args.family _ c.from_residual-in_err-place.result c.from_residual-in_err-place.ensures.1
    (rw c.in_ok-make_room.ensures.room at c.in_err-place.ensures.made)

pub returns-in_err-place-clause-sides : goal.returns-in_err-place-clause-sides
returns-in_err-place-clause-sides g c = λ k. c.in_err-place.ensures.sides (knows_same c.args.store.now c.make_room.new.store (ap held_in c.in_ok-make_room.ensures.records) k)

pub returns-in_err-handle-clause-asked : goal.returns-in_err-handle-clause-asked
returns-in_err-handle-clause-asked g c = rw (fault_told _ c.from_residual-in_err-handle.result c.from_residual-in_err-handle.ensures.1)
    (asks_made same_told code_told Tcp2 (record { table = c.args.table.now; store = with_limit c.args.store.now c.args.ctx.now }) c.args.own c.args.ctx.now c.args.family (rw c.in_ok-make_room.ensures.room at c.in_ok-place.ensures.made) c.side-side.ensures c.in_err-handle.ensures.asked)

pub returns-clause-asked : goal.returns-clause-asked
returns-clause-asked g c = asks_made same_told code_told Tcp2 (record { table = c.args.table.now; store = with_limit c.args.store.now c.args.ctx.now }) c.args.own c.args.ctx.now c.args.family (rw c.in_ok-make_room.ensures.room at c.in_ok-place.ensures.made) c.side-side.ensures c.in_ok-handle.ensures.asked

pub returns-in_err-handle-clause-sides : goal.returns-in_err-handle-clause-sides
returns-in_err-handle-clause-sides g c = λ k. c.in_err-handle.ensures.sides _ (c.in_ok-place.ensures.sides (knows_same c.args.store.now c.make_room.new.store (ap held_in c.in_ok-make_room.ensures.records) k))

pub returns-clause-sides : goal.returns-clause-sides
returns-clause-sides g c = λ k. c.in_ok-handle.ensures.sides _ (c.in_ok-place.ensures.sides (knows_same c.args.store.now c.make_room.new.store (ap held_in c.in_ok-make_room.ensures.records) k))
