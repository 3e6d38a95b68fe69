use Rattle.std.proofs.Common.{refl}
use Rattle.wasi_world.proofs.Walks.{asks_at, asks_then, asks_given, refused_exit}
use Rattle.tcp_records.specs.Listening.{listen_bound}
use Rattle.tcp_records.specs.Sockets.{with_inner}
use Rattle.tcp_records.proofs.SideCounts.{balances_then, calm_bound}
use Rattle.tcp_records.proofs.ListenStarts.{balances_inner}
use Rattle.tcp_records.proofs.socket.TcpRecord.begin_listen.Goals as goal

pub returns-in_err-is_bound-clause-asked : goal.returns-in_err-is_bound-clause-asked
returns-in_err-is_bound-clause-asked g c = refused_exit _ c.from_residual.result c.from_residual.ensures.1 c.in_err-is_bound.ensures.asked.err

pub returns-in_err-is_bound-clause-sides : goal.returns-in_err-is_bound-clause-sides
returns-in_err-is_bound-clause-sides g c = balances_inner c.args.self.now c.is_bound.new.self c.is_bound.result (calm_bound c.args.op c.args.self.now.inner) c.is_bound.ensures.asked c.is_bound.ensures.side

pub returns-then-not-branch-clause-asked : goal.returns-then-not-branch-clause-asked
returns-then-not-branch-clause-asked g c =
    asks_then _ c.in_ok-is_bound.ensures.asked.ok
    (asks_at (listen_bound c.args.op (with_inner c.args.self.now c.is_bound.new.self)) c.if-not-branch.true (asks_given _ _ refl refl))

pub returns-then-not-branch-clause-sides : goal.returns-then-not-branch-clause-sides
returns-then-not-branch-clause-sides g c = balances_inner c.args.self.now c.is_bound.new.self c.is_bound.result (calm_bound c.args.op c.args.self.now.inner) c.is_bound.ensures.asked c.is_bound.ensures.side

pub returns-clause-asked : goal.returns-clause-asked
returns-clause-asked g c =
    asks_then _ c.in_ok-is_bound.ensures.asked.ok
    (asks_at (listen_bound c.args.op (with_inner c.args.self.now c.is_bound.new.self)) c.if-not-branch.false c.listen_once.ensures.asked)

pub returns-clause-sides : goal.returns-clause-sides
returns-clause-sides g c =
    balances_then (balances_inner c.args.self.now c.is_bound.new.self c.is_bound.result (calm_bound c.args.op c.args.self.now.inner) c.is_bound.ensures.asked c.is_bound.ensures.side) c.listen_once.ensures.sides
