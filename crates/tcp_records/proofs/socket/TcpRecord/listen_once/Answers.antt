use Rattle.std.proofs.Common.{refl}
use Rattle.wasi_world.proofs.Walks.{asks_at, asks_then, refused_on}
use Rattle.tcp_records.specs.Listening.{listen_once}
use Rattle.tcp_records.proofs.SideCounts.{balances_then}
use Rattle.tcp_records.proofs.ListenStarts.{balances_inner, calm_listen, listen_begins}
use Rattle.tcp_records.proofs.socket.TcpRecord.listen_once.Goals as goal

pub returns-in_err-listen-clause-asked : goal.returns-in_err-listen-clause-asked
returns-in_err-listen-clause-asked g c =
    asks_at (listen_once c.args.op c.args.self.now) c.in-Not.is
    (refused_on _ _ c.from_residual.result c.from_residual.ensures.1 c.in_err-listen.ensures.asked (λ code. refl))

pub returns-in_err-listen-clause-sides : goal.returns-in_err-listen-clause-sides
returns-in_err-listen-clause-sides g c = balances_inner c.args.self.now c.listen.new.self _ (calm_listen c.args.op c.args.self.now.inner) c.in_err-listen.ensures.asked c.in_err-listen.ensures.refused

pub returns-clause-asked : goal.returns-clause-asked
returns-clause-asked g c =
    asks_at (listen_once c.args.op c.args.self.now) c.in-Not.is
    (asks_then _ c.in_ok-listen.ensures.asked.ok c.poll_listen.ensures.asked)

pub returns-clause-sides : goal.returns-clause-sides
returns-clause-sides g c =
    balances_then (listen_begins c.args.op c.args.self.now c.in_ok-listen.listen c.listen.new.self c.in-Not.is c.in_ok-listen.ensures.taken c.in_ok-listen.ensures.asked.ok) c.poll_listen.ensures.sides
