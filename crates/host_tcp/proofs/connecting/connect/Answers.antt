use Rattle.std.proofs.Common.{refl}
use Rattle.wasi_world.proofs.Walks.{asks_then, refused_on}
use Rattle.tcp_records.proofs.ListenStarts.{balances_inner}
use Rattle.tcp_records.proofs.SideCounts.{balances_then}
use Rattle.host_tcp.specs.Connects.{connect_begun}
use Rattle.host_tcp.proofs.Connects.{calm_start_connect}
use Rattle.host_tcp.proofs.connecting.connect.Goals as goal

pub returns-in_err-start_connect-clause-asked : goal.returns-in_err-start_connect-clause-asked
returns-in_err-start_connect-clause-asked g c = refused_on _ _ c.from_residual.result c.from_residual.ensures.1 c.in_err-start_connect.ensures.asked (λ code. refl)

pub returns-in_err-start_connect-clause-sides : goal.returns-in_err-start_connect-clause-sides
returns-in_err-start_connect-clause-sides g c =
    balances_inner c.args.record.now _ _ (calm_start_connect c.args.op c.args.record.now.inner c.args.addr c.args.record.now.inner.state) c.in_err-start_connect.ensures.asked c.start_connect.ensures.side

pub returns-clause-asked : goal.returns-clause-asked
returns-clause-asked g c = asks_then (connect_begun c.args.record.now) c.in_ok-start_connect.ensures.asked.ok c.reconnect.ensures.asked

pub returns-clause-sides : goal.returns-clause-sides
returns-clause-sides g c =
    balances_then
    (balances_inner c.args.record.now _ _ (calm_start_connect c.args.op c.args.record.now.inner c.args.addr c.args.record.now.inner.state) c.in_ok-start_connect.ensures.asked c.start_connect.ensures.side)
    c.reconnect.ensures.sides
