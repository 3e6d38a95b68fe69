use Rattle.std.proofs.Common.{refl}
use Rattle.wasi_world.proofs.Walks.{asks_exit, asks_then}
use Rattle.tcp_records.proofs.SideCounts.{balances_walk}
use Rattle.tcp_records.proofs.Looks.{calm_give_up}
use Rattle.tcp_records.proofs.Releases.{connection_closes}
use Rattle.tcp_records.proofs.socket.TcpRecord.release_connection.Goals as goal

pub returns-in_err-give_streams_up-clause-asked : goal.returns-in_err-give_streams_up-clause-asked
returns-in_err-give_streams_up-clause-asked g c = asks_exit _ _ c.from_residual.ensures.1 c.in_err-give_streams_up.ensures.asked.err

pub returns-in_err-give_streams_up-clause-sides : goal.returns-in_err-give_streams_up-clause-sides
returns-in_err-give_streams_up-clause-sides g c = rw c.give_streams_up.ensures.state (balances_walk (calm_give_up c.args.op c.args.self.now.streams) c.in_err-give_streams_up.ensures.asked.err.reached refl)

pub returns-clause-asked : goal.returns-clause-asked
returns-clause-asked g c = asks_then _ c.in_ok-give_streams_up.ensures.asked.ok (rw c.give_streams_up.ensures.state at c.close.ensures.asked)

pub returns-clause-sides : goal.returns-clause-sides
returns-clause-sides g c =
    connection_closes c.args.op c.args.self.now _ c.close.result c.requires.not c.in_ok-give_streams_up.ensures.asked.ok
    (asks_then _ c.in_ok-give_streams_up.ensures.asked.ok (rw c.give_streams_up.ensures.state at c.close.ensures.asked)) (rw c.give_streams_up.ensures.state at c.close.ensures.err) c.close.ensures.unasked
