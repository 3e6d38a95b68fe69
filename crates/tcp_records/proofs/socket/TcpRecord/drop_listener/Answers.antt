use Rattle.wasi_world.proofs.Walks.{asks_exit, asks_then}
use Rattle.tcp_records.proofs.SideCounts.{balances_then}
use Rattle.tcp_records.proofs.Releases.{given_up_closes}
use Rattle.tcp_records.proofs.socket.TcpRecord.drop_listener.Goals as goal

pub returns-in_err-give_listening_up-clause-asked : goal.returns-in_err-give_listening_up-clause-asked
returns-in_err-give_listening_up-clause-asked g c = asks_exit _ _ c.from_residual.ensures.1 c.in_err-give_listening_up.ensures.asked.err

pub returns-clause-asked : goal.returns-clause-asked
returns-clause-asked g c = asks_then _ c.in_ok-give_listening_up.ensures.asked.ok (rw c.in_ok-give_listening_up.ensures.ok at c.let_go.ensures.asked)

pub returns-clause-sides : goal.returns-clause-sides
returns-clause-sides g c = balances_then (given_up_closes c.args.self.now c.in_ok-give_listening_up.ensures.asked.ok) (rw c.in_ok-give_listening_up.ensures.ok at c.let_go.ensures.sides)
