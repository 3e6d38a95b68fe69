use Rattle.wasi_world.proofs.Walks.{asks_exit, asks_then}
use Rattle.host_tcp.proofs.connection_ends.close_end.Goals as goal

pub returns-in_err-shut_half-clause-asked : goal.returns-in_err-shut_half-clause-asked
returns-in_err-shut_half-clause-asked g c = asks_exit _ _ c.from_residual.ensures.1 c.in_err-shut_half.ensures.asked.err

pub returns-clause-asked : goal.returns-clause-asked
returns-clause-asked g c = asks_then _ c.in_ok-shut_half.ensures.asked.ok (rw c.fill.ensures.state at c.let_go.ensures.asked)

pub returns-clause-sides : goal.returns-clause-sides
returns-clause-sides g c = λ k. c.let_go.ensures.sides (c.fill.ensures.sides _ (c.shut_half.ensures.sides k))
