use Rattle.wasi_world.proofs.Walks.{asks_typed, asks_none}
use Rattle.wasi_world.proofs.asks.udp.udp_bind.Goals as goal

pub returns-in_err-told-clause-asked : goal.returns-in_err-told-clause-asked
returns-in_err-told-clause-asked g c = asks_none _ _ c.from_residual.ensures.1 c.in_err-told.ensures.err

pub returns-clause-asked : goal.returns-clause-asked
returns-clause-asked g c = asks_typed _ c.in_ok-told.ensures.asked.ok c.told_done.ensures
