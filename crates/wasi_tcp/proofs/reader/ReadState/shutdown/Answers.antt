use Rattle.std.proofs.Common.{refl}
use Rattle.wasi_world.proofs.Walks.{asks_exit, asks_end}
use Rattle.wasi_tcp.proofs.reader.ReadState.shutdown.Goals as goal

pub returns-in_err-shut_down-in-Open-clause-asked : goal.returns-in_err-shut_down-in-Open-clause-asked
returns-in_err-shut_down-in-Open-clause-asked g c = rw c.in-Open.is (asks_exit _ _ c.from_residual.ensures.1 c.in_err-shut_down-in-Open.ensures.asked.err)

pub returns-in_ok-shut_down-in-Open-clause-asked : goal.returns-in_ok-shut_down-in-Open-clause-asked
returns-in_ok-shut_down-in-Open-clause-asked g c = rw c.in-Open.is (asks_end _ c.in_ok-shut_down-in-Open.ensures.asked.ok refl)
