use Rattle.std.proofs.Common.{ap, sym}
use Rattle.wasi_world.specs.Asks.{Give}
use Rattle.wasi_world.proofs.Walks.{asks_exit, asks_end}
use Rattle.host_store.proofs.KnownSides.{knows_stood}
use Rattle.host_tcp.proofs.releasing.drop_output.Goals as goal

pub returns-in_err-answer-clause-asked : goal.returns-in_err-answer-clause-asked
returns-in_err-answer-clause-asked g c = asks_exit _ _ c.from_residual.ensures.1 (rw c.own.ensures at c.in_err-answer.ensures.asked).err

pub returns-clause-asked : goal.returns-clause-asked
returns-clause-asked g c = asks_end _ (rw c.own.ensures at c.in_ok-answer.ensures.asked).ok (ap (λ d. Give d) (sym c.stand.ensures))

pub returns-clause-sides : goal.returns-clause-sides
returns-clause-sides g c = λ k. knows_stood _ _ _ _ _ _ c.stand.ensures (c.poll_writer.ensures.sides k)
