use Rattle.wasi_world.specs.Asks.{Give}
use Rattle.wasi_world.proofs.Walks.{asks_gives, err_in}
use Rattle.wasi_tcp.specs.declared.writer.WriteState.TheVariants as state
use Rattle.wasi_tcp.proofs.writer.WriteState.turn.Goals as goal

pub returns-in-Writing-clause-asked : goal.returns-in-Writing-clause-asked
returns-in-Writing-clause-asked g c = rw c.in-Writing.is (asks_gives (λ job. (tt, state.Writing job)) c.poll.ensures.asked)

pub returns-in-Writing-clause-err : goal.returns-in-Writing-clause-err
returns-in-Writing-clause-err g c = rw c.in-Writing.is (err_in _ _ (λ job. Give (tt, state.Writing job)) _ _ _ c.poll.ensures.err)

pub returns-in-Closing-clause-asked : goal.returns-in-Closing-clause-asked
returns-in-Closing-clause-asked g c = rw c.in-Closing.is (asks_gives (λ job. (tt, state.Closing job)) c.poll-in-Closing.ensures.asked)

pub returns-in-Closing-clause-err : goal.returns-in-Closing-clause-err
returns-in-Closing-clause-err g c = rw c.in-Closing.is (err_in _ _ (λ job. Give (tt, state.Closing job)) _ _ _ c.poll-in-Closing.ensures.err)

pub returns-in-Writing-clause-write : goal.returns-in-Writing-clause-write
returns-in-Writing-clause-write g c = rw c.in-Writing.is c.poll.ensures.write

pub returns-in-Closing-clause-write : goal.returns-in-Closing-clause-write
returns-in-Closing-clause-write g c = rw c.in-Closing.is c.poll-in-Closing.ensures.write
