use Rattle.wasi_world.proofs.Walks.{asks_gives}
use Rattle.wasi_tcp.specs.declared.reader.ReadState.TheVariants as state
use Rattle.wasi_tcp.proofs.reader.ReadState.poll_ready.Goals as goal

pub returns-in-Open-clause-asked : goal.returns-in-Open-clause-asked
returns-in-Open-clause-asked g c = rw (c.in-Open.is, c.poll_ready.ensures.same) (asks_gives (λ answer. (answer, state.Open c.in-Open.half)) c.poll_ready.ensures.asked)
