use Rattle.wasi_world.proofs.Walks.{asks_gives}
use Rattle.host_store.specs.Machine.{with_store}
use Rattle.host_store.specs.Views.{state_of}
use Rattle.wasi_host.proofs.jobs.turn.Goals as goal

pub returns-clause-asked : goal.returns-clause-asked
returns-clause-asked g c = asks_gives (with_store (state_of c.args.view.now)) c.turn_store.ensures.asked
