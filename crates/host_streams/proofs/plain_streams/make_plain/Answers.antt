use Rattle.wasi_world.proofs.Walks.{asks_gives}
use Rattle.host_store.specs.Machine.{with_table}
use Rattle.host_store.specs.Views.{state_of}
use Rattle.host_streams.proofs.plain_streams.make_plain.Goals as goal

pub returns-clause-asked : goal.returns-clause-asked
returns-clause-asked g c = asks_gives (with_table (state_of c.args.view.now)) (rw c.own.ensures at c.make.ensures.asked)
