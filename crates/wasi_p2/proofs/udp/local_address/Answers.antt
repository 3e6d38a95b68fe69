use Rattle.wasi_world.proofs.Walks.{asks_gives}
use Rattle.host_store.specs.Machine.{with_store}
use Rattle.host_store.specs.Views.{state_of}
use Rattle.wasi_p2.proofs.udp.local_address.Goals as goal

pub returns-clause-asked : goal.returns-clause-asked
returns-clause-asked g c = rw c.in_ok-place.ensures (asks_gives (with_store (state_of c.args.view.now)) (rw c.own.ensures at c.udp_local_address.ensures.asked))
