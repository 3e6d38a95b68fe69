use Rattle.host_store.specs.Views.{state_of}
use Rattle.host_store.specs.Lines.{storing}
use Rattle.host_store.proofs.Called.{called_last}
use Rattle.wasi_p2.proofs.tcp.remote_address.Goals as goal

pub returns-clause-asked : goal.returns-clause-asked
returns-clause-asked g c = rw c.in_ok-place.ensures (called_last (storing (state_of c.args.view.now)) (rw c.own.ensures at c.tcp_remote_address.ensures.asked))
