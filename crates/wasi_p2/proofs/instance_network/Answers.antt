use Rattle.std.proofs.Common.{refl}
use Rattle.wasi_world.proofs.Walks.{asks_gives}
use Rattle.host_store.specs.Machine.{with_table}
use Rattle.host_store.specs.Views.{state_of}
use Rattle.record_common.proofs.Hosts.{host_fault}
use Rattle.wasi_p2.proofs.instance_network.Goals as goal

pub returns-in_err-handle-clause-asked : goal.returns-in_err-handle-clause-asked
returns-in_err-handle-clause-asked g c = host_fault _ _ c.from_residual.result c.from_residual.ensures.1 (rw c.own.ensures at c.in_err-handle.ensures.asked) (λ stop. refl)

pub returns-clause-asked : goal.returns-clause-asked
returns-clause-asked g c = asks_gives (with_table (state_of c.args.view.now)) (rw c.own.ensures at c.in_ok-handle.ensures.asked)
