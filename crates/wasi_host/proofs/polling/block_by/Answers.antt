use Rattle.std.proofs.Common.{refl}
use Rattle.wasi_world.proofs.Walks.{asks_end}
use Rattle.record_common.proofs.Hosts.{fault_passed}
use Rattle.wasi_host.proofs.polling.block_by.Goals as goal

pub returns-in_err-ready-clause-asked : goal.returns-in_err-ready-clause-asked
returns-in_err-ready-clause-asked g c = fault_passed _ _ c.from_residual.result c.from_residual.ensures.1 c.in_err-ready.ensures.asked (λ stop. refl)

pub returns-clause-asked : goal.returns-clause-asked
returns-clause-asked g c = asks_end _ c.in_ok-ready.ensures.asked.ok (rw (c.block_unless.ensures.answer, c.block_unless.ensures.state) refl)
