use Rattle.std.proofs.Common.{refl}
use Rattle.wasi_world.proofs.Walks.{asks_end, asks_then}
use Rattle.host_store.proofs.Bases.{ends_passed}
use Rattle.host_udp.proofs.udp_calls.create_on.Goals as goal

pub returns-in_err-poll_create-clause-asked : goal.returns-in_err-poll_create-clause-asked
returns-in_err-poll_create-clause-asked g c = ends_passed _ _ c.from_residual.result c.from_residual.ensures.1 c.in_err-poll_create.ensures.asked (λ stop. refl)

pub returns-in-Pending-clause-asked : goal.returns-in-Pending-clause-asked
returns-in-Pending-clause-asked g c = asks_end _ (rw (c.in-Pending.is, ← c.store.view_is) at c.in_ok-poll_create.ensures.asked.ok) refl

pub returns-in-Ready-clause-asked : goal.returns-in-Ready-clause-asked
returns-in-Ready-clause-asked g c = asks_then _ (rw c.in-Ready.is at c.in_ok-poll_create.ensures.asked.ok) c.make_udp_handle.ensures.asked
