use Rattle.std.proofs.Common.{refl}
use Rattle.wasi_world.proofs.Walks.{asks_end}
use Rattle.wasi_streams.proofs.Streams.{stream_on}
use Rattle.wasi_tcp.proofs.writer.WriteState.check_write.Goals as goal

pub returns-in_err-poll_ready-clause-asked : goal.returns-in_err-poll_ready-clause-asked
returns-in_err-poll_ready-clause-asked g c = stream_on _ _ c.from_residual.result c.from_residual.ensures.1 c.in_err-poll_ready.ensures.asked (λ stop. refl)

pub returns-in-Pending-clause-asked : goal.returns-in-Pending-clause-asked
returns-in-Pending-clause-asked g c = asks_end _ (rw c.in-Pending.is at c.in_ok-poll_ready.ensures.asked.ok) refl

pub returns-in-Ready-clause-asked : goal.returns-in-Ready-clause-asked
returns-in-Ready-clause-asked g c = asks_end _ (rw c.in-Ready.is at c.in_ok-poll_ready.ensures.asked.ok) (rw c.permit.ensures refl)
