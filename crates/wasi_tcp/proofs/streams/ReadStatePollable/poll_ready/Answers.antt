use Rattle.std.proofs.Common.{refl}
use Rattle.wasi_world.proofs.Walks.{asks_exit, asks_end}
use Rattle.wasi_tcp.proofs.streams.ReadStatePollable.poll_ready.Goals as goal

pub returns-in_err-poll_ready-clause-asked : goal.returns-in_err-poll_ready-clause-asked
returns-in_err-poll_ready-clause-asked g c = asks_exit _ _ c.from_residual.ensures.1 c.in_err-poll_ready.ensures.asked.err

pub returns-in-Ready-clause-asked : goal.returns-in-Ready-clause-asked
returns-in-Ready-clause-asked g c = asks_end _ (rw c.in-Ready.is at c.in_ok-poll_ready.ensures.asked.ok) refl

pub returns-in-Pending-clause-asked : goal.returns-in-Pending-clause-asked
returns-in-Pending-clause-asked g c = asks_end _ (rw c.in-Pending.is at c.in_ok-poll_ready.ensures.asked.ok) refl
