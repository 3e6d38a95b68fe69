use Rattle.std.proofs.Common.{refl}
use Rattle.wasi_world.proofs.Walks.{asks_end, asks_then}
use Rattle.host_store.proofs.Bases.{ends_passed}
use Rattle.host_tcp.proofs.listening.relisten_tcp.Goals as goal

pub returns-in_err-poll_listen-clause-asked : goal.returns-in_err-poll_listen-clause-asked
returns-in_err-poll_listen-clause-asked g c = ends_passed _ _ c.from_residual.result c.from_residual.ensures.1 c.in_err-poll_listen.ensures.asked (λ stop. refl)

pub returns-in-Pending-clause-asked : goal.returns-in-Pending-clause-asked
returns-in-Pending-clause-asked g c = asks_end _ (rw c.in-Pending.is at c.in_ok-poll_listen.ensures.asked.ok) refl

pub returns-in-Ready-clause-asked : goal.returns-in-Ready-clause-asked
returns-in-Ready-clause-asked g c = asks_then _ (rw c.in-Ready.is at c.in_ok-poll_listen.ensures.asked.ok) (rw c.own.ensures at c.make_listener.ensures.asked)
