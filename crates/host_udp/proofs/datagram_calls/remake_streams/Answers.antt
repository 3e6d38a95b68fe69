use Rattle.std.proofs.Common.{refl}
use Rattle.wasi_world.proofs.Walks.{asks_end, asks_then}
use Rattle.record_common.proofs.Hosts.{host_passed}
use Rattle.host_udp.proofs.datagram_calls.remake_streams.Goals as goal

pub returns-in_err-reconnect-clause-asked : goal.returns-in_err-reconnect-clause-asked
returns-in_err-reconnect-clause-asked g c = host_passed _ _ c.from_residual.result c.from_residual.ensures.1 c.in_err-reconnect.ensures.asked (λ stop. refl)

pub returns-in-Pending-clause-asked : goal.returns-in-Pending-clause-asked
returns-in-Pending-clause-asked g c = asks_end _ (rw c.in-Pending.is at c.in_ok-reconnect.ensures.asked.ok) refl

pub returns-in-Ready-clause-asked : goal.returns-in-Ready-clause-asked
returns-in-Ready-clause-asked g c = asks_then _ (rw c.in-Ready.is at c.in_ok-reconnect.ensures.asked.ok) (rw c.own.ensures at c.mark_streams.ensures.asked)
