use Rattle.std.proofs.Common.{refl}
use Rattle.wasi_world.proofs.Walks.{asks_then}
use Rattle.record_common.proofs.Hosts.{host_passed}
use Rattle.wasi_p2.proofs.tcp.accept.Goals as goal

pub returns-in_err-accepted-clause-asked : goal.returns-in_err-accepted-clause-asked
returns-in_err-accepted-clause-asked g c = rw c.in_ok-place.ensures (host_passed _ _ c.from_residual-in_err-accepted.result c.from_residual-in_err-accepted.ensures.1 c.in_err-accepted.ensures.asked (λ stop. refl))

pub returns-clause-asked : goal.returns-clause-asked
returns-clause-asked g c = rw c.in_ok-place.ensures (asks_then _ c.in_ok-accepted.ensures.asked.ok (rw (c.side-side.ensures, c.in_ok-accepted.ensures.ids.line) at c.make_accepted.ensures.asked))
