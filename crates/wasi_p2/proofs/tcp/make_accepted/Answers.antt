use Rattle.std.proofs.Common.{refl}
use Rattle.wasi_world.proofs.Walks.{asks_then, asks_end}
use Rattle.record_common.proofs.Hosts.{host_fault, host_passed}
use Rattle.wasi_p2.proofs.tcp.make_accepted.Goals as goal

pub returns-in_err-socket-clause-asked : goal.returns-in_err-socket-clause-asked
returns-in_err-socket-clause-asked g c =
    host_fault _ _ c.from_residual.result c.from_residual.ensures.1 (rw c.own.ensures at c.in_err-socket.ensures.asked) (λ stop. refl)

pub returns-in_err-input-clause-asked : goal.returns-in_err-input-clause-asked
returns-in_err-input-clause-asked g c =
    asks_then _ (rw c.own.ensures at c.in_ok-socket.ensures.asked).ok
    (host_passed _ _ c.from_residual-in_err-input.result c.from_residual-in_err-input.ensures.1 c.in_err-input.ensures.asked (λ stop. refl))

pub returns-clause-asked : goal.returns-clause-asked
returns-clause-asked g c =
    asks_then _ (rw c.own.ensures at c.in_ok-socket.ensures.asked).ok
    (asks_end _ c.in_ok-input.ensures.asked.ok refl)
