use Rattle.std.proofs.Common.{refl}
use Rattle.wasi_world.proofs.Walks.{asks_end}
use Rattle.host_store.proofs.Bases.{ends_fault}
use Rattle.host_tcp.proofs.listening.make_listener.Goals as goal

pub returns-in_err-listener-clause-asked : goal.returns-in_err-listener-clause-asked
returns-in_err-listener-clause-asked g c = rw c.in_ok-place.ensures
    (ends_fault _ _ c.from_residual-in_err-listener.result c.from_residual-in_err-listener.ensures.1 (rw c.side-side.ensures at c.in_err-listener.ensures.asked) (λ stop. refl))

pub returns-clause-asked : goal.returns-clause-asked
returns-clause-asked g c = rw c.in_ok-place.ensures (asks_end _ (rw c.side-side.ensures at c.in_ok-listener.ensures.asked).ok refl)
