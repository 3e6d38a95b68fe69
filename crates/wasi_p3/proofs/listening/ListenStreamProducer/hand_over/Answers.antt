use Rattle.std.proofs.Common.{refl}
use Rattle.wasi_world.proofs.Walks.{asks_end}
use Rattle.host_store.proofs.Bases.{ends_fault}
use Rattle.wasi_p3.proofs.listening.ListenStreamProducer.hand_over.Goals as goal

pub returns-in_err-socket-clause-asked : goal.returns-in_err-socket-clause-asked
returns-in_err-socket-clause-asked g c = rw c.in-Ready.is
    (ends_fault _ _ c.from_residual.result c.from_residual.ensures.1 (rw (c.side-side.ensures, c.own-own.ensures) at c.in_err-socket.ensures.asked) (λ stop. refl))

pub returns-clause-asked : goal.returns-clause-asked
returns-clause-asked g c = rw c.in-Ready.is (asks_end _ (rw (c.side-side.ensures, c.own-own.ensures) at c.in_ok-socket.ensures.asked).ok refl)
