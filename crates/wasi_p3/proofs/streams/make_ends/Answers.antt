use Rattle.std.proofs.Common.{refl}
use Rattle.wasi_world.proofs.Walks.{asks_then, asks_end}
use Rattle.host_store.proofs.Bases.{ends_fault}
use Rattle.wasi_p3.proofs.streams.make_ends.Goals as goal

pub returns-in_err-end-clause-asked : goal.returns-in_err-end-clause-asked
returns-in_err-end-clause-asked g c =
    ends_fault _ _ c.from_residual.result c.from_residual.ensures.1 (rw c.own-own.ensures at c.in_err-end.ensures.asked) (λ stop. refl)

pub returns-in_err-result_slot-clause-asked : goal.returns-in_err-result_slot-clause-asked
returns-in_err-result_slot-clause-asked g c =
    asks_then _ (rw c.own-own.ensures at c.in_ok-end.ensures.asked).ok
    (ends_fault _ _ c.from_residual-in_err-result_slot.result c.from_residual-in_err-result_slot.ensures.1 (rw c.own-own.ensures at c.in_err-result_slot.ensures.asked) (λ stop. refl))

pub returns-clause-asked : goal.returns-clause-asked
returns-clause-asked g c =
    asks_then _ (rw c.own-own.ensures at c.in_ok-end.ensures.asked).ok
    (asks_end _ (rw c.own-own.ensures at c.in_ok-result_slot.ensures.asked).ok refl)
