use Rattle.std.proofs.Common.{Bool, ap, refl, sym}
use Rattle.wasi_world.specs.Asks.{Give}
use Rattle.wasi_world.proofs.Walks.{asks_end, asks_exit, asks_gives}
use Rattle.udp_records.proofs.ReceiveLists.{on_err}
use Rattle.host_store.specs.Machine.{with_store}
use Rattle.host_store.specs.Store.{Records}
use Rattle.host_store.specs.Views.{state_of}
use Rattle.host_store.specs.declared.machine.Machine.{Machine}
use Rattle.wasi_host.proofs.cancelling.cancel.Goals as goal

pub returns-in_default-clause-asked : goal.returns-in_default-clause-asked
returns-in_default-clause-asked g c =
    rw (← c.take.ensures.taken, c.in_default.is)
    (asks_gives (with_store (state_of c.args.view.now)) (rw (rw c.in_default.is at c.take.ensures.none) at c.cancel_beside.ensures.asked))

pub returns-in_err-give_up-clause-asked : goal.returns-in_err-give_up-clause-asked
returns-in_err-give_up-clause-asked g c =
    rw (← c.take.ensures.taken, c.in-Some.is)
    (asks_exit _ _ c.from_residual.ensures.1 (rw (c.take.ensures.some (rw c.in-Some.is refl)) at c.in_err-give_up.ensures.asked).err)

pub returns-clause-asked : goal.returns-clause-asked
returns-clause-asked g c =
    rw (← c.take.ensures.taken, c.in-Some.is)
    (asks_end _ (rw (c.take.ensures.some (rw c.in-Some.is refl)) at c.in_ok-give_up.ensures.asked).ok refl)

pub returns-in_err-give_up-clause-left : goal.returns-in_err-give_up-clause-left
returns-in_err-give_up-clause-left g c =
    rw (← c.take.ensures.taken, c.in-Some.is)
    (on_err _ (ap (λ (store : Records). let m : Machine = record (state_of c.args.view.now) { store = store } in m) (rw (c.take.ensures.some (rw c.in-Some.is refl)) at c.in_err-give_up.ensures.left)))

pub returns-in_err-give_up-clause-unasked : goal.returns-in_err-give_up-clause-unasked
returns-in_err-give_up-clause-unasked g c = on_err _ c.in_err-give_up.ensures.unasked
