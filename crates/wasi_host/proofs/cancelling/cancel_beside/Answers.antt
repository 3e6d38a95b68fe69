use Rattle.std.proofs.Common.{refl}
use Rattle.wasi_world.proofs.Walks.{asks_end, asks_exit, reaches_all}
use Rattle.wasi_host.proofs.cancelling.cancel_beside.Goals as goal

pub returns-in-Connect-clause-asked : goal.returns-in-Connect-clause-asked
returns-in-Connect-clause-asked g c = rw (← c.find_beside.ensures, c.in-Some.is, c.in-Connect.is) (asks_end _ (reaches_all _ _) (rw (← c.store.view_is, c.remove.ensures) refl))

pub returns-in-Resolve-clause-asked : goal.returns-in-Resolve-clause-asked
returns-in-Resolve-clause-asked g c = rw (← c.find_beside.ensures, c.in-Some.is, c.in-Resolve.is) (asks_end _ (reaches_all _ _) (rw (← c.store.view_is, c.remove-in-Resolve.ensures) refl))

pub returns-in_err-drop_datagram-in-Send-clause-asked : goal.returns-in_err-drop_datagram-in-Send-clause-asked
returns-in_err-drop_datagram-in-Send-clause-asked g c = rw (← c.find_beside.ensures, c.in-Some.is, c.in-Send.is) (asks_exit _ _ c.from_residual.ensures.1 c.in_err-drop_datagram-in-Send.ensures.asked.err)

pub returns-in_ok-drop_datagram-in-Send-clause-asked : goal.returns-in_ok-drop_datagram-in-Send-clause-asked
returns-in_ok-drop_datagram-in-Send-clause-asked g c = rw (← c.find_beside.ensures, c.in-Some.is, c.in-Send.is) (asks_end _ c.in_ok-drop_datagram-in-Send.ensures.asked.ok refl)

pub returns-in_err-drop_datagram-in-Receive-clause-asked : goal.returns-in_err-drop_datagram-in-Receive-clause-asked
returns-in_err-drop_datagram-in-Receive-clause-asked g c = rw (← c.find_beside.ensures, c.in-Some.is, c.in-Receive.is) (asks_exit _ _ c.from_residual-in_err-drop_datagram-in-Receive.ensures.1 c.in_err-drop_datagram-in-Receive.ensures.asked.err)

pub returns-in_ok-drop_datagram-in-Receive-clause-asked : goal.returns-in_ok-drop_datagram-in-Receive-clause-asked
returns-in_ok-drop_datagram-in-Receive-clause-asked g c = rw (← c.find_beside.ensures, c.in-Some.is, c.in-Receive.is) (asks_end _ c.in_ok-drop_datagram-in-Receive.ensures.asked.ok refl)
