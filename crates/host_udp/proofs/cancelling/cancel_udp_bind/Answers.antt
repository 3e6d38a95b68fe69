use Rattle.std.proofs.Common.{refl}
use Rattle.host_store.specs.Store.{Records}
use Rattle.host_udp.proofs.DatagramStores.{knows_put}
use Rattle.host_store.specs.declared.store.Store.TheView.{view}
use Rattle.host_udp.proofs.cancelling.cancel_udp_bind.Goals as goal

pub returns-clause-sides : goal.returns-clause-sides
returns-clause-sides c = λ s k.
    let store : Records = view c.store.inside in
    knows_put store c.args.place c.in-Some.socket _ c.in-Some.ensures.item refl (rw (← c.store.view_is) at k)
