use Rattle.host_store.specs.Store.{Records}
use Rattle.std.proofs.Common.{refl}
use Rattle.host_udp.proofs.DatagramStores.{knows_put}
use Rattle.host_store.proofs.KnownSides.{knows_same}
use Rattle.host_store.specs.declared.store.Store.TheView.{view}
use Rattle.host_udp.proofs.datagram_calls.drop_incoming.Goals as goal

pub returns-in-Some-clause-sides : goal.returns-in-Some-clause-sides
returns-in-Some-clause-sides c = λ s k.
    let store : Records = view c.store.inside in
    rw c.forget_receives.ensures (knows_same _ _ refl (knows_put store c.args.place c.in-Some.socket _ c.in-Some.ensures.item refl (rw (← c.store.view_is) at k)))
