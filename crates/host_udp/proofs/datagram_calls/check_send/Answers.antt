use Rattle.std.proofs.Common.{refl, sym, ap, ◌∙◌}
use Rattle.host_store.specs.Store.{Records}
use Rattle.host_udp.proofs.DatagramStores.{given_back, knows_back, knows_put, not_permitted}
use Rattle.wasi_records.proofs.UdpLookups.{open_found}
use Rattle.host_store.specs.declared.store.Store.TheView.{view}
use Rattle.host_udp.proofs.datagram_calls.check_send.Goals as goal

pub returns-in_default-outgoing-clause-sides : goal.returns-in_default-outgoing-clause-sides
returns-in_default-outgoing-clause-sides c = λ s k.
    let store : Records = view c.store.inside in
    knows_back store c.args.place c.in-Some.socket c.in-Some.ensures.item (rw (← c.store.view_is) at k)

pub returns-in_default-outgoing-clause-state : goal.returns-in_default-outgoing-clause-state
returns-in_default-outgoing-clause-state c =
    let store : Records = view c.store.inside in
    rw (← c.store.view_is, open_found c.store.inside.records.items c.args.place c.in-Some.socket c.in-Some.ensures.item)
    (given_back store c.args.place c.in-Some.socket c.in-Some.ensures.item ∙ sym (ap (λ d. d.1) (not_permitted store c.args.place c.in-Some.socket.now c.in-Some.socket.now.outgoing c.in_default-outgoing.not-Some)))

pub returns-clause-sides : goal.returns-clause-sides
returns-clause-sides c = λ s k.
    let store : Records = view c.store.inside in
    knows_put store c.args.place c.in-Some.socket _ c.in-Some.ensures.item refl (rw (← c.store.view_is) at k)
