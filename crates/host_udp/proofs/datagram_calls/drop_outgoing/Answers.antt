use Rattle.std.proofs.Common.{refl, true, ap, sym, ◌∙◌}
use Rattle.wasi_world.specs.declared.outcome.Answer.TheVariants.{Pending}
use Rattle.host_store.specs.declared.store.StandingCall.TheVariants.{DropOutgoing}
use Rattle.host_udp.specs.DatagramCalls.{drop_outgoing_by}
use Rattle.host_store.specs.Store.{Records}
use Rattle.host_store.specs.Store.{with_open_udp}
use Rattle.host_udp.proofs.DatagramStores.{given_back, knows_back, knows_put}
use Rattle.host_store.proofs.KnownSides.{knows_stood}
use Rattle.wasi_records.proofs.UdpLookups.{open_found}
use Rattle.host_store.specs.declared.store.Store.TheView.{view}
use Rattle.host_udp.proofs.datagram_calls.drop_outgoing.Goals as goal

pub returns-then-sends-clause-sides : goal.returns-then-sends-clause-sides
returns-then-sends-clause-sides c = λ s k.
    let store : Records = view c.store.inside in
    knows_stood (with_open_udp store c.args.place c.in-Some.socket.now) _ c.args.ids (DropOutgoing c.args.place) Pending _ c.stand.ensures (knows_back store c.args.place c.in-Some.socket c.in-Some.ensures.item (rw (← c.store.view_is) at k))

pub returns-then-sends-clause-dropped : goal.returns-then-sends-clause-dropped
returns-then-sends-clause-dropped c =
    let store : Records = view c.store.inside in
    rw (← c.store.view_is, open_found c.store.inside.records.items c.args.place c.in-Some.socket c.in-Some.ensures.item)
    (c.stand.ensures ∙ (ap (λ (r : Records). drop_outgoing_by r c.args.ids c.args.place c.in-Some.socket.now true) (given_back store c.args.place c.in-Some.socket c.in-Some.ensures.item)
    ∙ ap (drop_outgoing_by store c.args.ids c.args.place c.in-Some.socket.now) (sym (sym c.sends.ensures ∙ c.if-sends.true))))

pub returns-clause-sides : goal.returns-clause-sides
returns-clause-sides c = λ s k.
    let store : Records = view c.store.inside in
    knows_put store c.args.place c.in-Some.socket _ c.in-Some.ensures.item refl (rw (← c.store.view_is) at k)
