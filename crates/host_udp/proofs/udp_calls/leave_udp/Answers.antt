use Rattle.std.proofs.Common.{Some, ap, refl, sym, ◌∙◌}
use Rattle.wasi_records.specs.Records.{udp2_at}
use Rattle.host_store.specs.Store.{Records}
use Rattle.udp_records.specs.declared.udp.UdpRecord.TheVariants.{Closed}
use Rattle.host_udp.proofs.UdpLeft.{left_same, left_closed}
use Rattle.host_store.proofs.GivenBack.{udp_held}
use Rattle.host_udp.proofs.udp_calls.leave_udp.Goals as goal

pub returns-in_default-socket : goal.returns-in_default-socket
returns-in_default-socket c =
    let there = c.in-Some.ensures.item ∙ ap (λ (s : Records). udp2_at s.records c.args.place) c.store.view_is in
    record { state = λ u found. left_same c.args.store.now c.args.place u c.in-Some.socket.now found there c.in_default-socket.not-Closed; exclusive = refl; sides = λ s k. k }

pub returns-clause-state : goal.returns-clause-state
returns-clause-state c =
    let there = c.in-Some.ensures.item ∙ ap (λ (s : Records). udp2_at s.records c.args.place) c.store.view_is in
    λ u found. c.give_back.ensures.state ∙ left_closed c.args.store.now c.args.place u c.in-Some.socket.now c.in-Closed.field-0 found there c.in-Closed.is

pub returns-clause-sides : goal.returns-clause-sides
returns-clause-sides c =
    let there = c.in-Some.ensures.item ∙ ap (λ (s : Records). udp2_at s.records c.args.place) c.store.view_is in
    λ s k. c.give_back.ensures.sides s (udp_held c.args.store.now.records c.args.place (Closed c.in-Closed.field-0) (sym there ∙ ap Some c.in-Closed.is)) k
