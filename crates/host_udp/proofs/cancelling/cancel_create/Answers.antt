use Rattle.std.proofs.Common.{Some, ap, refl, sym, ◌∙◌}
use Rattle.wasi_world.specs.Asks.{Give}
use Rattle.wasi_world.proofs.Walks.{asks_end, asks_exit}
use Rattle.host_store.specs.GivingBack.{given_back}
use Rattle.host_store.specs.Store.{Records}
use Rattle.wasi_records.specs.declared.records.Record.TheVariants.{Udp}
use Rattle.udp_records.specs.declared.udp.UdpRecord.{UdpRecord}
use Rattle.udp_records.specs.declared.udp.UdpRecord.TheVariants.{Closed}
use Rattle.udp_records.proofs.ReceiveLists.{on_err}
use Rattle.host_store.proofs.GivenBack.{given_back_put}
use Rattle.host_udp.proofs.UdpLeft.{knows_cancelled}
use Rattle.host_store.specs.declared.store.Store.TheView.{view}
use Rattle.host_udp.proofs.cancelling.cancel_create.Goals as goal

pub returns-in_err-cancel-clause-asked : goal.returns-in_err-cancel-clause-asked
returns-in_err-cancel-clause-asked g c =
    let found = sym c.in-Some.ensures.item ∙ ap (λ (u : UdpRecord). Some u) c.in-Creating.is in
    rw (← c.store.view_is, found) (asks_exit _ _ c.from_residual.ensures.1 c.in_err-cancel.ensures.asked.err)

pub returns-clause-asked : goal.returns-clause-asked
returns-clause-asked g c =
    let store : Records = view c.store.inside in
    let found = sym c.in-Some.ensures.item ∙ ap (λ (u : UdpRecord). Some u) c.in-Creating.is in
    let gone = c.give_back.ensures.state ∙ ap (given_back c.args.place) (sym c.store.view_is) in
    rw (← c.store.view_is, found, gone)
    (asks_end _ c.in_ok-cancel.ensures.asked.ok (ap (λ (now : Records). Give now) (given_back_put store c.args.place (Udp (Closed c.in-Creating.create.operation.who.side)))))

pub returns-clause-sides : goal.returns-clause-sides
returns-clause-sides g c = λ k.
    let store : Records = view c.store.inside in
    let found = sym c.in-Some.ensures.item ∙ ap (λ (u : UdpRecord). Some u) c.in-Creating.is in
    let gone = c.give_back.ensures.state ∙ ap (given_back c.args.place) (sym c.store.view_is) in
    rw gone (knows_cancelled store c.args.place c.in-Creating.create found c.in_ok-cancel.ensures.closed (rw (← c.store.view_is) at k))

pub returns-in_err-cancel-clause-left : goal.returns-in_err-cancel-clause-left
returns-in_err-cancel-clause-left g c = on_err _ refl

pub returns-in_err-cancel-clause-unasked : goal.returns-in_err-cancel-clause-unasked
returns-in_err-cancel-clause-unasked g c = on_err _ c.in_err-cancel.ensures.unasked
