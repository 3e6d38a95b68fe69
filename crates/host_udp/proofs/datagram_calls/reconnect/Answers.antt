use Rattle.std.proofs.Common.{ap, sym, refl}
use Rattle.wasi_world.specs.Asks.{Give}
use Rattle.wasi_world.proofs.Walks.{asks_end}
use Rattle.host_store.specs.Standing.{allowed_answer}
use Rattle.host_store.specs.Store.{Records}
use Rattle.host_udp.proofs.DatagramStores.{knows_open, knows_open-stood}
use Rattle.record_common.proofs.Hosts.{host_refused}
use Rattle.wasi_records.proofs.UdpLookups.{open_found}
use Rattle.host_store.specs.declared.store.Store.TheView.{view}
use Rattle.host_udp.proofs.datagram_calls.reconnect.Goals as goal

pub returns-in_err-answer-clause-asked : goal.returns-in_err-answer-clause-asked
returns-in_err-answer-clause-asked g c =
    rw (← c.store.view_is, open_found c.store.inside.records.items c.args.place c.in-Some.socket c.in-Some.ensures.item)
    (host_refused _ _ c.from_residual.result c.from_residual.ensures.1 c.in_err-answer.ensures.asked (λ code. refl))

pub returns-in_err-answer-clause-sides : goal.returns-in_err-answer-clause-sides
returns-in_err-answer-clause-sides g c = λ k.
    let store : Records = view c.store.inside in
    knows_open store c.args.place c.in-Some.socket c.poll_connect.new.self c.in-Some.ensures.item c.poll_connect.ensures.side c.poll_connect.ensures.none (rw (← c.store.view_is) at k)

pub returns-clause-asked : goal.returns-clause-asked
returns-clause-asked g c =
    rw (← c.store.view_is, open_found c.store.inside.records.items c.args.place c.in-Some.socket c.in-Some.ensures.item)
    (asks_end _ c.in_ok-answer.ensures.asked.ok (ap (λ d. Give (allowed_answer d)) (sym c.stand.ensures)))

pub returns-clause-sides : goal.returns-clause-sides
returns-clause-sides g c = λ k.
    let store : Records = view c.store.inside in
    knows_open-stood store _ c.args.place c.in-Some.socket c.poll_connect.new.self _ _ _ _ c.stand.ensures c.in-Some.ensures.item c.poll_connect.ensures.side c.poll_connect.ensures.none (rw (← c.store.view_is) at k)
