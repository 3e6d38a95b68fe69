use Rattle.std.proofs.Common.{refl}
use Rattle.wasi_world.proofs.Walks.{asks_given, asks_end}
use Rattle.socket_common.specs.Options.{option_of, number_of}
use Rattle.record_common.proofs.Hosts.{host_refused}
use Rattle.record_common.proofs.SideCounts.{Any}
use Rattle.host_store.proofs.KnownSides.{knows_asked, knows_calm}
use Rattle.udp_records.proofs.UdpCalms.{calm_udp_set}
use Rattle.wasi_records.proofs.UdpLookups.{open_found, not_open, open_back}
use Rattle.host_udp.proofs.udp_calls.set_udp_option.Goals as goal

pub returns-in_default-clause-asked : goal.returns-in_default-clause-asked
returns-in_default-clause-asked g c = rw (← c.store.view_is, not_open c.store.inside.records.items c.args.place c.in_default.ensures.item) (asks_given _ _ refl refl)

-- the socket stays as it was, and so the records do
pub returns-in_err-set_option-clause-asked : goal.returns-in_err-set_option-clause-asked
returns-in_err-set_option-clause-asked g c =
    rw (← c.store.view_is, open_found c.store.inside.records.items c.args.place c.in-Some.socket c.in-Some.ensures.item, c.set_option.ensures.same, open_back c.store.inside.records.items c.args.place c.in-Some.socket c.in-Some.ensures.item)
    (host_refused _ _ c.from_residual.result c.from_residual.ensures.1 c.in_err-set_option.ensures.asked (λ code. refl))

pub returns-clause-asked : goal.returns-clause-asked
returns-clause-asked g c =
    rw (← c.store.view_is, open_found c.store.inside.records.items c.args.place c.in-Some.socket c.in-Some.ensures.item, c.set_option.ensures.same, open_back c.store.inside.records.items c.args.place c.in-Some.socket c.in-Some.ensures.item)
    (asks_end _ c.in_ok-set_option.ensures.asked.ok refl)

pub returns-in_err-set_option-clause-sides : goal.returns-in_err-set_option-clause-sides
returns-in_err-set_option-clause-sides g c = λ k.
    rw (c.set_option.ensures.same, open_back c.store.inside.records.items c.args.place c.in-Some.socket c.in-Some.ensures.item)
    (knows_asked Any _ _ _ (calm_udp_set c.args.op c.in-Some.socket.now.inner (option_of c.args.setting) (number_of c.args.setting)) c.in_err-set_option.ensures.asked refl (rw (← c.store.view_is) at k))

pub returns-clause-sides : goal.returns-clause-sides
returns-clause-sides g c = λ k.
    rw (c.set_option.ensures.same, open_back c.store.inside.records.items c.args.place c.in-Some.socket c.in-Some.ensures.item)
    (knows_calm Any _ _ (calm_udp_set c.args.op c.in-Some.socket.now.inner (option_of c.args.setting) (number_of c.args.setting)) c.in_ok-set_option.ensures.asked.ok refl (rw (← c.store.view_is) at k))
