use Rattle.std.proofs.Common.{refl}
use Rattle.wasi_world.proofs.Walks.{asks_given, asks_end}
use Rattle.socket_common.specs.Options.{option_of, number_of}
use Rattle.record_common.proofs.Hosts.{host_refused}
use Rattle.wasi_records.proofs.Lookups.{found_at, none_at, set_back}
use Rattle.record_common.proofs.SideCounts.{Any}
use Rattle.host_store.proofs.KnownSides.{knows_asked, knows_calm}
use Rattle.tcp_records.proofs.OptionSides.{calm_set}
use Rattle.host_tcp.proofs.options.tcp_set_option.Goals as goal

pub returns-in_default-clause-asked : goal.returns-in_default-clause-asked
returns-in_default-clause-asked g c = rw (← c.store.view_is, none_at c.store.inside.records.items c.args.place c.in_default.ensures.item) (asks_given _ _ refl refl)

-- the socket stays as it was, and so the records do
pub returns-in_err-set_option-clause-asked : goal.returns-in_err-set_option-clause-asked
returns-in_err-set_option-clause-asked g c =
    rw (← c.store.view_is, found_at c.store.inside.records.items c.args.place c.in-Some.record c.in-Some.ensures.item, c.set_option.ensures.same, set_back c.store.inside.records.items c.args.place c.in-Some.record c.in-Some.ensures.item)
    (host_refused _ _ c.from_residual.result c.from_residual.ensures.1 (rw c.set_option.ensures.same at c.in_err-set_option.ensures.asked) (λ code. refl))

pub returns-clause-asked : goal.returns-clause-asked
returns-clause-asked g c =
    rw (← c.store.view_is, found_at c.store.inside.records.items c.args.place c.in-Some.record c.in-Some.ensures.item, c.set_option.ensures.same, set_back c.store.inside.records.items c.args.place c.in-Some.record c.in-Some.ensures.item)
    (asks_end _ c.in_ok-set_option.ensures.asked.ok refl)

pub returns-in_err-set_option-clause-sides : goal.returns-in_err-set_option-clause-sides
returns-in_err-set_option-clause-sides g c = λ k.
    rw (c.set_option.ensures.same, set_back c.store.inside.records.items c.args.place c.in-Some.record c.in-Some.ensures.item)
    (knows_asked Any _ _ _ (calm_set c.args.op c.in-Some.record.now.inner (option_of c.args.setting) (number_of c.args.setting)) c.in_err-set_option.ensures.asked refl (rw (← c.store.view_is) at k))

pub returns-clause-sides : goal.returns-clause-sides
returns-clause-sides g c = λ k.
    rw (c.set_option.ensures.same, set_back c.store.inside.records.items c.args.place c.in-Some.record c.in-Some.ensures.item)
    (knows_calm Any _ _ (calm_set c.args.op c.in-Some.record.now.inner (option_of c.args.setting) (number_of c.args.setting)) c.in_ok-set_option.ensures.asked.ok refl (rw (← c.store.view_is) at k))
