use Rattle.std.proofs.Common.{refl}
use Rattle.wasi_world.proofs.Walks.{asks_end, asks_given}
use Rattle.record_common.proofs.Hosts.{host_refused}
use Rattle.wasi_records.proofs.Lookups.{got_at, not_got}
use Rattle.record_common.proofs.SideCounts.{Any}
use Rattle.host_store.proofs.KnownSides.{knows_asked, knows_calm}
use Rattle.tcp_records.proofs.OptionSides.{calm_get}
use Rattle.host_tcp.proofs.options.tcp_get_option.Goals as goal

pub returns-in_default-clause-asked : goal.returns-in_default-clause-asked
returns-in_default-clause-asked g c = rw (← c.store.view_is, not_got c.store.inside.records.items c.args.place c.in_default.ensures.item) (asks_given _ _ refl refl)

pub returns-in_err-value-clause-asked : goal.returns-in_err-value-clause-asked
returns-in_err-value-clause-asked g c =
    rw (← c.store.view_is, got_at c.store.inside.records.items c.args.place c.in-Some.record c.in-Some.ensures.item) (host_refused _ _ c.from_residual.result c.from_residual.ensures.1 c.in_err-value.ensures.asked (λ code. refl))

pub returns-clause-asked : goal.returns-clause-asked
returns-clause-asked g c = rw (← c.store.view_is, got_at c.store.inside.records.items c.args.place c.in-Some.record c.in-Some.ensures.item) (asks_end _ c.in_ok-value.ensures.asked.ok refl)

pub returns-in_err-value-clause-sides : goal.returns-in_err-value-clause-sides
returns-in_err-value-clause-sides g c = λ k. knows_asked Any _ _ _ (calm_get c.args.op c.in-Some.record.now.inner c.args.option) c.in_err-value.ensures.asked refl k

pub returns-clause-sides : goal.returns-clause-sides
returns-clause-sides g c = λ k. knows_calm Any _ _ (calm_get c.args.op c.in-Some.record.now.inner c.args.option) c.in_ok-value.ensures.asked.ok refl k
