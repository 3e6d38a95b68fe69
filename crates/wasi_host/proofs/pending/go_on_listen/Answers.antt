use Rattle.std.proofs.Common.{refl}
use Rattle.wasi_world.proofs.Walks.{asks_end}
use Rattle.record_common.proofs.Hosts.{host_passed}
use Rattle.host_store.specs.declared.kind.Interface.TheVariants.{P3}
use Rattle.host_store.specs.BaseStops.{ends_as}
use Rattle.wasi_host.specs.Pending.{handle_outcome}
use Rattle.wasi_host.proofs.Outcomes.{answered_goes}
use Rattle.wasi_host.proofs.pending.go_on_listen.Goals as goal

pub returns-in_err-answer-clause-asked : goal.returns-in_err-answer-clause-asked
returns-in_err-answer-clause-asked g c = rw c.in_default.is (host_passed _ _ c.from_residual.result c.from_residual.ensures.1 c.in_err-answer.ensures.asked (λ stop. refl))

pub returns-in_default-clause-asked : goal.returns-in_default-clause-asked
returns-in_default-clause-asked g c = rw c.in_default.is (asks_end _ c.in_ok-answer.ensures.asked.ok (rw c.of_nothing.ensures refl))

pub returns-clause-asked : goal.returns-clause-asked
returns-clause-asked g c = rw (c.in-Some.is, c.of_handle.ensures) (answered_goes handle_outcome P3 (ends_as c.relisten_tcp-listened.result) c.relisten_tcp-listened.ensures.asked)
