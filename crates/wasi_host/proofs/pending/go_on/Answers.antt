use Rattle.std.proofs.Common.{refl}
use Rattle.wasi_world.proofs.Walks.{asks_end}
use Rattle.record_common.proofs.Hosts.{host_exit, host_passed}
use Rattle.host_store.specs.declared.kind.Interface.TheVariants.{P3}
use Rattle.host_store.specs.BaseStops.{ends_as}
use Rattle.wasi_host.specs.Pending.{handle_outcome, outcome_of}
use Rattle.host_store.specs.Views.{state_of}
use Rattle.wasi_host.proofs.Outcomes.{answered_goes, stored_goes}
use Rattle.wasi_host.proofs.pending.go_on.Goals as goal

pub returns-in-Bind-clause-asked : goal.returns-in-Bind-clause-asked
returns-in-Bind-clause-asked g c = rw (c.in-Bind.is, c.of_start.ensures) (stored_goes outcome_of c.in-Bind.interface (state_of c.args.view.now) (ends_as c.tcp_rebind-bound.result) c.tcp_rebind-bound.ensures.asked)

pub returns-in-Listen-clause-asked : goal.returns-in-Listen-clause-asked
returns-in-Listen-clause-asked g c = rw c.in-Listen.is c.go_on_listen.ensures.asked

pub returns-in_err-answer-in-DropOutput-clause-asked : goal.returns-in_err-answer-in-DropOutput-clause-asked
returns-in_err-answer-in-DropOutput-clause-asked g c = rw c.in-DropOutput.is (host_exit _ c.from_residual.result c.from_residual.ensures.1 c.in_err-answer-in-DropOutput.ensures.asked.err)

pub returns-in_ok-answer-in-DropOutput-clause-asked : goal.returns-in_ok-answer-in-DropOutput-clause-asked
returns-in_ok-answer-in-DropOutput-clause-asked g c = rw c.in-DropOutput.is (asks_end _ c.in_ok-answer-in-DropOutput.ensures.asked.ok (rw c.of_nothing.ensures refl))

pub returns-in-UdpCreate-clause-asked : goal.returns-in-UdpCreate-clause-asked
returns-in-UdpCreate-clause-asked g c = rw (c.in-UdpCreate.is, c.of_handle.ensures) (answered_goes handle_outcome c.in-UdpCreate.interface (ends_as c.create_on-created.result) c.create_on-created.ensures.asked)

pub returns-in-UdpBind-clause-asked : goal.returns-in-UdpBind-clause-asked
returns-in-UdpBind-clause-asked g c = rw (c.in-UdpBind.is, c.of_start-in-UdpBind.ensures) (stored_goes outcome_of c.in-UdpBind.interface (state_of c.args.view.now) (ends_as c.rebind_udp-bound.result) c.rebind_udp-bound.ensures.asked)

pub returns-in_err-answer-in-UdpConnect-clause-asked : goal.returns-in_err-answer-in-UdpConnect-clause-asked
returns-in_err-answer-in-UdpConnect-clause-asked g c = rw c.in-UdpConnect.is (host_passed _ _ c.from_residual-in_err-answer-in-UdpConnect.result c.from_residual-in_err-answer-in-UdpConnect.ensures.1 c.in_err-answer-in-UdpConnect.ensures.asked (λ stop. refl))

pub returns-in_ok-answer-in-UdpConnect-clause-asked : goal.returns-in_ok-answer-in-UdpConnect-clause-asked
returns-in_ok-answer-in-UdpConnect-clause-asked g c = rw c.in-UdpConnect.is (asks_end _ c.in_ok-answer-in-UdpConnect.ensures.asked.ok (rw c.of_pair.ensures refl))

pub returns-in-UdpConnect3-clause-asked : goal.returns-in-UdpConnect3-clause-asked
returns-in-UdpConnect3-clause-asked g c = rw (c.in-UdpConnect3.is, c.of_start-in-UdpConnect3.ensures) (stored_goes outcome_of P3 (state_of c.args.view.now) (ends_as c.reconnect_udp-connected.result) c.reconnect_udp-connected.ensures.asked)
