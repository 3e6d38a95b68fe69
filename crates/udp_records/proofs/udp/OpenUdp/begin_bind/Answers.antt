use Rattle.std.proofs.Common.{refl}
use Rattle.wasi_world.proofs.Walks.{refused_on, asks_then}
use Rattle.record_common.proofs.SideCounts.{none_then}
use Rattle.udp_records.proofs.UdpBinds.{udp_begins_none}
use Rattle.udp_records.proofs.udp.OpenUdp.begin_bind.Goals as goal

pub returns-in_err-bind-clause-asked : goal.returns-in_err-bind-clause-asked
returns-in_err-bind-clause-asked g c = refused_on _ _ c.from_residual.result c.from_residual.ensures.1 c.in_err-bind.ensures.asked (λ code. refl)

pub returns-in_err-bind-clause-none : goal.returns-in_err-bind-clause-none
returns-in_err-bind-clause-none g c = udp_begins_none c.args.op c.args.self.now.inner c.args.addr _ c.in_err-bind.ensures.asked

pub returns-clause-asked : goal.returns-clause-asked
returns-clause-asked g c = asks_then _ c.in_ok-bind.ensures.asked.ok (rw c.new.ensures at c.poll_bind.ensures.asked)

pub returns-clause-none : goal.returns-clause-none
returns-clause-none g c = none_then (udp_begins_none c.args.op c.args.self.now.inner c.args.addr _ c.in_ok-bind.ensures.asked) c.poll_bind.ensures.none
