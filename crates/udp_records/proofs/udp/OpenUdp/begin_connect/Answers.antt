use Rattle.std.proofs.Common.{refl}
use Rattle.wasi_world.proofs.Walks.{refused_on, asks_then}
use Rattle.udp_records.proofs.DatagramCalms.{calm_connect_begins}
use Rattle.record_common.proofs.SideCounts.{none_calm, none_then}
use Rattle.udp_records.proofs.udp.OpenUdp.begin_connect.Goals as goal

pub returns-in_err-connect-clause-asked : goal.returns-in_err-connect-clause-asked
returns-in_err-connect-clause-asked g c = refused_on _ _ c.from_residual.result c.from_residual.ensures.1 c.in_err-connect.ensures.asked (λ code. refl)

pub returns-in_err-connect-clause-none : goal.returns-in_err-connect-clause-none
returns-in_err-connect-clause-none g c = none_calm (calm_connect_begins c.args.op c.args.self.now.inner c.args.addr) _ c.in_err-connect.ensures.asked

pub returns-clause-asked : goal.returns-clause-asked
returns-clause-asked g c = asks_then _ c.in_ok-connect.ensures.asked.ok (rw c.new.ensures at c.poll_connect.ensures.asked)

pub returns-clause-none : goal.returns-clause-none
returns-clause-none g c = none_then (none_calm (calm_connect_begins c.args.op c.args.self.now.inner c.args.addr) _ c.in_ok-connect.ensures.asked) c.poll_connect.ensures.none
