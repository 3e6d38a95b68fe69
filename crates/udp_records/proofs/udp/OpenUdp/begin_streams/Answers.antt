use Rattle.std.proofs.Common.{Some, None, refl}
use Rattle.wasi_world.proofs.Walks.{refused_exit, asks_end, asks_then}
use Rattle.record_common.proofs.SideCounts.{none_calm, none_then}
use Rattle.udp_records.proofs.UdpCalms.{calm_bound}
use Rattle.udp_records.proofs.UdpConnects.{streams_bound}
use Rattle.udp_records.proofs.udp.OpenUdp.begin_streams.Goals as goal

pub returns-in_err-is_bound-clause-asked : goal.returns-in_err-is_bound-clause-asked
returns-in_err-is_bound-clause-asked g c = refused_exit _ c.from_residual.result c.from_residual.ensures.1 c.in_err-is_bound.ensures.asked.err

pub returns-in_err-is_bound-clause-none : goal.returns-in_err-is_bound-clause-none
returns-in_err-is_bound-clause-none g c = none_calm (calm_bound c.args.op c.args.self.now.inner) _ c.in_err-is_bound.ensures.asked

pub returns-then-not-branch-clause-asked : goal.returns-then-not-branch-clause-asked
returns-then-not-branch-clause-asked g c = asks_end _ c.in_ok-is_bound.ensures.asked.ok (rw c.if-not-branch.true refl)

pub returns-then-not-branch-clause-none : goal.returns-then-not-branch-clause-none
returns-then-not-branch-clause-none g c = none_calm (calm_bound c.args.op c.args.self.now.inner) _ c.in_ok-is_bound.ensures.asked

pub returns-in-Some-clause-asked : goal.returns-in-Some-clause-asked
returns-in-Some-clause-asked g c = asks_then _ c.in_ok-is_bound.ensures.asked.ok (streams_bound c.args.op c.args.remote (Some c.in-Some.addr) _ c.in_ok-is_bound.field-0 c.if-not-branch.false c.in-Some.is c.begin_connect.ensures.asked)

pub returns-in-Some-clause-none : goal.returns-in-Some-clause-none
returns-in-Some-clause-none g c = none_then (none_calm (calm_bound c.args.op c.args.self.now.inner) _ c.in_ok-is_bound.ensures.asked) c.begin_connect.ensures.none

pub returns-in-None-clause-asked : goal.returns-in-None-clause-asked
returns-in-None-clause-asked g c = asks_then _ c.in_ok-is_bound.ensures.asked.ok (streams_bound c.args.op c.args.remote None _ c.in_ok-is_bound.field-0 c.if-not-branch.false c.in-None.is c.disconnect.ensures.asked)

pub returns-in-None-clause-none : goal.returns-in-None-clause-none
returns-in-None-clause-none g c = none_then (none_calm (calm_bound c.args.op c.args.self.now.inner) _ c.in_ok-is_bound.ensures.asked) c.disconnect.ensures.none
