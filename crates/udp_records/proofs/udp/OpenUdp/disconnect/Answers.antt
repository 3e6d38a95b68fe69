use Rattle.std.proofs.Common.{refl, sym, ap, ◌∙◌}
use Rattle.wasi_world.proofs.Walks.{asks_at, refused_on}
use Rattle.udp_records.specs.Datagrams.{disconnect_streams}
use Rattle.udp_records.proofs.DatagramCalms.{calm_disconnect}
use Rattle.record_common.proofs.SideCounts.{none_calm, none_first}
use Rattle.udp_records.proofs.UdpConnects.{streams_disconnected, streams_unasked}
use Rattle.udp_records.proofs.udp.OpenUdp.disconnect.Goals as goal
use Rattle.udp_records.proofs.udp.OpenUdp.disconnect.Goals.{then-is_connected+in_ok-disconnect, else-is_connected}

pub returns-in_err-disconnect-clause-asked : goal.returns-in_err-disconnect-clause-asked
returns-in_err-disconnect-clause-asked g c =
    asks_at (disconnect_streams c.args.op c.args.self.now) (sym c.is_connected.ensures ∙ c.if-is_connected.true)
    (refused_on _ _ c.from_residual.result c.from_residual.ensures.1 c.in_err-disconnect.ensures.asked (λ code. refl))

pub returns-in_err-disconnect-clause-none : goal.returns-in_err-disconnect-clause-none
returns-in_err-disconnect-clause-none g c = none_calm (calm_disconnect c.args.op c.args.self.now.inner) _ c.in_err-disconnect.ensures.asked

pub returns-clause-asked : goal.returns-clause-asked
returns-clause-asked g c = rw c.open_streams.ensures (elim c.if-is_connected.branch [
  | then-is_connected+in_ok-disconnect w ↦ streams_disconnected c.args.op c.args.self.now c.if-is_connected.self w.disconnect.new.self (sym c.is_connected.ensures ∙ w.if-is_connected.true) w.in_ok-disconnect.ensures.asked.ok w.self-is (ap g.W.World.seen w.world-is)
  | else-is_connected w ↦ streams_unasked c.args.op c.args.self.now c.if-is_connected.self (sym c.is_connected.ensures ∙ w.if-is_connected.false) w.self-is (ap g.W.World.seen w.world-is)
])

pub returns-clause-none : goal.returns-clause-none
returns-clause-none g c = elim c.if-is_connected.branch [
  | then-is_connected+in_ok-disconnect w ↦ rw w.world-is (none_calm (calm_disconnect c.args.op c.args.self.now.inner) _ w.disconnect.ensures.asked)
  | else-is_connected w ↦ rw w.world-is (none_first _)
]
