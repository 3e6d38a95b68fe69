use Rattle.std.proofs.Common.{refl, sym}
use Rattle.wasi_world.specs.Asks.{outcome}
use Rattle.wasi_world.proofs.Walks.{asks_at, asks_gives}
use Rattle.wasi_udp.specs.Socket.{disconnect_asks}
use Rattle.record_common.specs.Names.{own_of}
use Rattle.udp_records.specs.Udp.{with_udp_inner}
use Rattle.udp_records.proofs.DatagramCalms.{calm_disconnect}
use Rattle.record_common.proofs.SideCounts.{Any}
use Rattle.wasi_records.proofs.UdpLookups.{held_in-open}
use Rattle.host_store.specs.Views.{state_of}
use Rattle.host_store.proofs.KnownSides.{knows_asked}
use Rattle.wasi_p3.specs.Udp.{disconnect_of, inner_told}
use Rattle.wasi_p3.proofs.Called.{udp_called, udp_none}
use Rattle.wasi_p3.proofs.udp.disconnect.Goals as goal

pub returns-in_default-clause-asked : goal.returns-in_default-clause-asked
returns-in_default-clause-asked g c = udp_none (state_of c.args.view.now) c.args.socket
    (disconnect_of (own_of c.args.ids.now.line)) c.in_ok-place.ensures (sym c.in_default.ensures.item)

pub returns-clause-asked : goal.returns-clause-asked
returns-clause-asked g c =
    udp_called (state_of c.args.view.now) c.args.socket (with_udp_inner c.in-Some.socket.now c.disconnect.new.self)
    (disconnect_of (own_of c.args.ids.now.line)) c.disconnect.result c.answered.result c.in_ok-place.ensures
    (sym c.in-Some.ensures.item) c.answered.ensures.told
    (asks_gives (inner_told c.in-Some.socket.now)
    (asks_at (λ op. disconnect_asks op c.in-Some.socket.now.inner) (sym c.own.ensures) c.disconnect.ensures.asked))

pub returns-clause-kept : goal.returns-clause-kept
returns-clause-kept g c = record {
  sides = knows_asked Any (outcome c.disconnect.result) _ _ (calm_disconnect _ c.in-Some.socket.now.inner)
      c.disconnect.ensures.asked (held_in-open c.args.view.now.store.now.records _ c.in-Some.socket.now
      (with_udp_inner c.in-Some.socket.now c.disconnect.new.self) (sym c.in-Some.ensures.item)
      c.disconnect.ensures.side);
  view = record { context = refl; same_context = refl; same_table = refl; same_store = refl };
  ids = refl;
}
