use Rattle.std.proofs.Common.{refl, sym}
use Rattle.socket_common.specs.Options.{option_of, number_of}
use Rattle.wasi_world.specs.Asks.{outcome}
use Rattle.wasi_world.proofs.Walks.{asks_at, asks_gives}
use Rattle.wasi_udp.specs.Options.{set_option_asks}
use Rattle.record_common.specs.Names.{own_of}
use Rattle.record_common.proofs.SideCounts.{Any}
use Rattle.udp_records.proofs.UdpCalms.{calm_udp_set}
use Rattle.wasi_records.proofs.UdpLookups.{held_in-open}
use Rattle.host_store.specs.Views.{state_of}
use Rattle.host_store.proofs.KnownSides.{knows_asked}
use Rattle.wasi_p3.specs.Udp.{staying}
use Rattle.wasi_p3.proofs.Called.{udp_called, udp_none}
use Rattle.wasi_p3.proofs.udp.set_option.Goals as goal

pub returns-in_default-clause-asked : goal.returns-in_default-clause-asked
returns-in_default-clause-asked g c = udp_none (state_of c.args.view.now) c.args.socket
    (λ o. staying o (set_option_asks (own_of c.args.ids.now.line) o.inner (option_of c.args.setting)
    (number_of c.args.setting))) c.in_ok-place.ensures (sym c.in_default.ensures.item)

-- the socket stays as it was
pub returns-clause-asked : goal.returns-clause-asked
returns-clause-asked g c = rw c.set_option.ensures.same
    (udp_called (state_of c.args.view.now) c.args.socket c.in-Some.socket.now
    (λ o. staying o (set_option_asks (own_of c.args.ids.now.line) o.inner (option_of c.args.setting)
    (number_of c.args.setting))) c.set_option.result
    c.answered.result c.in_ok-place.ensures (sym c.in-Some.ensures.item) c.answered.ensures.told
    (asks_gives (λ told. (told, c.in-Some.socket.now))
    (asks_at (λ op. set_option_asks op c.in-Some.socket.now.inner (option_of c.args.setting)
    (number_of c.args.setting)) (sym c.own.ensures) c.set_option.ensures.asked)))

pub returns-clause-kept : goal.returns-clause-kept
returns-clause-kept g c = record {
  sides = rw c.set_option.ensures.same (knows_asked Any (outcome c.set_option.result) _ _
      (calm_udp_set _ c.in-Some.socket.now.inner (option_of c.args.setting) (number_of c.args.setting))
      c.set_option.ensures.asked
      (held_in-open c.args.view.now.store.now.records _ c.in-Some.socket.now c.in-Some.socket.now
      (sym c.in-Some.ensures.item) refl));
  view = record { context = refl; same_context = refl; same_table = refl; same_store = refl };
  ids = refl;
}
