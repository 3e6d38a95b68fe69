use Rattle.std.proofs.Common.{refl, sym}
use Rattle.wasi_world.specs.Asks.{outcome}
use Rattle.record_common.specs.Names.{own_of}
use Rattle.tcp_records.specs.Sockets.{tell_remote_asks}
use Rattle.record_common.proofs.SideCounts.{Any}
use Rattle.wasi_records.proofs.SideCounts.{held_in-set}
use Rattle.tcp_records.proofs.SideCounts.{calm_tell_remote}
use Rattle.host_store.specs.Views.{state_of}
use Rattle.host_store.proofs.KnownSides.{knows_asked}
use Rattle.wasi_p3.proofs.Called.{tcp_called, tcp_none}
use Rattle.wasi_p3.proofs.tcp.get_remote_address.Goals as goal

pub returns-in_default-clause-asked : goal.returns-in_default-clause-asked
returns-in_default-clause-asked g c = tcp_none (state_of c.args.view.now) c.args.socket
    (tell_remote_asks (own_of c.args.ids.now.line)) c.in_ok-place.ensures (sym c.in_default.ensures.item)

pub returns-clause-asked : goal.returns-clause-asked
returns-clause-asked g c = tcp_called (state_of c.args.view.now) c.args.socket c.remote_address.new.self
    (tell_remote_asks (own_of c.args.ids.now.line)) c.remote_address.result c.answered.result c.in_ok-place.ensures
    (sym c.in-Some.ensures.item) c.answered.ensures.told (rw c.own.ensures at c.remote_address.ensures.asked)

pub returns-clause-kept : goal.returns-clause-kept
returns-clause-kept g c = record {
  sides = knows_asked Any (outcome c.remote_address.result) _ _ (calm_tell_remote _ c.in-Some.record.now)
      c.remote_address.ensures.asked (held_in-set c.args.view.now.store.now.records _ c.in-Some.record.now
      c.remote_address.new.self (sym c.in-Some.ensures.item) c.remote_address.ensures.side
      c.remote_address.ensures.listening);
  view = record { context = refl; same_context = refl; same_table = refl; same_store = refl };
  ids = refl;
}
