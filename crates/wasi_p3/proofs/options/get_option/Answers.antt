use Rattle.std.proofs.Common.{refl, sym}
use Rattle.wasi_world.specs.Asks.{outcome}
use Rattle.wasi_world.proofs.Walks.{asks_gives}
use Rattle.wasi_tcp.specs.Options.{get_option_asks}
use Rattle.record_common.specs.Names.{own_of}
use Rattle.tcp_records.specs.Sockets.{inner_answered}
use Rattle.tcp_records.proofs.OptionSides.{calm_get}
use Rattle.record_common.proofs.SideCounts.{Any}
use Rattle.wasi_records.proofs.SideCounts.{held_in-set}
use Rattle.host_store.specs.Views.{state_of}
use Rattle.host_store.proofs.KnownSides.{knows_asked}
use Rattle.wasi_p3.specs.Lines.{inner_call}
use Rattle.wasi_p3.proofs.Called.{tcp_called, tcp_none}
use Rattle.wasi_p3.proofs.options.get_option.Goals as goal

pub returns-in_default-clause-asked : goal.returns-in_default-clause-asked
returns-in_default-clause-asked g c = tcp_none (state_of c.args.view.now) c.args.socket
    (inner_call (λ s. get_option_asks (own_of c.args.ids.now.line) s c.args.option)) c.in_ok-place.ensures
    (sym c.in_default.ensures.item)

pub returns-clause-asked : goal.returns-clause-asked
returns-clause-asked g c =
    tcp_called (state_of c.args.view.now) c.args.socket c.in-Some.record.now
    (inner_call (λ s. get_option_asks (own_of c.args.ids.now.line) s c.args.option)) c.get_option.result
    c.answered.result
    c.in_ok-place.ensures (sym c.in-Some.ensures.item) c.answered.ensures.told
    (asks_gives (inner_answered c.in-Some.record.now) (rw c.own.ensures at c.get_option.ensures.asked))

pub returns-clause-kept : goal.returns-clause-kept
returns-clause-kept g c = record {
  sides = knows_asked Any (outcome c.get_option.result) _ _ (calm_get _ c.in-Some.record.now.inner c.args.option)
      c.get_option.ensures.asked
      (held_in-set c.args.view.now.store.now.records _ c.in-Some.record.now c.in-Some.record.now
      (sym c.in-Some.ensures.item) refl refl);
  view = record { context = refl; same_context = refl; same_table = refl; same_store = refl };
  ids = refl;
}
