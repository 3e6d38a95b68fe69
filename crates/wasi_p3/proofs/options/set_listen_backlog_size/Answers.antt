use Rattle.std.proofs.Common.{refl, sym}
use Rattle.wasi_world.specs.Asks.{outcome}
use Rattle.wasi_world.proofs.Walks.{asks_at, asks_gives}
use Rattle.wasi_tcp.specs.Options.{set_backlog_asks}
use Rattle.record_common.specs.Names.{own_of}
use Rattle.tcp_records.specs.Sockets.{inner_answered, with_inner}
use Rattle.tcp_records.proofs.OptionSides.{calm_backlog}
use Rattle.record_common.proofs.SideCounts.{Any}
use Rattle.wasi_records.proofs.SideCounts.{held_in-set}
use Rattle.host_store.specs.Views.{state_of}
use Rattle.host_store.proofs.KnownSides.{knows_asked}
use Rattle.wasi_p3.specs.Lines.{inner_call}
use Rattle.wasi_p3.proofs.Called.{tcp_called, tcp_none}
use Rattle.wasi_p3.proofs.options.set_listen_backlog_size.Goals as goal

pub returns-in_default-clause-asked : goal.returns-in_default-clause-asked
returns-in_default-clause-asked g c = tcp_none (state_of c.args.view.now) c.args.socket
    (inner_call (λ s. set_backlog_asks (own_of c.args.ids.now.line) s c.args.value)) c.in_ok-place.ensures
    (sym c.in_default.ensures.item)

pub returns-clause-asked : goal.returns-clause-asked
returns-clause-asked g c =
    tcp_called (state_of c.args.view.now) c.args.socket
    (with_inner c.in-Some.record.now c.set_listen_backlog_size.new.self)
    (inner_call (λ s. set_backlog_asks (own_of c.args.ids.now.line) s c.args.value)) c.set_listen_backlog_size.result
    c.answered.result c.in_ok-place.ensures (sym c.in-Some.ensures.item) c.answered.ensures.told
    (asks_gives (inner_answered c.in-Some.record.now)
    (asks_at (λ op. set_backlog_asks op c.in-Some.record.now.inner c.args.value) (sym c.own.ensures)
    c.set_listen_backlog_size.ensures.asked))

pub returns-clause-kept : goal.returns-clause-kept
returns-clause-kept g c = record {
  sides = knows_asked Any (outcome c.set_listen_backlog_size.result) _ _
      (calm_backlog _ c.in-Some.record.now.inner c.args.value) c.set_listen_backlog_size.ensures.asked
      (held_in-set c.args.view.now.store.now.records _ c.in-Some.record.now
      (with_inner c.in-Some.record.now c.set_listen_backlog_size.new.self) (sym c.in-Some.ensures.item)
      c.set_listen_backlog_size.ensures.side refl);
  view = record { context = refl; same_context = refl; same_table = refl; same_store = refl };
  ids = refl;
}
