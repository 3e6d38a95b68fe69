use Rattle.std.proofs.Common.{refl}
use Rattle.wasi_world.proofs.Walks.{asks_end, asks_then}
use Rattle.host_store.specs.Views.{state_of}
use Rattle.host_streams.proofs.Blocks.{call_passed, flush_gives}
use Rattle.host_streams.proofs.StreamCalls.{none_named}
use Rattle.host_streams.proofs.blocking.blocking_flush.Goals as goal

pub returns-in_err-to-clause-asked : goal.returns-in_err-to-clause-asked
returns-in_err-to-clause-asked g c =
    rw (c.in_err-to.ensures.none.1, c.in_err-to.ensures.none.0) (none_named _ _ _ c.from_residual.result
    c.from_residual.ensures.1 c.in_err-to.ensures.err refl)

pub returns-in_err-flush-clause-asked : goal.returns-in_err-flush-clause-asked
returns-in_err-flush-clause-asked g c =
    rw (← c.in_ok-to.ensures.named.0) (call_passed _ _ c.from_residual-in_err-flush.result
    c.from_residual-in_err-flush.ensures.1 c.in_err-flush.ensures.asked (λ stop. refl))

pub returns-in_err-permit-clause-asked : goal.returns-in_err-permit-clause-asked
returns-in_err-permit-clause-asked g c =
    rw (← c.in_ok-to.ensures.named.0) (asks_then _ c.in_ok-flush.ensures.asked.ok
    (call_passed _ _ c.from_residual-in_err-permit.result c.from_residual-in_err-permit.ensures.1
    (rw c.in_ok-flush.ensures.kept.ids at c.in_err-permit.ensures.asked) (λ stop. refl)))

pub returns-then-permit-eq0-clause-asked : goal.returns-then-permit-eq0-clause-asked
returns-then-permit-eq0-clause-asked g c =
    rw (
      c.block_as.ensures.answer,
      c.block_as.ensures.state,
      c.in_ok-permit.ensures.kept.ids,
      c.in_ok-flush.ensures.kept.ids,
      ← c.in_ok-to.ensures.named.0,
    ) (asks_then _ c.in_ok-flush.ensures.asked.ok
    (asks_end _ (rw c.in_ok-flush.ensures.kept.ids at c.in_ok-permit.ensures.asked).ok (rw c.if-permit-eq0.true refl)))

pub returns-clause-asked : goal.returns-clause-asked
returns-clause-asked g c =
    rw (← c.in_ok-to.ensures.named.0) (asks_then _ c.in_ok-flush.ensures.asked.ok (asks_end _
    (rw c.in_ok-flush.ensures.kept.ids at c.in_ok-permit.ensures.asked).ok (rw
    (flush_gives c.args.ids.now c.in_ok-to.to.handle c.in_ok-permit.permit
    (state_of c.check_write.new.view) c.if-permit-eq0.false) refl)))
