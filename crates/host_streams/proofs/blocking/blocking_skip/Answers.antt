use Rattle.std.proofs.Common.{refl}
use Rattle.wasi_world.proofs.Walks.{asks_end, asks_then}
use Rattle.host_store.specs.Views.{state_of}
use Rattle.host_streams.proofs.Blocks.{call_passed, skip_none, skip_waits, skip_gives}
use Rattle.host_streams.proofs.StreamCalls.{none_named}
use Rattle.host_streams.proofs.blocking.blocking_skip.Goals as goal

pub returns-in_err-from-clause-asked : goal.returns-in_err-from-clause-asked
returns-in_err-from-clause-asked g c =
    rw (c.in_err-from.ensures.none.1, c.in_err-from.ensures.none.0) (none_named _ _ _ c.from_residual.result
    c.from_residual.ensures.1 c.in_err-from.ensures.err refl)

pub returns-in_err-is_ready-clause-asked : goal.returns-in_err-is_ready-clause-asked
returns-in_err-is_ready-clause-asked g c =
    rw (← c.in_ok-from.ensures.named.0) (call_passed _ _ c.from_residual-in_err-is_ready.result
    c.from_residual-in_err-is_ready.ensures.1 c.in_err-is_ready.ensures.asked (λ stop. refl))

pub returns-then-not-branch-clause-asked : goal.returns-then-not-branch-clause-asked
returns-then-not-branch-clause-asked g c =
    rw (
      c.block_as.ensures.answer,
      c.block_as.ensures.state,
      c.in_ok-is_ready.ensures.kept.ids,
      ← c.in_ok-from.ensures.named.0,
    ) (asks_end _ c.in_ok-is_ready.ensures.asked.ok (rw c.if-not-branch.true refl))

pub returns-in_err-count-clause-asked : goal.returns-in_err-count-clause-asked
returns-in_err-count-clause-asked g c =
    rw (← c.in_ok-from.ensures.named.0) (asks_then _ c.in_ok-is_ready.ensures.asked.ok (rw c.if-not-branch.false
    (call_passed _ _ c.from_residual-in_err-count.result c.from_residual-in_err-count.ensures.1
    (rw c.in_ok-is_ready.ensures.kept.ids at c.in_err-count.ensures.asked) (λ stop. refl))))

pub returns-then-len-eq0-clause-asked : goal.returns-then-len-eq0-clause-asked
returns-then-len-eq0-clause-asked g c =
    rw (← c.in_ok-from.ensures.named.0) (asks_then _ c.in_ok-is_ready.ensures.asked.ok (rw c.if-not-branch.false
    (asks_end _ (rw c.in_ok-is_ready.ensures.kept.ids at c.in_ok-count.ensures.asked).ok (rw
    (skip_none c.args.ids.now c.in_ok-from.from.handle c.args.len c.in_ok-count.count
    (state_of c.skip.new.view) c.if-len-eq0.true) refl))))

pub returns-then-count-eq0-clause-asked : goal.returns-then-count-eq0-clause-asked
returns-then-count-eq0-clause-asked g c =
    rw (
      c.block_as-then-count-eq0.ensures.answer,
      c.block_as-then-count-eq0.ensures.state,
      c.in_ok-count.ensures.kept.ids,
      c.in_ok-is_ready.ensures.kept.ids,
      ← c.in_ok-from.ensures.named.0,
    )
    (asks_then _ c.in_ok-is_ready.ensures.asked.ok (rw c.if-not-branch.false (asks_end _
    (rw c.in_ok-is_ready.ensures.kept.ids at c.in_ok-count.ensures.asked).ok (rw
    (skip_waits c.args.ids.now c.in_ok-from.from.handle c.args.len c.in_ok-count.count
    (state_of c.skip.new.view) c.if-len-eq0.false c.if-count-eq0.true) refl))))

pub returns-clause-asked : goal.returns-clause-asked
returns-clause-asked g c =
    rw (← c.in_ok-from.ensures.named.0) (asks_then _ c.in_ok-is_ready.ensures.asked.ok (rw c.if-not-branch.false
    (asks_end _ (rw c.in_ok-is_ready.ensures.kept.ids at c.in_ok-count.ensures.asked).ok (rw
    (skip_gives c.args.ids.now c.in_ok-from.from.handle c.args.len c.in_ok-count.count
    (state_of c.skip.new.view) c.if-count-eq0.false) refl))))
