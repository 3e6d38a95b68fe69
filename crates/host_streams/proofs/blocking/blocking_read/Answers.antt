use Rattle.std.proofs.Common.{refl}
use Rattle.wasi_world.proofs.Walks.{asks_end, asks_then}
use Rattle.host_store.specs.Views.{state_of}
use Rattle.host_streams.proofs.Blocks.{never, call_passed, read_none, read_waits, read_gives}
use Rattle.host_streams.proofs.StreamCalls.{none_named}
use Rattle.host_streams.proofs.blocking.blocking_read.Goals as goal

pub returns-in_err-from-clause-asked : goal.returns-in_err-from-clause-asked
returns-in_err-from-clause-asked g c =
    rw (c.in_err-from.ensures.none.1, c.in_err-from.ensures.none.0) (none_named _ _ _ c.from_residual.result
    c.from_residual.ensures.1 c.in_err-from.ensures.err refl)

pub returns-in_err-is_ready-clause-asked : goal.returns-in_err-is_ready-clause-asked
returns-in_err-is_ready-clause-asked g c =
    rw (← c.in_ok-from.ensures.named.0) (call_passed _ _ c.from_residual-in_err-is_ready.result
    c.from_residual-in_err-is_ready.ensures.1 c.in_err-is_ready.ensures.asked (λ stop. refl))

pub returns-then-not-branch-clause-asked : goal.returns-then-not-branch-clause-asked
returns-then-not-branch-clause-asked g c =
    rw (
      c.block_as.ensures.answer,
      c.block_as.ensures.state,
      c.in_ok-is_ready.ensures.kept.ids,
      ← c.in_ok-from.ensures.named.0,
    ) (asks_end _ c.in_ok-is_ready.ensures.asked.ok (rw c.if-not-branch.true refl))

pub returns-in_err-bytes-clause-asked : goal.returns-in_err-bytes-clause-asked
returns-in_err-bytes-clause-asked g c =
    rw (← c.in_ok-from.ensures.named.0) (asks_then _ c.in_ok-is_ready.ensures.asked.ok (rw c.if-not-branch.false
    (call_passed _ _ c.from_residual-in_err-bytes.result c.from_residual-in_err-bytes.ensures.1
    (rw c.in_ok-is_ready.ensures.kept.ids at c.in_err-bytes.ensures.asked) (λ stop. refl))))

pub returns-then-len-eq0-clause-asked : goal.returns-then-len-eq0-clause-asked
returns-then-len-eq0-clause-asked g c =
    rw (← c.in_ok-from.ensures.named.0) (asks_then _ c.in_ok-is_ready.ensures.asked.ok (rw c.if-not-branch.false
    (asks_end _ (rw c.in_ok-is_ready.ensures.kept.ids at c.in_ok-bytes.ensures.asked).ok (rw
    (read_none c.args.ids.now c.in_ok-from.from.handle c.args.len c.in_ok-bytes.bytes
    (state_of c.read.new.view) c.if-len-eq0.true) refl))))

pub returns-then-is_empty-clause-asked : goal.returns-then-is_empty-clause-asked
returns-then-is_empty-clause-asked g c =
    rw (
      c.block_as-then-is_empty.ensures.answer,
      c.block_as-then-is_empty.ensures.state,
      c.in_ok-bytes.ensures.kept.ids,
      c.in_ok-is_ready.ensures.kept.ids,
      ← c.in_ok-from.ensures.named.0,
    )
    (asks_then _ c.in_ok-is_ready.ensures.asked.ok (rw c.if-not-branch.false (asks_end _
    (rw c.in_ok-is_ready.ensures.kept.ids at c.in_ok-bytes.ensures.asked).ok (rw
    (read_waits c.args.ids.now c.in_ok-from.from.handle c.args.len c.in_ok-bytes.bytes
    (state_of c.read.new.view) c.if-len-eq0.false (c.is_empty.ensures.0 c.if-is_empty.true)) refl))))

pub returns-clause-asked : goal.returns-clause-asked
returns-clause-asked g c =
    rw (← c.in_ok-from.ensures.named.0) (asks_then _ c.in_ok-is_ready.ensures.asked.ok (rw c.if-not-branch.false
    (asks_end _ (rw c.in_ok-is_ready.ensures.kept.ids at c.in_ok-bytes.ensures.asked).ok (rw
    (read_gives c.args.ids.now c.in_ok-from.from.handle c.args.len c.in_ok-bytes.bytes (state_of c.read.new.view)
    (λ e. never _ (c.is_empty.ensures.1 e) c.if-is_empty.false)) refl))))
