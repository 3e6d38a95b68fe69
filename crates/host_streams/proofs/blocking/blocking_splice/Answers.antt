use Rattle.std.proofs.Common.{refl, sym, ◌∙◌}
use Rattle.wasi_world.proofs.Walks.{asks_end, asks_then}
use Rattle.host_store.specs.Views.{state_of}
use Rattle.host_streams.proofs.Blocks.{call_passed, never, permitted_some, counted_some, given_some}
use Rattle.host_streams.proofs.blocking.blocking_splice.Goals as goal

pub returns-in_err-permit-clause-asked : goal.returns-in_err-permit-clause-asked
returns-in_err-permit-clause-asked g c =
    rw (
      c.in_ok-to.ensures.some,
      c.in_ok-from.ensures.some,
      ← c.in_ok-to.ensures.named.0,
      ← c.in_ok-from.ensures.named.0,
    ) (call_passed _ _ c.from_residual-in_err-permit.result
    c.from_residual-in_err-permit.ensures.1 c.in_err-permit.ensures.asked (λ stop. refl))

pub returns-then-permit-eq0-clause-asked : goal.returns-then-permit-eq0-clause-asked
returns-then-permit-eq0-clause-asked g c =
    rw (
      c.block_as.ensures.answer,
      c.block_as.ensures.state,
      c.in_ok-permit.ensures.kept.ids,
      c.in_ok-to.ensures.some,
      c.in_ok-from.ensures.some,
      ← c.in_ok-to.ensures.named.0,
      ← c.in_ok-from.ensures.named.0,
    )
    (asks_end _ c.in_ok-permit.ensures.asked.ok (rw c.if-permit-eq0.true refl))

pub returns-then-most-eq0-clause-asked : goal.returns-then-most-eq0-clause-asked
returns-then-most-eq0-clause-asked g c =
    rw (
      c.in_ok-to.ensures.some,
      c.in_ok-from.ensures.some,
      ← c.in_ok-to.ensures.named.0,
      ← c.in_ok-from.ensures.named.0,
    ) (asks_end _ c.in_ok-permit.ensures.asked.ok (rw (
      permitted_some c.args.ids.now c.in_ok-to.to.handle c.in_ok-from.from.handle c.args.len c.in_ok-permit.permit
          (state_of c.check_write.new.view) c.if-permit-eq0.false,
      sym c.min-most.ensures ∙ c.if-most-eq0.true,
    ) refl))

pub returns-in_err-is_ready-clause-asked : goal.returns-in_err-is_ready-clause-asked
returns-in_err-is_ready-clause-asked g c =
    rw (
      c.in_ok-to.ensures.some,
      c.in_ok-from.ensures.some,
      ← c.in_ok-to.ensures.named.0,
      ← c.in_ok-from.ensures.named.0,
    ) (asks_then _ c.in_ok-permit.ensures.asked.ok (rw (
      permitted_some c.args.ids.now c.in_ok-to.to.handle c.in_ok-from.from.handle c.args.len c.in_ok-permit.permit
          (state_of c.check_write.new.view) c.if-permit-eq0.false,
      counted_some c.args.ids.now c.in_ok-to.to.handle
          c.in_ok-from.from.handle c.args.len _ (state_of c.check_write.new.view) (λ e. c.if-most-eq0.false
          (c.min-most.ensures ∙ e)),
    ) (call_passed _ _ c.from_residual-in_err-is_ready.result
    c.from_residual-in_err-is_ready.ensures.1 (rw c.in_ok-permit.ensures.kept.ids at c.in_err-is_ready.ensures.asked)
    (λ stop. refl))))

pub returns-then-not-branch-clause-asked : goal.returns-then-not-branch-clause-asked
returns-then-not-branch-clause-asked g c =
    rw (
      c.block_as-then-not-branch.ensures.answer,
      c.block_as-then-not-branch.ensures.state,
      c.in_ok-is_ready.ensures.kept.ids,
      c.in_ok-permit.ensures.kept.ids,
      c.in_ok-to.ensures.some,
      c.in_ok-from.ensures.some,
      ← c.in_ok-to.ensures.named.0,
      ← c.in_ok-from.ensures.named.0,
    )
    (asks_then _ c.in_ok-permit.ensures.asked.ok (rw (
      permitted_some c.args.ids.now c.in_ok-to.to.handle
          c.in_ok-from.from.handle c.args.len c.in_ok-permit.permit (state_of c.check_write.new.view) c.if-permit-eq0.false,
      counted_some c.args.ids.now c.in_ok-to.to.handle c.in_ok-from.from.handle c.args.len _
          (state_of c.check_write.new.view) (λ e. c.if-most-eq0.false (c.min-most.ensures ∙ e)),
    ) (asks_end _
    (rw c.in_ok-permit.ensures.kept.ids at c.in_ok-is_ready.ensures.asked).ok (rw c.if-not-branch.true refl))))

pub returns-in_err-bytes-clause-asked : goal.returns-in_err-bytes-clause-asked
returns-in_err-bytes-clause-asked g c =
    rw (
      c.in_ok-to.ensures.some,
      c.in_ok-from.ensures.some,
      ← c.in_ok-to.ensures.named.0,
      ← c.in_ok-from.ensures.named.0,
    ) (asks_then _ c.in_ok-permit.ensures.asked.ok (rw (
      permitted_some c.args.ids.now c.in_ok-to.to.handle c.in_ok-from.from.handle c.args.len c.in_ok-permit.permit
          (state_of c.check_write.new.view) c.if-permit-eq0.false,
      counted_some c.args.ids.now c.in_ok-to.to.handle
          c.in_ok-from.from.handle c.args.len _ (state_of c.check_write.new.view) (λ e. c.if-most-eq0.false
          (c.min-most.ensures ∙ e)),
    ) (asks_then _ (rw c.in_ok-permit.ensures.kept.ids at c.in_ok-is_ready.ensures.asked).ok
    (rw c.if-not-branch.false (call_passed _ _ c.from_residual-in_err-bytes.result
    c.from_residual-in_err-bytes.ensures.1 (rw (
      c.min-most.ensures,
      c.in_ok-is_ready.ensures.kept.ids,
      c.in_ok-permit.ensures.kept.ids,
    ) at c.in_err-bytes.ensures.asked) (λ stop. refl))))))

pub returns-then-is_empty-clause-asked : goal.returns-then-is_empty-clause-asked
returns-then-is_empty-clause-asked g c =
    rw (
      c.block_as-then-is_empty.ensures.answer,
      c.block_as-then-is_empty.ensures.state,
      c.in_ok-bytes.ensures.kept.ids,
      c.in_ok-is_ready.ensures.kept.ids,
      c.in_ok-permit.ensures.kept.ids,
      c.in_ok-to.ensures.some,
      c.in_ok-from.ensures.some,
      ← c.in_ok-to.ensures.named.0,
      ← c.in_ok-from.ensures.named.0,
    )
    (asks_then _ c.in_ok-permit.ensures.asked.ok (rw (
      permitted_some c.args.ids.now c.in_ok-to.to.handle
          c.in_ok-from.from.handle c.args.len c.in_ok-permit.permit (state_of c.check_write.new.view) c.if-permit-eq0.false,
      counted_some c.args.ids.now c.in_ok-to.to.handle c.in_ok-from.from.handle c.args.len _
          (state_of c.check_write.new.view) (λ e. c.if-most-eq0.false (c.min-most.ensures ∙ e)),
    ) (asks_then _
    (rw c.in_ok-permit.ensures.kept.ids at c.in_ok-is_ready.ensures.asked).ok (rw c.if-not-branch.false (asks_end _
    (rw (c.min-most.ensures, c.in_ok-is_ready.ensures.kept.ids, c.in_ok-permit.ensures.kept.ids) at
    c.in_ok-bytes.ensures.asked).ok (rw (c.is_empty.ensures.0 c.if-is_empty.true) refl))))))

pub returns-in_err-write-clause-asked : goal.returns-in_err-write-clause-asked
returns-in_err-write-clause-asked g c =
    rw (
      c.in_ok-to.ensures.some,
      c.in_ok-from.ensures.some,
      ← c.in_ok-to.ensures.named.0,
      ← c.in_ok-from.ensures.named.0,
    ) (asks_then _ c.in_ok-permit.ensures.asked.ok (rw (
      permitted_some c.args.ids.now c.in_ok-to.to.handle c.in_ok-from.from.handle c.args.len c.in_ok-permit.permit
          (state_of c.check_write.new.view) c.if-permit-eq0.false,
      counted_some c.args.ids.now c.in_ok-to.to.handle
          c.in_ok-from.from.handle c.args.len _ (state_of c.check_write.new.view) (λ e. c.if-most-eq0.false
          (c.min-most.ensures ∙ e)),
    ) (asks_then _ (rw c.in_ok-permit.ensures.kept.ids at c.in_ok-is_ready.ensures.asked).ok
    (rw c.if-not-branch.false (asks_then _ (rw (
      c.min-most.ensures,
      c.in_ok-is_ready.ensures.kept.ids,
      c.in_ok-permit.ensures.kept.ids,
    ) at c.in_ok-bytes.ensures.asked).ok (rw
    (given_some c.args.ids.now c.in_ok-to.to.handle c.in_ok-from.from.handle c.args.len c.in_ok-bytes.bytes
    (state_of c.read.new.view) (λ e. never _ (c.is_empty.ensures.1 e) c.if-is_empty.false))
    (call_passed _ _ c.from_residual-in_err-write.result c.from_residual-in_err-write.ensures.1 (rw
    (c.in_ok-bytes.ensures.kept.ids, c.in_ok-is_ready.ensures.kept.ids, c.in_ok-permit.ensures.kept.ids) at
    c.in_err-write.ensures.asked) (λ stop. refl))))))))

pub returns-clause-asked : goal.returns-clause-asked
returns-clause-asked g c =
    rw (
      c.in_ok-to.ensures.some,
      c.in_ok-from.ensures.some,
      ← c.in_ok-to.ensures.named.0,
      ← c.in_ok-from.ensures.named.0,
    ) (asks_then _ c.in_ok-permit.ensures.asked.ok (rw (
      permitted_some c.args.ids.now c.in_ok-to.to.handle c.in_ok-from.from.handle c.args.len c.in_ok-permit.permit
          (state_of c.check_write.new.view) c.if-permit-eq0.false,
      counted_some c.args.ids.now c.in_ok-to.to.handle
          c.in_ok-from.from.handle c.args.len _ (state_of c.check_write.new.view) (λ e. c.if-most-eq0.false
          (c.min-most.ensures ∙ e)),
    ) (asks_then _ (rw c.in_ok-permit.ensures.kept.ids at c.in_ok-is_ready.ensures.asked).ok
    (rw c.if-not-branch.false (asks_then _ (rw (
      c.min-most.ensures,
      c.in_ok-is_ready.ensures.kept.ids,
      c.in_ok-permit.ensures.kept.ids,
    ) at c.in_ok-bytes.ensures.asked).ok (rw
    (given_some c.args.ids.now c.in_ok-to.to.handle c.in_ok-from.from.handle c.args.len c.in_ok-bytes.bytes
    (state_of c.read.new.view) (λ e. never _ (c.is_empty.ensures.1 e) c.if-is_empty.false)) (asks_end _ (rw
    (c.in_ok-bytes.ensures.kept.ids, c.in_ok-is_ready.ensures.kept.ids, c.in_ok-permit.ensures.kept.ids) at
    c.in_ok-write.ensures.asked).ok (rw c.len-count.ensures refl))))))))
