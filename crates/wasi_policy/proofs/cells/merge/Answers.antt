use Rattle.std.proofs.Common.{◌≡◌, ◌<◌, ◌⊎◌, inl, inr, false, length, drop, arith, sym, ◌∙◌}
use Rattle.wasi_policy.specs.Cells.{cell_of, is_next}
use Rattle.wasi_policy.proofs.FirstCells.{next_is, has_that, step_that}
use Rattle.wasi_policy.proofs.cells.merge.Goals as goal
use Rattle.wasi_policy.proofs.cells.merge.Goals.{then-at-these, else-at-these+then-beside-those}

pub merging-preserved : goal.merging-preserved
merging-preserved c =
    let some : (c.merging.at < length c.args.these.now) ⊎ (c.merging.beside < length c.args.those.now) = elim c.if-at-these.branch [ then-at-these w ↦ inl w.if-at-these.true | else-at-these+then-beside-those w ↦ inr w.if-beside-those.true ] in
    let next : is_next (drop c.merging.at c.args.these.now) (drop c.merging.beside c.args.those.now) ≡ false = sym (next_is c.args.these.now c.args.those.now c.merging.at c.merging.beside) ∙ (sym c.is_next.ensures ∙ c.if-is_next.false) in
    let below = has_that c.args.these.now c.args.those.now c.merging.at c.merging.beside some next in
    record {
      done = rw (c.in_ok-push-2.ensures.items, c.min-else-is_next.ensures) (step_that c.args.these.now c.args.those.now c.merging.at c.merging.beside c.merging.first c.merging.other c.merging.cells.items c.merging.invariant.done (cell_of 0 0) below next);
      here = c.merging.invariant.here;
      there = omega (arith, below);
    }
