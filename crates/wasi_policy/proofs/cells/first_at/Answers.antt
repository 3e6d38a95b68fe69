use Rattle.std.proofs.Common.{◌≡◌, ◌<◌, ◌-◌, suc, length, arith, sym, ap, ◌∙◌}
use Rattle.wasi_policy.specs.Reach.{no_rule}
use Rattle.wasi_policy.specs.Cells.{cell_of}
use Rattle.wasi_policy.proofs.FirstCells.{at_count, last_before, last_is}
use Rattle.wasi_policy.proofs.cells.first_at.Goals as goal

pub returns-then-count-eq0 : goal.returns-then-count-eq0
returns-then-count-eq0 c =
    let found = at_count no_rule c.args.cells.now c.args.port c.count_from-count.result c.count_from-count.ensures.begun c.count_from-count.ensures.later in
    sym (found ∙ ap (last_before no_rule c.args.cells.now) c.if-count-eq0.true)

pub returns-else-count-eq0 : goal.returns-else-count-eq0
returns-else-count-eq0 c =
    let count = c.count_from-count.result in
    let found = at_count no_rule c.args.cells.now c.args.port c.count_from-count.result c.count_from-count.ensures.begun c.count_from-count.ensures.later in
    let next : c.count_from-count.result ≡ suc (c.count_from-count.result - 1) = omega (arith, c.if-count-eq0.false) in
    let below : c.count_from-count.result - 1 < length c.args.cells.now = omega (arith, c.count_from-count.ensures.bound, next) in
    sym (found ∙ (ap (last_before no_rule c.args.cells.now) next ∙ last_is no_rule c.args.cells.now (c.count_from-count.result - 1) (cell_of 0 0) below))
