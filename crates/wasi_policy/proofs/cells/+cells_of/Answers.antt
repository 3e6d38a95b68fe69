use Rattle.std.proofs.Common.{◌≡◌, ◌++◌}
use Rattle.std.proofs.lemmas.List.{take-append-drop}
use Rattle.wasi_policy.specs.Reach.{no_rule}
use Rattle.wasi_policy.proofs.FirstCells.{one_rises, one_first, both_first, merged_rises, then_ok}
use Rattle.wasi_policy.proofs.cells.+cells_of.Goals as goal

pub returns-in-len1-clause-rising : goal.returns-in-len1-clause-rising
returns-in-len1-clause-rising t c = then_ok c.cells_of_one.result c.cells_of_one.ensures.cells (λ cells is. one_rises c.args.reaches.now _ cells.items is)

pub returns-in-len1-clause-first : goal.returns-in-len1-clause-first
returns-in-len1-clause-first t c = then_ok c.cells_of_one.result c.cells_of_one.ensures.cells (λ cells is port. one_first c.args.reaches.now _ cells.items port c.in-len1.len_at_least c.in-len1.len_below c.cells_of_one.ensures.fits is)

pub returns-in_ok-those-in_default-clause-rising : goal.returns-in_ok-those-in_default-clause-rising
returns-in_ok-those-in_default-clause-rising t c = then_ok c.merge.result c.merge.ensures (λ cells is. rw is (merged_rises no_rule no_rule 0 c.as_slice.result.now c.as_slice-in_default.result.now (rw c.as_slice.ensures.value c.in_ok-these-in_default.ensures.rising) (rw c.as_slice-in_default.ensures.value c.in_ok-those-in_default.ensures.rising)))

pub returns-in_ok-those-in_default-clause-first : goal.returns-in_ok-those-in_default-clause-first
returns-in_ok-those-in_default-clause-first t c =
    let whole : c.split_at.result.0.now ++ c.split_at.result.1.now ≡ c.args.reaches.now = rw (c.split_at.ensures.front, c.split_at.ensures.back) (take-append-drop _ c.args.reaches.now) in
    then_ok c.merge.result c.merge.ensures (λ cells is port. both_first c.args.reaches.now c.split_at.result.0.now c.split_at.result.1.now c.as_slice.result.now c.as_slice-in_default.result.now cells.items port whole is (rw c.as_slice.ensures.value (c.in_ok-these-in_default.ensures.first port)) (rw c.as_slice-in_default.ensures.value (c.in_ok-those-in_default.ensures.first port)))
