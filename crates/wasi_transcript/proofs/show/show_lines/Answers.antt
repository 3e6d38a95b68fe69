use Rattle.std.proofs.Common.{arith, ap, ◌∙◌}
use Rattle.std.proofs.lemmas.Result.{err_from_is_err_and}
use Rattle.wasi_transcript.proofs.Showings.{between_start, starved_in_reading, read_all, read_part, read_long, read_failed, at_line, line_fits, part_fits, within_limit, line_starved, line_cut, line_traps, line_done, line_is_none, fault_is}
use Rattle.wasi_transcript.proofs.show.show_lines.Goals as goal

pub lines-init : goal.lines-init
lines-init g c =
    record { open_world = c.requires.open; between = between_start _ _ _ _ _ _ _ c.requires.machine c.requires.lines c.new-lines.ensures }

pub returns-in_err-next-clause-shown : goal.returns-in_err-next-clause-shown
returns-in_err-next-clause-shown g c =
    let p = err_from_is_err_and c.from_residual.result c.from_residual.ensures.1 in
    rw (p.1, p.2) (starved_in_reading _ c.lines.invariant.between c.in_err-next.ensures)

pub returns-in_err-next-clause-open : goal.returns-in_err-next-clause-open
returns-in_err-next-clause-open g c = c.lines.invariant.open_world

pub returns-in-End-clause-shown : goal.returns-in-End-clause-shown
returns-in-End-clause-shown g c =
    read_all c.lines.invariant.between (rw c.in-End.is at c.in_ok-next.ensures)

pub returns-in-End-clause-open : goal.returns-in-End-clause-open
returns-in-End-clause-open g c = c.lines.invariant.open_world

pub overflow_add-result : goal.overflow_add-result
overflow_add-result g c =
    let f = part_fits c.ranges.limit.fits c.lines.invariant.between (rw c.in-Unfinished.is at c.in_ok-next.ensures) in omega (arith, f)

pub returns-in-Unfinished-clause-shown : goal.returns-in-Unfinished-clause-shown
returns-in-Unfinished-clause-shown g c =
    read_part c.lines.invariant.between (rw c.in-Unfinished.is at c.in_ok-next.ensures)

pub returns-in-Unfinished-clause-open : goal.returns-in-Unfinished-clause-open
returns-in-Unfinished-clause-open g c = c.lines.invariant.open_world

pub returns-in-TooLong-clause-shown : goal.returns-in-TooLong-clause-shown
returns-in-TooLong-clause-shown g c =
    read_long c.lines.invariant.between (rw c.in-TooLong.is at c.in_ok-next.ensures)

pub returns-in-TooLong-clause-open : goal.returns-in-TooLong-clause-open
returns-in-TooLong-clause-open g c = c.lines.invariant.open_world

pub returns-in-Failed-clause-shown : goal.returns-in-Failed-clause-shown
returns-in-Failed-clause-shown g c =
    read_failed c.lines.invariant.between (rw c.in-Failed.is at c.in_ok-next.ensures)

pub returns-in-Failed-clause-open : goal.returns-in-Failed-clause-open
returns-in-Failed-clause-open g c = c.lines.invariant.open_world

pub do_line-requires-clause-open : goal.do_line-requires-clause-open
do_line-requires-clause-open g c = c.lines.invariant.open_world

pub do_line-requires-clause-numbers : goal.do_line-requires-clause-numbers
do_line-requires-clause-numbers g c =
    line_fits c.ranges.limit.fits c.lines.invariant.between (rw c.in-Whole.is at c.in_ok-next.ensures)

pub returns-in_err-text-clause-shown : goal.returns-in_err-text-clause-shown
returns-in_err-text-clause-shown g c =
    let p = err_from_is_err_and c.from_residual-in_err-text.result c.from_residual-in_err-text.ensures.1 in
    let r = rw c.in-Whole.is at c.in_ok-next.ensures in
    let s = at_line c.lines.invariant.between r in
    let w = within_limit c.lines.invariant.between r in
    rw (p.1, p.2) (line_starved s (rw c.as_slice.ensures.value at c.in_err-text.ensures.done) w c.do_line.ensures.sides)

pub returns-in_err-put-in-Answered-clause-shown : goal.returns-in_err-put-in-Answered-clause-shown
returns-in_err-put-in-Answered-clause-shown g c =
    let p = err_from_is_err_and c.from_residual-in_err-put-in-Answered.result c.from_residual-in_err-put-in-Answered.ensures.1 in
    let r = rw c.in-Whole.is at c.in_ok-next.ensures in
    let s = at_line c.lines.invariant.between r in
    let w = within_limit c.lines.invariant.between r in
    let k = rw (c.in-Answered.is, c.as_slice.ensures.value) at c.in_ok-text.ensures.done in
    rw (p.1, p.2 ∙ fault_is c.in_err-put-in-Answered.ensures.fault) (line_cut s k.0 w c.do_line.ensures.sides (rw c.as_slice-in-Answered.ensures.value at c.in_err-put-in-Answered.ensures.front))

pub lines-preserved : goal.lines-preserved
lines-preserved g c =
    let r = rw c.in-Whole.is at c.in_ok-next.ensures in
    let s = at_line c.lines.invariant.between r in
    let w = within_limit c.lines.invariant.between r in
    let k = rw (c.in-Answered.is, c.as_slice.ensures.value) at c.in_ok-text.ensures.done in
    record {
      open_world = c.do_line.ensures.open;
      between = record {
        showing = rw (← k.1) at (line_done s k.0 c.do_line.ensures.sides (rw c.as_slice-in-Answered.ensures.value at c.in_ok-put-in-Answered.ensures.all));
        limit_is = r.limit ∙ c.lines.invariant.between.limit_is;
        faults = r.found.3 ∙ c.lines.invariant.between.faults;
      };
    }

pub returns-in_err-put-in-Trapped-clause-shown : goal.returns-in_err-put-in-Trapped-clause-shown
returns-in_err-put-in-Trapped-clause-shown g c =
    let p = err_from_is_err_and c.from_residual-in_err-put-in-Trapped.result c.from_residual-in_err-put-in-Trapped.ensures.1 in
    let r = rw c.in-Whole.is at c.in_ok-next.ensures in
    let s = at_line c.lines.invariant.between r in
    let w = within_limit c.lines.invariant.between r in
    let k = rw (c.in-Trapped.is, c.as_slice.ensures.value) at c.in_ok-text.ensures.done in
    rw (p.1, p.2 ∙ fault_is c.in_err-put-in-Trapped.ensures.fault) (line_cut s k.0 w c.do_line.ensures.sides (rw c.as_slice-in-Trapped.ensures.value at c.in_err-put-in-Trapped.ensures.front))

pub returns-in-Trapped-clause-shown : goal.returns-in-Trapped-clause-shown
returns-in-Trapped-clause-shown g c =
    let r = rw c.in-Whole.is at c.in_ok-next.ensures in
    let s = at_line c.lines.invariant.between r in
    let w = within_limit c.lines.invariant.between r in
    let k = rw (c.in-Trapped.is, c.as_slice.ensures.value) at c.in_ok-text.ensures.done in
    line_traps s k.0 w c.do_line.ensures.sides (rw c.as_slice-in-Trapped.ensures.value at c.in_ok-put-in-Trapped.ensures.all)

pub overflow_add-result-in-NoStep : goal.overflow_add-result-in-NoStep
overflow_add-result-in-NoStep g c =
    let k = rw c.in-NoStep.is at c.in_ok-text.ensures.done in
    let f = line_fits c.ranges.limit.fits c.lines.invariant.between (rw c.in-Whole.is at c.in_ok-next.ensures) in
    let e = ap (λ s. s.lines) k.progress in omega (arith, f, e)

pub returns-in-NoStep-clause-shown : goal.returns-in-NoStep-clause-shown
returns-in-NoStep-clause-shown g c =
    let r = rw c.in-Whole.is at c.in_ok-next.ensures in
    let s = at_line c.lines.invariant.between r in
    let w = within_limit c.lines.invariant.between r in
    let k = rw (c.in-NoStep.is, c.as_slice.ensures.value) at c.in_ok-text.ensures.done in
    rw (k.progress, k.same) (line_is_none s k.none w)
