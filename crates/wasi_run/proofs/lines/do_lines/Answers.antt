use Rattle.wasi_run.proofs.LineWords.{◌∙◌, ap, Ok}
use Rattle.wasi_run.proofs.OneLine.{at_exit}
use Rattle.wasi_run.proofs.LinesJoined.{stays_open}
use Rattle.wasi_run.proofs.ManyLines.{going_start, going_on, going_over, going_all, going_left, going_fits, found, found_none}
use Rattle.wasi_run.proofs.lines.do_lines.Goals as goal

pub loop-end-init : goal.loop-end-init
loop-end-init g c = going_start _ _ _ _ _ _ _ c.requires.within

pub do_line-requires-clause-open : goal.do_line-requires-clause-open
do_line-requires-clause-open g c = stays_open c.loop-end.invariant.ran c.requires.open

pub do_line-requires-clause-numbers : goal.do_line-requires-clause-numbers
do_line-requires-clause-numbers g c = going_fits c.loop-end.invariant c.in-Some.end _ (found c.loop-end.at c.in-Some.end c.args.bytes.now c.in-Some.ensures) c.requires.numbers

pub returns-in_err-do_line-clause-ran : goal.returns-in_err-do_line-clause-ran
returns-in_err-do_line-clause-ran g c =
    at_exit c.from_residual.result c.from_residual.ensures.1 (going_over c.loop-end.invariant (found c.loop-end.at c.in-Some.end c.args.bytes.now c.in-Some.ensures) tt (rw c.in_err-do_line.was at c.do_line.ensures.ran))

pub returns-in_default-2-clause-ran : goal.returns-in_default-2-clause-ran
returns-in_default-2-clause-ran g c =
    going_over c.loop-end.invariant (found c.loop-end.at c.in-Some.end c.args.bytes.now c.in-Some.ensures) tt (rw (c.in_ok-do_line.was, c.in_default-2.is) at c.do_line.ensures.ran)

pub loop-end-preserved : goal.loop-end-preserved
loop-end-preserved g c =
    going_on c.loop-end.invariant (found c.loop-end.at c.in-Some.end c.args.bytes.now c.in-Some.ensures) (rw (c.in_ok-do_line.was, c.in-AllDone.is) at c.do_line.ensures.ran) (c.do_line.ensures.count (c.in_ok-do_line.was ∙ ap Ok c.in-AllDone.is))

pub returns-clause-ran : goal.returns-clause-ran
returns-clause-ran g c = going_all c.loop-end.invariant (found_none c.loop-end.at c.args.bytes.now c.in_default.ensures)

pub returns-clause-place : goal.returns-clause-place
returns-clause-place g c = λ e. going_left c.loop-end.invariant (found_none c.loop-end.at c.args.bytes.now c.in_default.ensures)
