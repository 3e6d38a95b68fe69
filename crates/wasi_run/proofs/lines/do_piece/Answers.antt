use Rattle.wasi_run.proofs.LineWords.{◌∙◌, ap, Ok, Result, refl, ◌+◌, drop, Seen, Writing, Machine, lines_of, lines_from}
use Rattle.wasi_run.specs.declared.lines.LinesEnd.{LinesEnd}
use Rattle.wasi_run.specs.declared.error.RunError.{RunError}
use Rattle.wasi_run.specs.Ran.{LinesRan}
use Rattle.wasi_run.proofs.LinesJoined.{stays_open}
use Rattle.wasi_run.proofs.OneLine.{at_exit, none_done}
use Rattle.wasi_run.proofs.Pieces.{piece_cut, piece_whole, piece_over, piece_then, piece_none, kept_none, kept_some, starved, first_within}
use Rattle.wasi_run.proofs.lines.do_piece.Given.{Over}
use Rattle.wasi_run.proofs.lines.do_piece.Goals as goal
use Rattle.wasi_run.proofs.lines.do_piece.Goals.{In-AllDone}

-- the lines after the first, which was done
others : (g : Over) (c : In-AllDone g) {w_new : Seen} {k_new : Writing} {outcome : Result LinesEnd RunError} {last : Machine} → LinesRan c.args.contexts.now (g.W.World.seen c.do_line.new.world) w_new (g.K.Sink.writing c.do_line.new.writer) k_new c.do_line.new.progress.machine (c.do_line.new.progress.lines + 1) (lines_of (drop (c.in-Some.end + 1) c.args.piece.now)) outcome last → LinesRan c.args.contexts.now (g.W.World.seen c.args.world.now) w_new (g.K.Sink.writing c.args.writer.now) k_new c.args.progress.now.machine (c.args.progress.now.lines + 1) (lines_from c.args.line.now.items c.args.piece.now) outcome last
others g c k =
    piece_then (piece_cut c.args.line.now.items c.args.piece.now c.in-Some.end c.in-Some.ensures) (rw (c.as_slice.ensures.value, c.in_ok-extend_from_slice-2.ensures.items, c.in_ok-do_line.was, c.in-AllDone.is) at c.do_line.ensures.ran) (ap (λ n. n + 1) (c.do_line.ensures.count (c.in_ok-do_line.was ∙ ap Ok c.in-AllDone.is))) k

pub returns-in_err-extend_from_slice-clause-ran : goal.returns-in_err-extend_from_slice-clause-ran
returns-in_err-extend_from_slice-clause-ran g c =
    at_exit c.from_residual.result c.from_residual.ensures.1 (none_done _ _ _ _ _ _ _ refl)

pub returns-in_default-clause-ran : goal.returns-in_default-clause-ran
returns-in_default-clause-ran g c = piece_none _ _ _ _ _ c.args.line.now.items c.args.piece.now (piece_whole c.args.line.now.items c.args.piece.now c.in_default.ensures)

pub returns-in_default-clause-kept : goal.returns-in_default-clause-kept
returns-in_default-clause-kept g c = λ e. kept_none _ c.args.line.now.items c.args.piece.now _ (piece_whole c.args.line.now.items c.args.piece.now c.in_default.ensures) c.in_ok-extend_from_slice.ensures.items

pub returns-in_err-extend_from_slice-2-clause-ran : goal.returns-in_err-extend_from_slice-2-clause-ran
returns-in_err-extend_from_slice-2-clause-ran g c =
    at_exit c.from_residual-in_err-extend_from_slice-2.result c.from_residual-in_err-extend_from_slice-2.ensures.1 (none_done _ _ _ _ _ _ _ refl)

pub returns-in_err-do_line-clause-ran : goal.returns-in_err-do_line-clause-ran
returns-in_err-do_line-clause-ran g c =
    at_exit c.from_residual-in_err-do_line.result c.from_residual-in_err-do_line.ensures.1 (piece_over (piece_cut c.args.line.now.items c.args.piece.now c.in-Some.end c.in-Some.ensures) tt (rw (c.as_slice.ensures.value, c.in_ok-extend_from_slice-2.ensures.items, c.in_err-do_line.was) at c.do_line.ensures.ran))

pub returns-in_default-2-clause-ran : goal.returns-in_default-2-clause-ran
returns-in_default-2-clause-ran g c =
    piece_over (piece_cut c.args.line.now.items c.args.piece.now c.in-Some.end c.in-Some.ensures) tt (rw (c.as_slice.ensures.value, c.in_ok-extend_from_slice-2.ensures.items, c.in_ok-do_line.was, c.in_default-2.is) at c.do_line.ensures.ran)

pub do_lines-requires-clause-open : goal.do_lines-requires-clause-open
do_lines-requires-clause-open g c = stays_open c.do_line.ensures.ran c.requires.open

pub do_lines-requires-clause-within : goal.do_lines-requires-clause-within
do_lines-requires-clause-within g c = first_within c.args.line.now.items c.args.piece.now c.in-Some.end c.in-Some.ensures

pub returns-in_err-do_lines-clause-ran : goal.returns-in_err-do_lines-clause-ran
returns-in_err-do_lines-clause-ran g c =
    at_exit c.from_residual-in_err-do_lines.result c.from_residual-in_err-do_lines.ensures.1 (others g (goal.at.returns-in_err-do_lines-clause-ran g c).In-AllDone (rw c.in_err-do_lines.was at c.do_lines.ensures.ran))

pub returns-in_default-3-clause-ran : goal.returns-in_default-3-clause-ran
returns-in_default-3-clause-ran g c = others g (goal.at.returns-in_default-3-clause-ran g c).In-AllDone (rw (c.in_ok-do_lines.was, c.in_default-3.is) at c.do_lines.ensures.ran)

pub returns-clause-ran : goal.returns-clause-ran
returns-clause-ran g c = others g (goal.at.returns-clause-ran g c).In-AllDone (rw (c.in_ok-do_lines.was, c.in-AllDone-2.is) at c.do_lines.ensures.ran)

pub returns-in_err-extend_from_slice-3-clause-ran : goal.returns-in_err-extend_from_slice-3-clause-ran
returns-in_err-extend_from_slice-3-clause-ran g c =
    at_exit c.from_residual-in_err-extend_from_slice-3.result c.from_residual-in_err-extend_from_slice-3.ensures.1 (starved (others g (goal.at.returns-in_err-extend_from_slice-3-clause-ran g c).In-AllDone (rw (c.in_ok-do_lines.was, c.in-AllDone-2.is) at c.do_lines.ensures.ran)))

pub returns-clause-kept : goal.returns-clause-kept
returns-clause-kept g c = λ e.
    kept_some _ _ _ c.args.line.now.items c.args.piece.now _ c.in-Some.end c.do_lines.new.at (piece_cut c.args.line.now.items c.args.piece.now c.in-Some.end c.in-Some.ensures) (c.do_line.ensures.count (c.in_ok-do_line.was ∙ ap Ok c.in-AllDone.is)) (c.do_lines.ensures.place (c.in_ok-do_lines.was ∙ ap Ok c.in-AllDone-2.is)) (rw c.clear.ensures.items at c.in_ok-extend_from_slice-3.ensures.items)
