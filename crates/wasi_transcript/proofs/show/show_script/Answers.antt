use Rattle.std.proofs.Common.{◌∙◌}
use Rattle.std.proofs.lemmas.Result.{err_from_is_err_and}
use Rattle.wasi_transcript.proofs.Showings.{fault_is}
use Rattle.wasi_transcript.proofs.Endings.{shown_halted, shown_starved, shown_cut, shown_whole, closed_all}
use Rattle.wasi_transcript.proofs.show.show_script.Goals as goal

pub returns-in_err-stop-clause-shown : goal.returns-in_err-stop-clause-shown
returns-in_err-stop-clause-shown g c =
    let p = err_from_is_err_and c.from_residual.result c.from_residual.ensures.1 in
    rw (p.1, p.2) (shown_halted _ c.in_err-stop.ensures.halts c.in_err-stop.ensures.shown c.finish.ensures.quiet)

pub returns-in_err-stop-clause-closed : goal.returns-in_err-stop-clause-closed
returns-in_err-stop-clause-closed g c =
    closed_all c.show_lines-stop.ensures.shown c.finish.ensures.closed

pub returns-in_err-text-clause-shown : goal.returns-in_err-text-clause-shown
returns-in_err-text-clause-shown g c =
    let p = err_from_is_err_and c.from_residual-in_err-text.result c.from_residual-in_err-text.ensures.1 in
    rw (p.1, p.2) (shown_starved _ c.in_ok-stop.ensures.shown c.finish.ensures.quiet)

pub returns-in_err-text-clause-closed : goal.returns-in_err-text-clause-closed
returns-in_err-text-clause-closed g c =
    closed_all c.show_lines-stop.ensures.shown c.finish.ensures.closed

pub returns-in_err-put-clause-shown : goal.returns-in_err-put-clause-shown
returns-in_err-put-clause-shown g c =
    let p = err_from_is_err_and c.from_residual-in_err-put.result c.from_residual-in_err-put.ensures.1 in
    rw (p.1, p.2 ∙ fault_is c.in_err-put.ensures.fault) (shown_cut _ c.in_ok-stop.ensures.shown c.finish.ensures.quiet (rw (c.as_slice-2.ensures.value, c.in_ok-text.ensures, c.as_slice.ensures.value, c.closed_after_end.ensures) at c.in_err-put.ensures.front))

pub returns-in_err-put-clause-closed : goal.returns-in_err-put-clause-closed
returns-in_err-put-clause-closed g c =
    closed_all c.show_lines-stop.ensures.shown c.finish.ensures.closed

pub returns-clause-shown : goal.returns-clause-shown
returns-clause-shown g c =
    rw c.outcome.ensures (shown_whole _ c.in_ok-stop.ensures.shown c.finish.ensures.quiet (rw (c.as_slice-2.ensures.value, c.in_ok-text.ensures, c.as_slice.ensures.value, c.closed_after_end.ensures) at c.in_ok-put.ensures.all))

pub returns-clause-closed : goal.returns-clause-closed
returns-clause-closed g c = closed_all c.show_lines-stop.ensures.shown c.finish.ensures.closed
