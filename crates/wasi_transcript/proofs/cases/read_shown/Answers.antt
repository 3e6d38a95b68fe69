use Rattle.std.proofs.Common.{refl, codes}
use Rattle.wasi_transcript.specs.Cases.{after}
use Rattle.wasi_transcript.proofs.CasesRead.{showing_on, script_on, not_empty}
use Rattle.wasi_transcript.proofs.cases.read_shown.Goals as goal

-- src/cases.rt:144:5
pub shown-preserved : goal.shown-preserved
shown-preserved c =
    let line = c.in-Some.line.now in
    showing_on line c.shown.invariant (not_empty line c.if-is_empty.ensures)
    c.in-Some.ensures.line c.in-Some.ensures.rest c.in-Some.ensures.shorter
    (script_on c.shown.invariant.done line c.shown.script.items c.push_step.new.script.items (after (codes "> ") line) refl c.in_ok-push_step.ensures c.shown.invariant.script_is)
    c.in_ok-push_line.ensures
