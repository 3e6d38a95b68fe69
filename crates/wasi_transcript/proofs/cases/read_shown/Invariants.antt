use Rattle.std.proofs.Common.{length}
use Rattle.wasi_transcript.proofs.CasesRead.{Showing}
use Rattle.wasi_transcript.proofs.cases.read_shown.Given as goal

abbrev pub invariant-shown : goal.invariant-shown
invariant-shown l = Showing l.fn.lines l.lines l.script.items l.wanted.items

abbrev pub decreases-shown : goal.decreases-shown
decreases-shown l = length l.lines
