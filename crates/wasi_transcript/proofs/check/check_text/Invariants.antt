use Rattle.std.proofs.Common.{length}
use Rattle.wasi_transcript.proofs.CasesHeld.{Checking}
use Rattle.wasi_transcript.proofs.check.check_text.Given as goal

abbrev pub invariant-cases : goal.invariant-cases
invariant-cases l = Checking l.fn.text l.lines l.count

abbrev pub decreases-cases : goal.decreases-cases
decreases-cases l = length l.lines
