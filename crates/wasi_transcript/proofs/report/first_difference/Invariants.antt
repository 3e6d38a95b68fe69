use Rattle.std.proofs.Common.{length}
use Rattle.wasi_transcript.proofs.report.first_difference.Given as goal

abbrev pub decreases-lines : goal.decreases-lines
decreases-lines l = length l.lines
