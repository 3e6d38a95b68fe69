use Rattle.std.proofs.Common.{length}
use Rattle.wasi_transcript.proofs.fault_report.last_line.Given as goal

abbrev pub decreases-lines : goal.decreases-lines
decreases-lines l = length l.lines
