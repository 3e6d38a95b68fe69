use Rattle.std.proofs.Common.{length}
use Rattle.transcript_commands.proofs.streams.replies_in.Given as goal

abbrev pub decreases-lines : goal.decreases-lines
decreases-lines l = length l.lines
