use Rattle.std.proofs.Common.{length}
use Rattle.transcript_commands.proofs.replays.replay_text.Given as goal

abbrev pub decreases-cases : goal.decreases-cases
decreases-cases l = length l.lines
