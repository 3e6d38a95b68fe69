use Rattle.std.proofs.Common.{◌-◌, ◌≤◌, length}
use Rattle.wasi_transcript.proofs.survey.read_script.Given as goal

abbrev pub invariant-reading : goal.invariant-reading
invariant-reading g l = length l.script.items ≤ l.most

abbrev pub decreases-reading : goal.decreases-reading
decreases-reading g l = l.most - length l.script.items
