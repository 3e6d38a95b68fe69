use Rattle.std.proofs.Common.{length, ◌-◌}
use Rattle.wasi_replay.specs.Log.{so_far}
use Rattle.wasi_replay.proofs.LogLines.{ReadTo}
use Rattle.wasi_replay.proofs.parse.log_within.Given as goal

abbrev pub invariant-loop-end : goal.invariant-loop-end
invariant-loop-end l = ReadTo l.text l.at l.number (so_far l.log.contexts.items l.log.entries.items l.log.ended)

abbrev pub decreases-loop-end : goal.decreases-loop-end
decreases-loop-end l = length l.text - l.at
