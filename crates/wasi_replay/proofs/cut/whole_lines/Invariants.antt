use Rattle.std.proofs.Common.{◌≡◌, ◌≤◌, ◌-◌, drop, length}
use Rattle.world_text.specs.Lines.{rest_of}
use Rattle.wasi_replay.proofs.cut.whole_lines.Given as goal

abbrev pub invariant-loop-end : goal.invariant-loop-end
invariant-loop-end l = (l.at ≤ length l.bytes) × (rest_of l.bytes ≡ rest_of (drop l.at l.bytes))

abbrev pub decreases-loop-end : goal.decreases-loop-end
decreases-loop-end l = length l.bytes - l.at
