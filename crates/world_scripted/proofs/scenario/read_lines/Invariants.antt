use Rattle.std.proofs.Common.{length, ◌-◌}
use Rattle.world_scripted.proofs.ScenarioLines.{ReadTo}
use Rattle.world_scripted.proofs.scenario.read_lines.Given as goal

abbrev pub invariant-loop-end : goal.invariant-loop-end
invariant-loop-end l = ReadTo l.text l.at l.number l.given.lists l.given.contexts.items

abbrev pub decreases-loop-end : goal.decreases-loop-end
decreases-loop-end l = length l.text - l.at
