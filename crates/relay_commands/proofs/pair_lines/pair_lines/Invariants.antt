use Rattle.std.proofs.Common.{◌≡◌, ◌+◌, ◌++◌, drop, string_bytes}
use Rattle.relay_commands.specs.PairLines.{lines_from}
use Rattle.relay_commands.proofs.pair_lines.pair_lines.Given as goal

abbrev pub invariant-loop-place : goal.invariant-loop-place
invariant-loop-place l = string_bytes l.text ++ lines_from (l.place + 1) (drop l.place l.pairs) ≡ lines_from 1 l.pairs
