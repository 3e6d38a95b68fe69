use Rattle.std.proofs.Common.{◌≡◌}
use Rattle.stream_rows.proofs.line.chunks_come_in_order.Given as goal

abbrev pub invariant-loop-n : goal.invariant-loop-n
invariant-loop-n g l = l.pop.line ≡ l.initial.pop.line
