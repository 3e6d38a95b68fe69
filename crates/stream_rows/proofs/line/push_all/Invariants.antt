use Rattle.std.proofs.Common.{◌≡◌}
use Rattle.stream_rows.proofs.line.push_all.Given as goal

abbrev pub invariant-loop-n : goal.invariant-loop-n
invariant-loop-n g l = l.push.line ≡ l.fn.push.line
