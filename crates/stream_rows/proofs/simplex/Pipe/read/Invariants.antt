use Rattle.std.proofs.Common.{◌≡◌, length}
use Rattle.stream_rows.proofs.simplex.Pipe.read.Given as goal

abbrev pub invariant-loop : goal.invariant-loop
invariant-loop g l = (goal.iterator-loop g).can_next l.iterator' × (goal.iterator-loop g).is_finite l.iterator' × (length l.buf ≡ length l.fn.buf)
