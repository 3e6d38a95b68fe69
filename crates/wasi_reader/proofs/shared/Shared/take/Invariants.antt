use Rattle.std.proofs.Common.{◌≡◌}
use Rattle.wasi_reader.proofs.shared.Shared.take.Given as goal

abbrev pub invariant-loop : goal.invariant-loop
invariant-loop g l = (goal.iterator-loop g).can_next l.iterator' × (goal.iterator-loop g).is_finite l.iterator' × (l.keys ≡ l.fn.keys) × (l.pop ≡ l.fn.pop)
