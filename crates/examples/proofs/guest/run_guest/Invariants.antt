use Rattle.examples.proofs.Running.{Running}
use Rattle.examples.proofs.guest.run_guest.Given as goal

abbrev pub invariant-loop-call : goal.invariant-loop-call
invariant-loop-call g l = Running l.session (g.W.World.seen l.fn.world)
