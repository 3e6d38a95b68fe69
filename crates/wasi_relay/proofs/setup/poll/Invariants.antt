use Rattle.wasi_relay.specs.Setup.{polled}
use Rattle.wasi_relay.proofs.Going.{Comes}
use Rattle.wasi_relay.proofs.setup.poll.Given as goal

abbrev pub invariant-loop-left : goal.invariant-loop-left
invariant-loop-left g l = Comes (polled l.fn.line l.fn.left) (polled l.fn.line l.left) l.fn.session l.session

abbrev pub decreases-loop-left : goal.decreases-loop-left
decreases-loop-left g l = l.left
