use Rattle.wasi_relay.specs.Turns.{course_of, rounds}
use Rattle.wasi_relay.proofs.Going.{Comes}
use Rattle.wasi_relay.proofs.turns.make_turns.Given as goal

abbrev pub invariant-loop-left : goal.invariant-loop-left
invariant-loop-left g l =
    Comes (rounds l.fn.order l.fn.listener l.fn.listener.turns (course_of l.fn.at)) (rounds l.fn.order l.fn.listener l.left (course_of l.at)) l.fn.session l.session

abbrev pub decreases-loop-left : goal.decreases-loop-left
decreases-loop-left g l = l.left
