use Rattle.wasi_relay.specs.Turns.{course_of}
use Rattle.wasi_relay.proofs.Turning.{waiting_first, next_one}
use Rattle.wasi_relay.proofs.turns.accept.Goals as goal

pub returns-in-Some : goal.returns-in-Some
returns-in-Some g c = waiting_first c.args.order c.args.listener (course_of c.args.at.now) _ c.in-Some.client c.in-Some.is c.pair_up.ensures

pub returns-in-None : goal.returns-in-None
returns-in-None g c = next_one c.args.order c.args.listener (course_of c.args.at.now) _ c.in-None.is c.accept_next.ensures
