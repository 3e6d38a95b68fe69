use Rattle.std.proofs.Common.{◌∙◌}
use Rattle.socket_common.proofs.Turns.{rounds_more, rounds_end, rounds_stop, rounds_none}
use Rattle.socket_common.proofs.rounds.poll_rounds.Goals as goal

pub returns-in_err-round-clause-polled : goal.returns-in_err-round-clause-polled
returns-in_err-round-clause-polled g c = rounds_stop _ _ _ c.loop-refused.invariant.who c.loop-refused.invariant.reached c.loop-refused-test.true c.in_err-round.ensures.round c.from_residual.ensures.1

pub returns-in-Some-clause-polled : goal.returns-in-Some-clause-polled
returns-in-Some-clause-polled g c = rounds_end _ _ _ c.loop-refused.invariant.who c.loop-refused.invariant.reached c.loop-refused-test.true (rw c.in-Some.is at c.in_ok-round.ensures.round)

pub loop-refused-preserved : goal.loop-refused-preserved
loop-refused-preserved g c =
    let round = rw c.in_default.is at c.in_ok-round.ensures.round in
    record { who = round.who ∙ c.loop-refused.invariant.who; reached = rounds_more _ _ _ c.loop-refused.invariant.reached c.loop-refused-test.true round; going = round.going; still = c.in_ok-round.ensures.open }

pub returns-clause-polled : goal.returns-clause-polled
returns-clause-polled g c = rounds_none _ _ _ c.loop-refused.invariant.who c.loop-refused.invariant.reached c.loop-refused-test.false c.loop-refused.invariant.going
