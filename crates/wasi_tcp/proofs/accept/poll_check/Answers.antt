use Rattle.std.proofs.Common.{refl}
use Rattle.wasi_world.proofs.Walks.{reaches_on}
use Rattle.wasi_world.proofs.Polls.{stays, becomes}
use Rattle.socket_common.proofs.Turns.{round_none, round_end, round_on}
use Rattle.wasi_tcp.proofs.accept.poll_check.Goals as goal

pub returns-in_err-verdict-clause-round : goal.returns-in_err-verdict-clause-round
returns-in_err-verdict-clause-round g c = rw c.requires.stage (round_none _ c.from_residual.ensures.1 c.in_err-verdict.ensures.err refl)

pub returns-in-Pending-clause-round : goal.returns-in-Pending-clause-round
returns-in-Pending-clause-round g c = rw c.requires.stage (round_end refl refl (λ n. stays n _ _ _ (reaches_on _ (rw c.in-Pending.is at c.in_ok-verdict.ensures.asked.ok))))

pub returns-in-No-clause-round : goal.returns-in-No-clause-round
returns-in-No-clause-round g c = rw c.requires.stage (round_on refl (λ n. becomes n _ _ _ _ (reaches_on _ (rw c.in-No.is at c.in_ok-verdict.ensures.asked.ok))) c.poll_refuse.ensures.round)

pub returns-clause-round : goal.returns-clause-round
returns-clause-round g c = rw c.requires.stage (round_on refl (λ n. becomes n _ _ _ _ (reaches_on _ (rw c.in-Yes.is at c.in_ok-verdict.ensures.asked.ok))) c.poll_hand.ensures.round)
