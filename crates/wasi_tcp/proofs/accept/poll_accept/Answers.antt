use Rattle.std.proofs.Common.{refl}
use Rattle.wasi_world.proofs.Walks.{reaches_on, reaches_then}
use Rattle.wasi_world.proofs.Polls.{stays, ends, ended, becomes}
use Rattle.socket_common.proofs.Turns.{round_none, round_end, round_on}
use Rattle.wasi_tcp.proofs.accept.poll_accept.Goals as goal

pub returns-in_err-told-clause-round : goal.returns-in_err-told-clause-round
returns-in_err-told-clause-round g c = rw c.requires.stage (round_none _ c.from_residual.ensures.1 c.in_err-told.ensures.err refl)

pub returns-in-Pending-clause-round : goal.returns-in-Pending-clause-round
returns-in-Pending-clause-round g c = rw c.requires.stage (round_end refl refl (λ n. stays n _ _ _ (reaches_on _ (rw c.in-Pending.is at c.in_ok-told.ensures.asked.ok))))

pub returns-in-Code-clause-round : goal.returns-in-Code-clause-round
returns-in-Code-clause-round g c = rw c.requires.stage (round_end refl refl (λ n. reaches_then (ends n _ _ _ (reaches_on _ (rw c.in-Code.is at c.in_ok-told.ensures.asked.ok))) (ended n _ refl)))

pub returns-in-Ready-clause-round : goal.returns-in-Ready-clause-round
returns-in-Ready-clause-round g c = rw c.requires.stage (round_on refl (λ n. becomes n _ _ _ _ (reaches_on _ (rw c.in-Ready.is at c.in_ok-told.ensures.asked.ok))) c.poll_check.ensures.round)
