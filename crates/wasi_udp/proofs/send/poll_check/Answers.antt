use Rattle.std.proofs.Common.{refl}
use Rattle.wasi_world.proofs.Walks.{reaches_on, reaches_then}
use Rattle.wasi_world.proofs.Polls.{goes, stays, ends, ended, polls_none, polls_end, polls_refused, polls_on}
use Rattle.wasi_udp.proofs.send.poll_check.Goals as goal

pub returns-in_err-verdict-clause-polled : goal.returns-in_err-verdict-clause-polled
returns-in_err-verdict-clause-polled g c = polls_none _ c.from_residual.ensures.1 c.in_err-verdict.ensures.err

pub returns-in-Pending-clause-polled : goal.returns-in-Pending-clause-polled
returns-in-Pending-clause-polled g c = rw c.requires.stage (polls_end refl (stays 63 _ _ _ (reaches_on _ (rw (c.in-Pending.is) at c.in_ok-verdict.ensures.asked.ok))))

pub returns-in-No-clause-polled : goal.returns-in-No-clause-polled
returns-in-No-clause-polled g c = rw c.requires.stage (polls_refused refl (reaches_then (ends 63 _ _ _ (reaches_on _ (rw (c.in-No.is) at c.in_ok-verdict.ensures.asked.ok))) (ended 63 _ refl)))

pub returns-clause-polled : goal.returns-clause-polled
returns-clause-polled g c = rw c.requires.stage (polls_on refl (goes 63 _ _ _ _ (reaches_on _ (rw (c.in-Yes.is) at c.in_ok-verdict.ensures.asked.ok))) c.poll_send.ensures.polled)
