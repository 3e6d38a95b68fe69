use Rattle.std.proofs.Common.{refl}
use Rattle.wasi_world.proofs.Walks.{reaches_on}
use Rattle.wasi_world.proofs.Polls.{done, stays, ends, polls_none, polls_end, polls_on}
use Rattle.wasi_udp.proofs.create.poll_writable.Goals as goal

pub returns-in_err-told-clause-polled : goal.returns-in_err-told-clause-polled
returns-in_err-told-clause-polled g c = polls_none _ c.from_residual.ensures.1 c.in_err-told.ensures.err

pub returns-in-Pending-clause-polled : goal.returns-in-Pending-clause-polled
returns-in-Pending-clause-polled g c = rw c.requires.stage (polls_end refl (stays 63 _ _ _ (reaches_on _ (rw c.in-Pending.is at c.in_ok-told.ensures.asked.ok))))

pub returns-in-Code-clause-polled : goal.returns-in-Code-clause-polled
returns-in-Code-clause-polled g c = rw c.requires.stage (polls_on refl (ends 63 _ _ _ (reaches_on _ (rw c.in-Code.is at c.in_ok-told.ensures.asked.ok))) c.poll_close.ensures.polled)

pub returns-clause-polled : goal.returns-clause-polled
returns-clause-polled g c = rw c.requires.stage (polls_end refl (done 63 _ _ (reaches_on _ (rw c.in-Ready.is at c.in_ok-told.ensures.asked.ok))))
