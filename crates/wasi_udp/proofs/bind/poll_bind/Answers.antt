use Rattle.std.proofs.Common.{refl}
use Rattle.wasi_world.proofs.Walks.{reaches_on, reaches_then}
use Rattle.wasi_world.proofs.Polls.{done, ends, ended, polls_none, polls_end, polls_refused}
use Rattle.wasi_udp.proofs.bind.poll_bind.Goals as goal

pub returns-in_err-told-clause-polled : goal.returns-in_err-told-clause-polled
returns-in_err-told-clause-polled g c = polls_none _ c.from_residual.ensures.1 c.in_err-told.ensures.err

pub returns-in-Ok-clause-polled : goal.returns-in-Ok-clause-polled
returns-in-Ok-clause-polled g c = rw c.requires.stage (polls_end refl (done 63 _ _ (reaches_on _ (rw c.in-Ok.is at c.in_ok-told.ensures.asked.ok))))

pub returns-in-Err-clause-polled : goal.returns-in-Err-clause-polled
returns-in-Err-clause-polled g c = rw c.requires.stage (polls_refused refl (reaches_then (ends 63 _ _ _ (reaches_on _ (rw c.in-Err.is at c.in_ok-told.ensures.asked.ok))) (ended 63 _ refl)))
