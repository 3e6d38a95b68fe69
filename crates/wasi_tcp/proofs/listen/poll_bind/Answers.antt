use Rattle.std.proofs.Common.{refl}
use Rattle.wasi_world.proofs.Walks.{reaches_on}
use Rattle.wasi_world.proofs.Polls.{goes, ends, polls_none, polls_on}
use Rattle.wasi_tcp.proofs.listen.poll_bind.Goals as goal

pub returns-in_err-told-clause-polled : goal.returns-in_err-told-clause-polled
returns-in_err-told-clause-polled g c = polls_none _ c.from_residual.ensures.1 c.in_err-told.ensures.err

pub returns-in-Err-clause-polled : goal.returns-in-Err-clause-polled
returns-in-Err-clause-polled g c = rw c.requires.stage (polls_on refl (ends 63 _ _ _ (reaches_on _ (rw c.in-Err.is at c.in_ok-told.ensures.asked.ok))) c.poll_close.ensures.polled)

pub returns-clause-polled : goal.returns-clause-polled
returns-clause-polled g c = rw c.requires.stage (polls_on refl (goes 63 _ _ _ _ (reaches_on _ (rw c.in-Ok.is at c.in_ok-told.ensures.asked.ok))) c.poll_listen.ensures.polled)
