use Rattle.std.proofs.Common.{refl}
use Rattle.wasi_world.proofs.Walks.{reaches_on}
use Rattle.wasi_world.proofs.Polls.{goes, stays, ends, polls_none, polls_end, polls_on}
use Rattle.wasi_tcp.proofs.connect.poll_check.Goals as goal

pub returns-in_err-verdict : goal.returns-in_err-verdict
returns-in_err-verdict g c = record { polled = polls_none _ c.from_residual.ensures.1 c.in_err-verdict.ensures.err }

pub returns-in-Pending : goal.returns-in-Pending
returns-in-Pending g c = record { polled = rw c.requires.stage (polls_end refl (stays 63 _ _ _ (reaches_on _ (rw c.in-Pending.is at c.in_ok-verdict.ensures.asked.ok)))) }

pub returns-in-No : goal.returns-in-No
returns-in-No g c = record { polled = rw c.requires.stage (polls_on refl (ends 63 _ _ _ (reaches_on _ (rw c.in-No.is at c.in_ok-verdict.ensures.asked.ok))) c.poll_close.ensures.polled) }

pub returns : goal.returns
returns g c = record { polled = rw c.requires.stage (polls_on refl (goes 63 _ _ _ _ (reaches_on _ (rw c.in-Yes.is at c.in_ok-verdict.ensures.asked.ok))) c.poll_connect.ensures.polled) }
