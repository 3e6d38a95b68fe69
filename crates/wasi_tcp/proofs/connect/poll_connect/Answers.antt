use Rattle.std.proofs.Common.{refl}
use Rattle.wasi_world.proofs.Walks.{reaches_on}
use Rattle.wasi_world.proofs.Polls.{done, stays, ends, polls_none, polls_end, polls_on}
use Rattle.wasi_tcp.proofs.connect.poll_connect.Goals as goal

pub returns-in_err-told : goal.returns-in_err-told
returns-in_err-told g c = record { polled = polls_none _ c.from_residual.ensures.1 c.in_err-told.ensures.err }

pub returns-in-Pending : goal.returns-in-Pending
returns-in-Pending g c = record { polled = rw c.requires.stage (polls_end refl (stays 63 _ _ _ (reaches_on _ (rw c.in-Pending.is at c.in_ok-told.ensures.asked.ok)))) }

pub returns-in-Code : goal.returns-in-Code
returns-in-Code g c = record { polled = rw c.requires.stage (polls_on refl (ends 63 _ _ _ (reaches_on _ (rw c.in-Code.is at c.in_ok-told.ensures.asked.ok))) c.poll_close.ensures.polled) }

pub returns : goal.returns
returns g c = record { polled = rw c.requires.stage (polls_end refl (done 63 _ _ (reaches_on _ (rw c.in-Ready.is at c.in_ok-told.ensures.asked.ok)))) }
