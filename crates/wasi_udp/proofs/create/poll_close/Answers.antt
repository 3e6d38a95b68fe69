use Rattle.std.proofs.Common.{refl}
use Rattle.wasi_world.proofs.Polls.{ended_by_close, polls_none, polls_refused}
use Rattle.wasi_udp.proofs.create.poll_close.Goals as goal

pub returns-in_err-close-clause-polled : goal.returns-in_err-close-clause-polled
returns-in_err-close-clause-polled g c = polls_none _ c.from_residual.ensures.1 c.in_err-close.ensures.err

pub returns-clause-polled : goal.returns-clause-polled
returns-clause-polled g c = rw c.requires.stage (polls_refused refl (ended_by_close 63 _ _ refl c.in_ok-close.ensures.asked.ok))
