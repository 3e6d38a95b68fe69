use Rattle.std.proofs.Common.{refl}
use Rattle.wasi_world.proofs.Polls.{ended_by_shutdown, polls_refused}
use Rattle.wasi_tcp.proofs.job.poll_shutdown.Goals as goal

pub returns-clause-polled : goal.returns-clause-polled
returns-clause-polled g c = λ rest closing. rw c.requires.stage (polls_refused refl (ended_by_shutdown 63 _ _ refl c.in_ok-shutdown.ensures.asked.ok))
