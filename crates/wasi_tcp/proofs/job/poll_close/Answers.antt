use Rattle.std.proofs.Common.{refl}
use Rattle.wasi_world.proofs.Walks.{reaches_on}
use Rattle.wasi_world.proofs.Polls.{done, polls_end}
use Rattle.wasi_tcp.proofs.job.poll_close.Goals as goal

pub returns-clause-polled : goal.returns-clause-polled
returns-clause-polled g c = λ rest closing. rw c.requires.stage (polls_end refl (done 63 _ _ (reaches_on _ c.in_ok-shutdown.ensures.asked.ok)))
