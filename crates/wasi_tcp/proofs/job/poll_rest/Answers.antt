use Rattle.std.proofs.Common.{true, refl}
use Rattle.wasi_world.proofs.Polls.{goes, done, stays, becomes, ends, polls_err, polls_end, polls_on}
use Rattle.wasi_tcp.proofs.job.poll_rest.Goals as goal

pub returns-in_err-told-clause-polled : goal.returns-in_err-told-clause-polled
returns-in_err-told-clause-polled g c = rw c.requires.stage (polls_err c.from_residual.ensures.1 refl (becomes 63 _ _ _ _ c.in_err-told.ensures.err))

pub returns-in-Pending-clause-polled : goal.returns-in-Pending-clause-polled
returns-in-Pending-clause-polled g c = rw c.requires.stage (polls_end refl (stays 63 _ _ _ (rw c.in-Pending.is at c.in_ok-told.ensures.asked.ok)))

pub returns-in-Code-clause-polled : goal.returns-in-Code-clause-polled
returns-in-Code-clause-polled g c = rw c.requires.stage (polls_on refl (ends 63 _ _ _ (rw c.in-Code.is at c.in_ok-told.ensures.asked.ok)) (c.poll_shutdown.ensures.polled _ _))

pub returns-then-closing-clause-polled : goal.returns-then-closing-clause-polled
returns-then-closing-clause-polled g c =
    rw (c.requires.stage, c.if-closing.true) (polls_on refl (goes 63 _ _ _ _ (rw c.in-Ready.is at c.in_ok-told.ensures.asked.ok)) (c.poll_close.ensures.polled _ true))

pub returns-clause-polled : goal.returns-clause-polled
returns-clause-polled g c = rw (c.requires.stage, c.if-closing.false) (polls_end refl (done 63 _ _ (rw c.in-Ready.is at c.in_ok-told.ensures.asked.ok)))
