use Rattle.std.proofs.Common.{refl, sym, ◌∙◌}
use Rattle.wasi_world.proofs.Walks.{reaches_then}
use Rattle.wasi_world.proofs.Polls.{done, stays, ends, ended, polls_none, polls_end, polls_refused}
use Rattle.wasi_udp.proofs.Sends.{late, in_time}
use Rattle.wasi_udp.proofs.send.poll_send.Goals as goal

pub returns-then-is_late-clause-polled : goal.returns-then-is_late-clause-polled
returns-then-is_late-clause-polled g c = rw c.requires.stage (polls_refused refl (reaches_then (ends 63 _ _ _ (late c.args.asker c.args.remote c.args.to c.args.bytes.now (sym c.is_late.ensures ∙ c.if-is_late.true))) (ended 63 _ refl)))

pub returns-in_err-told-clause-polled : goal.returns-in_err-told-clause-polled
returns-in_err-told-clause-polled g c = polls_none _ c.from_residual.ensures.1 c.in_err-told.ensures.err

pub returns-in-Pending-clause-polled : goal.returns-in-Pending-clause-polled
returns-in-Pending-clause-polled g c = rw c.requires.stage (polls_end refl (stays 63 _ _ _ (in_time c.args.asker c.args.remote c.args.to c.args.bytes.now (sym c.is_late.ensures ∙ c.if-is_late.false) (rw c.in-Pending.is at c.in_ok-told.ensures.asked.ok))))

pub returns-in-Code-clause-polled : goal.returns-in-Code-clause-polled
returns-in-Code-clause-polled g c = rw c.requires.stage (polls_refused refl (reaches_then (ends 63 _ _ _ (in_time c.args.asker c.args.remote c.args.to c.args.bytes.now (sym c.is_late.ensures ∙ c.if-is_late.false) (rw c.in-Code.is at c.in_ok-told.ensures.asked.ok))) (ended 63 _ refl)))

pub returns-clause-polled : goal.returns-clause-polled
returns-clause-polled g c = rw c.requires.stage (polls_end refl (done 63 _ _ (in_time c.args.asker c.args.remote c.args.to c.args.bytes.now (sym c.is_late.ensures ∙ c.if-is_late.false) (rw c.in-Ready.is at c.in_ok-told.ensures.asked.ok))))
