use Rattle.std.proofs.Common.{sym, ◌∙◌}
use Rattle.wasi_udp.proofs.Creates.{create_asked, create_left_over}
use Rattle.wasi_udp.proofs.create.CreateOp.poll.Goals as goal

pub returns-clause-asked : goal.returns-clause-asked
returns-clause-asked g c =
    rw c.made.ensures (create_asked _ _ c.poll_stage-polled.result (sym c.is_going.ensures.going ∙ c.if-not-is_going.false) c.poll_stage-polled.ensures.family c.poll_stage-polled.ensures.polled)

pub returns-clause-err : goal.returns-clause-err
returns-clause-err g c =
    rw c.made.ensures (create_left_over _ _ c.poll_stage-polled.result (sym c.is_going.ensures.going ∙ c.if-not-is_going.false) c.poll_stage-polled.ensures.family c.poll_stage-polled.ensures.going c.poll_stage-polled.ensures.polled)
