use Rattle.std.proofs.Common.{sym, ◌∙◌}
use Rattle.wasi_udp.proofs.Connects.{connect_asked, connect_left_over}
use Rattle.wasi_udp.proofs.connect.UdpConnectOp.poll.Goals as goal

pub returns-clause-asked : goal.returns-clause-asked
returns-clause-asked g c =
    rw (c.settle_connect.ensures.told, c.settle_connect.ensures.socket) (connect_asked _ _ c.poll_stage-polled.result (sym c.is_going.ensures.going ∙ c.if-not-is_going.false) c.poll_stage-polled.ensures.polled)

pub returns-clause-err : goal.returns-clause-err
returns-clause-err g c =
    rw (c.settle_connect.ensures.told, c.settle_connect.ensures.socket) (connect_left_over _ _ c.poll_stage-polled.result (sym c.is_going.ensures.going ∙ c.if-not-is_going.false) c.poll_stage-polled.ensures.going c.poll_stage-polled.ensures.polled)
