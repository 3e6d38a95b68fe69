use Rattle.udp_records.proofs.DatagramSends.{turn_polled, send_makes_none}
use Rattle.udp_records.proofs.datagrams.Outgoing.turn.Goals as goal

pub returns-in-InProgress-clause-asked : goal.returns-in-InProgress-clause-asked
returns-in-InProgress-clause-asked g c =
    rw (c.settle_turn.ensures.told, c.settle_turn.ensures.settled)
    (turn_polled c.args.socket.now c.args.self.now c.in-InProgress.send c.poll-polled.new.self c.poll-polled.result (rw c.replace.ensures.value at c.in-InProgress.is) (rw c.into_inner-send.ensures.send at c.poll-polled.ensures.who) (rw c.into_inner-send.ensures.send at (c.poll-polled.ensures.polled c.into_inner-send.ensures.going)))

pub returns-in-InProgress-clause-none : goal.returns-in-InProgress-clause-none
returns-in-InProgress-clause-none g c = send_makes_none c.args.socket.now c.into_inner-send.result c.poll-polled.new.self c.poll-polled.result c.poll-polled.ensures.before (c.poll-polled.ensures.polled c.into_inner-send.ensures.going)
