use Rattle.wasi_world.proofs.Walks.{asks_at}
use Rattle.udp_records.specs.Receiving.{turn_receiving}
use Rattle.udp_records.proofs.ReceiveCalms.{receive_makes_none}
use Rattle.udp_records.proofs.Receives.{receive_polled}
use Rattle.udp_records.proofs.datagrams.Incoming.turn.Goals as goal

pub returns-in-InProgress-clause-asked : goal.returns-in-InProgress-clause-asked
returns-in-InProgress-clause-asked g c =
    rw (c.settle.ensures.told, c.settle.ensures.settled)
    (asks_at (turn_receiving c.args.self.now) (rw c.replace.ensures.value at c.in-InProgress.is)
    (receive_polled (λ inc. inc) c.args.self.now c.in-InProgress.receive c.poll-polled.new.self c.poll-polled.result (rw c.into_inner-receive.ensures.receive at (c.poll-polled.ensures.polled c.into_inner-receive.ensures.going))))

pub returns-in-InProgress-clause-none : goal.returns-in-InProgress-clause-none
returns-in-InProgress-clause-none g c = receive_makes_none c.args.self.now c.into_inner-receive.result c.poll-polled.new.self c.poll-polled.result c.poll-polled.ensures.before (c.poll-polled.ensures.polled c.into_inner-receive.ensures.going)
