use Rattle.wasi_world.proofs.Walks.{asks_at, asks_exit, asks_then}
use Rattle.record_common.specs.Names.{next_name}
use Rattle.udp_records.specs.Receiving.{fetch_asks}
use Rattle.udp_records.proofs.ReceiveCalms.{receive_begins_none, receive_makes_none}
use Rattle.udp_records.proofs.ReceiveLists.{settled_stays}
use Rattle.udp_records.proofs.Receives.{receive_polled}
use Rattle.record_common.proofs.SideCounts.{none_then}
use Rattle.udp_records.proofs.datagrams.Incoming.fetch.Goals as goal

pub returns-in_err-receive-in-Nothing-clause-asked : goal.returns-in_err-receive-in-Nothing-clause-asked
returns-in_err-receive-in-Nothing-clause-asked g c =
    asks_at (λ receiving. fetch_asks (next_name c.args.ids.now) receiving (c.args.socket.now, c.args.self.now)) c.in-Nothing.is
    (asks_exit _ _ c.from_residual.ensures.1 (rw c.begin.ensures.op at c.in_err-receive-in-Nothing.ensures.asked.err))

pub returns-in_ok-receive-in-Nothing-clause-asked : goal.returns-in_ok-receive-in-Nothing-clause-asked
returns-in_ok-receive-in-Nothing-clause-asked g c =
    rw (c.settle.ensures.told, c.settle.ensures.settled)
    (asks_at (λ receiving. fetch_asks (next_name c.args.ids.now) receiving (c.args.socket.now, c.args.self.now)) c.in-Nothing.is
    (asks_then _ (rw c.begin.ensures.op at c.in_ok-receive-in-Nothing.ensures.asked.ok)
    (receive_polled (λ inc. (c.recv.new.self, inc)) c.args.self.now c.in_ok-receive-in-Nothing.receive c.poll-polled.new.self c.poll-polled.result (c.poll-polled.ensures.polled c.in_ok-receive-in-Nothing.ensures.going))))

pub returns-in_ok-receive-in-Nothing-clause-none : goal.returns-in_ok-receive-in-Nothing-clause-none
returns-in_ok-receive-in-Nothing-clause-none g c =
    none_then (receive_begins_none c.begin.result c.args.socket.now _ c.in_ok-receive-in-Nothing.ensures.asked)
    (receive_makes_none c.args.self.now c.in_ok-receive-in-Nothing.receive c.poll-polled.new.self c.poll-polled.result c.poll-polled.ensures.before (c.poll-polled.ensures.polled c.in_ok-receive-in-Nothing.ensures.going))

pub returns-in_ok-receive-in-Nothing-clause-stays : goal.returns-in_ok-receive-in-Nothing-clause-stays
returns-in_ok-receive-in-Nothing-clause-stays g c = settled_stays c.poll-polled.new.self c.args.self.now c.settle.new.self c.poll-polled.result c.settle.result c.in-Nothing.is c.settle.ensures.told c.settle.ensures.settled
