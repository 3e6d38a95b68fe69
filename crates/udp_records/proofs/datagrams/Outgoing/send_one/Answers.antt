use Rattle.wasi_world.proofs.Walks.{refused_exit, asks_then}
use Rattle.udp_records.proofs.DatagramCalms.{calm_send_begins}
use Rattle.udp_records.proofs.DatagramSends.{send_polled, send_makes_none}
use Rattle.record_common.proofs.SideCounts.{none_calm, none_then}
use Rattle.udp_records.proofs.datagrams.Outgoing.send_one.Goals as goal

pub returns-in_err-send-clause-asked : goal.returns-in_err-send-clause-asked
returns-in_err-send-clause-asked g c = refused_exit _ c.from_residual.result c.from_residual.ensures.1 c.in_err-send.ensures.asked.err

pub returns-clause-asked : goal.returns-clause-asked
returns-clause-asked g c =
    rw (c.settle_send.ensures.told, c.settle_send.ensures.settled)
    (asks_then _ c.in_ok-send.ensures.asked.ok (send_polled c.send.new.self c.args.self.now c.in_ok-send.send c.poll-polled.new.self c.poll-polled.result c.poll-polled.ensures.who (c.poll-polled.ensures.polled c.in_ok-send.ensures.going)))

pub returns-clause-none : goal.returns-clause-none
returns-clause-none g c =
    none_then (none_calm (calm_send_begins c.args.op c.args.socket.now c.args.datagram.bytes c.args.datagram.remote_address) _ c.in_ok-send.ensures.asked)
    (send_makes_none c.send.new.self c.in_ok-send.send c.poll-polled.new.self c.poll-polled.result c.poll-polled.ensures.before (c.poll-polled.ensures.polled c.in_ok-send.ensures.going))

pub returns-in_err-send-clause-none : goal.returns-in_err-send-clause-none
returns-in_err-send-clause-none g c =
    none_calm (calm_send_begins c.args.op c.args.socket.now c.args.datagram.bytes c.args.datagram.remote_address) _ c.send.ensures.asked
