use Rattle.udp_records.specs.Datagrams.{poll_udp_connect_asks}
use Rattle.udp_records.proofs.DatagramCalms.{calm_udp_connect}
use Rattle.record_common.proofs.Hosts.{left_so}
use Rattle.record_common.proofs.SideCounts.{none_calm}
use Rattle.udp_records.proofs.UdpConnects.{udp_connect_left_over, udp_connect_polled}
use Rattle.udp_records.proofs.udp.OpenUdp.poll_connect.Goals as goal

pub returns-in-Some-clause-asked : goal.returns-in-Some-clause-asked
returns-in-Some-clause-asked g c =
    rw (c.settle_connect.ensures.told, c.settle_connect.ensures.settled, c.in-Some.ensures.after)
    (udp_connect_polled c.args.self.now c.in-Some.connect c.poll-polled.new.self c.poll-polled.new.socket c.poll-polled.result c.in-Some.ensures.value (rw c.into_inner-connect.ensures.connect at c.into_inner-connect.ensures.going) (rw c.into_inner-connect.ensures.connect at c.poll-polled.ensures.asked))

pub returns-in-Some-clause-none : goal.returns-in-Some-clause-none
returns-in-Some-clause-none g c = none_calm (calm_udp_connect _ _ c.poll-polled.ensures.before) _ c.poll-polled.ensures.asked

pub returns-in-Some-clause-left : goal.returns-in-Some-clause-left
returns-in-Some-clause-left g c =
    left_so poll_udp_connect_asks _ _ _ _ _ _ _ c.settle_connect.ensures.told (rw c.in-Some.ensures.after at c.settle_connect.ensures.settled)
    (udp_connect_left_over c.args.self.now c.in-Some.connect c.poll-polled.new.self c.poll-polled.new.socket c.poll-polled.result _ _ c.in-Some.ensures.value (rw c.into_inner-connect.ensures.connect at c.into_inner-connect.ensures.going) c.poll-polled.ensures.going (rw c.into_inner-connect.ensures.connect at c.poll-polled.ensures.err))
