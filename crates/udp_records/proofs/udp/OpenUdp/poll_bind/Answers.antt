use Rattle.udp_records.specs.Udp.{poll_udp_bind_asks}
use Rattle.record_common.proofs.Hosts.{left_so}
use Rattle.udp_records.proofs.UdpBinds.{udp_bind_left, udp_bind_polled, udp_bind_makes_none}
use Rattle.udp_records.proofs.udp.OpenUdp.poll_bind.Goals as goal

pub returns-in-Binding-clause-asked : goal.returns-in-Binding-clause-asked
returns-in-Binding-clause-asked g c =
    rw (c.settle_bind.ensures.told, c.settle_bind.ensures.settled)
    (udp_bind_polled c.args.self.now c.in-Binding.bind c.poll-polled.new.self c.poll-polled.result (rw c.replace.ensures.value at c.in-Binding.is) (rw c.into_inner-bind.ensures.bind at (c.poll-polled.ensures.polled c.into_inner-bind.ensures.going)))

pub returns-in-Binding-clause-none : goal.returns-in-Binding-clause-none
returns-in-Binding-clause-none g c = udp_bind_makes_none c.into_inner-bind.result c.poll-polled.new.self c.poll-polled.result c.poll-polled.ensures.before (c.poll-polled.ensures.polled c.into_inner-bind.ensures.going)

pub returns-in-Binding-clause-left : goal.returns-in-Binding-clause-left
returns-in-Binding-clause-left g c =
    left_so poll_udp_bind_asks _ _ _ _ _ _ _ c.settle_bind.ensures.told c.settle_bind.ensures.settled
    (udp_bind_left c.args.self.now c.in-Binding.bind c.poll-polled.new.self c.poll-polled.result _ _ (rw c.replace.ensures.value at c.in-Binding.is) (rw c.into_inner-bind.ensures.bind at (c.poll-polled.ensures.polled c.into_inner-bind.ensures.going)))
