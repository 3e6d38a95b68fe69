use Rattle.udp_records.specs.Udp.{poll_create_asks}
use Rattle.record_common.proofs.Hosts.{left_so}
use Rattle.udp_records.proofs.UdpPolls.{create_left_over, create_polled, create_holds}
use Rattle.udp_records.proofs.udp.UdpRecord.poll_create.Goals as goal

pub returns-in-Creating-clause-asked : goal.returns-in-Creating-clause-asked
returns-in-Creating-clause-asked g c =
    rw (c.settle_create.ensures.told, c.settle_create.ensures.settled, ← c.replace.ensures.value, c.in-Creating.is)
    (create_polled c.in-Creating.create c.poll-polled.new.self c.poll-polled.result (rw c.into_inner-create.ensures.create at c.into_inner-create.ensures.going) (rw c.into_inner-create.ensures.create at c.poll-polled.ensures.asked))

pub returns-in-Creating-clause-held : goal.returns-in-Creating-clause-held
returns-in-Creating-clause-held g c =
    rw (c.settle_create.ensures.settled, ← c.replace.ensures.value, c.in-Creating.is, ← c.into_inner-create.ensures.create)
    (create_holds c.into_inner-create.result c.poll-polled.new.self c.poll-polled.result c.poll-polled.ensures.before c.poll-polled.ensures.after c.into_inner-create.ensures.going c.poll-polled.ensures.going c.poll-polled.ensures.asked c.poll-polled.ensures.err)

pub returns-in-Creating-clause-left : goal.returns-in-Creating-clause-left
returns-in-Creating-clause-left g c =
    rw (← c.replace.ensures.value, c.in-Creating.is)
    (left_so poll_create_asks _ _ _ _ _ _ _ c.settle_create.ensures.told c.settle_create.ensures.settled
    (create_left_over c.in-Creating.create c.poll-polled.new.self c.poll-polled.result _ _ (rw c.into_inner-create.ensures.create at c.into_inner-create.ensures.going) c.poll-polled.ensures.going (rw c.into_inner-create.ensures.create at c.poll-polled.ensures.err)))
