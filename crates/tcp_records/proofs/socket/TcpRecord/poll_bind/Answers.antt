use Rattle.tcp_records.proofs.Binds.{bind_left, bind_polled, bind_makes_none}
use Rattle.tcp_records.specs.Binding.{poll_bind_asks}
use Rattle.record_common.proofs.Hosts.{left_so}
use Rattle.record_common.proofs.SideCounts.{none_first}
use Rattle.tcp_records.proofs.socket.TcpRecord.poll_bind.Goals as goal

pub returns-in-Binding-clause-asked : goal.returns-in-Binding-clause-asked
returns-in-Binding-clause-asked g c =
    rw (c.settle_bind.ensures.told, c.settle_bind.ensures.settled, c.poll-polled.ensures.same)
    (bind_polled c.args.self.now c.in-Binding.bind c.poll-polled.new.self c.poll-polled.result (rw c.replace.ensures.value at c.in-Binding.is) (rw c.into_inner-bind.ensures.bind at (c.poll-polled.ensures.polled c.into_inner-bind.ensures.going)))

pub returns-in-Binding-clause-none : goal.returns-in-Binding-clause-none
returns-in-Binding-clause-none g c = bind_makes_none c.into_inner-bind.result c.poll-polled.new.self c.poll-polled.result c.poll-polled.ensures.bind (c.poll-polled.ensures.polled c.into_inner-bind.ensures.going)

pub returns-in-Nothing-clause-none : goal.returns-in-Nothing-clause-none
returns-in-Nothing-clause-none g c = none_first _

pub returns-in-Started-clause-none : goal.returns-in-Started-clause-none
returns-in-Started-clause-none g c = none_first _

pub returns-in-Binding-clause-left : goal.returns-in-Binding-clause-left
returns-in-Binding-clause-left g c =
    left_so poll_bind_asks _ _ _ _ _ _ _ c.settle_bind.ensures.told c.settle_bind.ensures.settled
    (bind_left c.args.self.now c.poll-polled.new.socket c.in-Binding.bind c.poll-polled.new.self c.poll-polled.result _ _ c.poll-polled.ensures.same (rw c.replace.ensures.value at c.in-Binding.is) (rw c.into_inner-bind.ensures.bind at (c.poll-polled.ensures.polled c.into_inner-bind.ensures.going)))
