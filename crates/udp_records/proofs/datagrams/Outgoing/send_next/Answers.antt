use Rattle.record_common.specs.Names.{next_name}
use Rattle.udp_records.proofs.DatagramSends.{next_sent, next_refused}
use Rattle.udp_records.proofs.datagrams.Outgoing.send_next.Goals as goal

pub returns-in_err-send_one-in-Nothing-clause-asked :
    goal.returns-in_err-send_one-in-Nothing-clause-asked
returns-in_err-send_one-in-Nothing-clause-asked g c = next_refused c.begin.result (next_name c.args.ids.now) c.args.socket.now c.args.self.now c.replace.new.dest c.args.datagram (c.send_one.new.socket, c.send_one.new.self) _ c.from_residual.result c.from_residual.ensures.1 (rw c.replace.ensures.value at c.in-Nothing.is) c.replace.ensures.after c.begin.ensures.op c.in_err-send_one-in-Nothing.ensures.asked

pub returns-in_ok-send_one-in-Nothing-clause-asked :
    goal.returns-in_ok-send_one-in-Nothing-clause-asked
returns-in_ok-send_one-in-Nothing-clause-asked g c = next_sent c.begin.result (next_name c.args.ids.now) c.args.socket.now c.args.self.now c.replace.new.dest c.args.datagram (c.send_one.new.socket, c.send_one.new.self) (rw c.replace.ensures.value at c.in-Nothing.is) c.replace.ensures.after c.begin.ensures.op c.in_ok-send_one-in-Nothing.ensures.asked
