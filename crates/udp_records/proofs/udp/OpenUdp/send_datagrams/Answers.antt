use Rattle.udp_records.proofs.DatagramPermits.{is_permitted, list_sent, list_stopped}
use Rattle.udp_records.proofs.udp.OpenUdp.send_datagrams.Goals as goal

pub returns-in_err-sent-clause-asked : goal.returns-in_err-sent-clause-asked
returns-in_err-sent-clause-asked g c = list_stopped c.args.ids.now c.args.self.now c.in-Some.outgoing c.args.datagrams.items (c.send_all.new.socket, c.send_all.new.self) _ c.from_residual.result (is_permitted c.args.self.now c.in-Some.outgoing c.args.datagrams.items _ _ _ c.in-Some.is c.if-is_empty.ensures c.args.datagrams.ok.0 c.len.ensures c.from.ensures c.if-len-from.false) c.from_residual.ensures.1 c.in_err-sent.ensures.asked

pub returns-clause-asked : goal.returns-clause-asked
returns-clause-asked g c = list_sent c.args.ids.now c.args.self.now c.in-Some.outgoing c.args.datagrams.items c.in_ok-sent.sent (c.send_all.new.socket, c.send_all.new.self) (is_permitted c.args.self.now c.in-Some.outgoing c.args.datagrams.items _ _ _ c.in-Some.is c.if-is_empty.ensures c.args.datagrams.ok.0 c.len.ensures c.from.ensures c.if-len-from.false) c.in_ok-sent.ensures.asked.ok
