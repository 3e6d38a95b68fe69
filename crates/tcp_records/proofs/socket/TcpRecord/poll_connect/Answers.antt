use Rattle.tcp_records.proofs.ConnectCounts.{poll_asked, poll_closes}
use Rattle.tcp_records.proofs.socket.TcpRecord.poll_connect.Goals as goal

pub returns-clause-asked : goal.returns-clause-asked
returns-clause-asked g c = rw (c.settle_connect.ensures.told, c.settle_connect.ensures.settled) (poll_asked c.args.self.now _ c.poll_finish_connect-polled.result c.poll_finish_connect-polled.ensures.asked)

pub returns-clause-sides : goal.returns-clause-sides
returns-clause-sides g c =
    rw c.settle_connect.ensures.settled
    (poll_closes c.args.self.now _ c.poll_finish_connect-polled.result c.poll_finish_connect-polled.ensures.before c.poll_finish_connect-polled.ensures.after c.poll_finish_connect-polled.ensures.asked c.poll_finish_connect-polled.ensures.err c.poll_finish_connect-polled.ensures.side)
