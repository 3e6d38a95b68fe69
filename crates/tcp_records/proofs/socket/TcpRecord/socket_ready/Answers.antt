use Rattle.wasi_world.proofs.Walks.{asks_at}
use Rattle.std.proofs.Common.{sym, ◌∙◌}
use Rattle.tcp_records.specs.Looks.{ready_socket_by}
use Rattle.tcp_records.proofs.Looks.{connect_over}
use Rattle.tcp_records.proofs.ConnectCounts.{closed_by_poll}
use Rattle.tcp_records.proofs.socket.TcpRecord.socket_ready.Goals as goal

pub returns-then-is_started-clause-asked : goal.returns-then-is_started-clause-asked
returns-then-is_started-clause-asked g c =
    asks_at (ready_socket_by c.args.ids.now c.args.self.now) (sym c.is_started.ensures ∙ c.if-is_started.true)
    (rw c.is_over.ensures (connect_over c.args.self.now _ c.poll_finish_connect-polled.result c.poll_finish_connect-polled.ensures.asked))

pub returns-then-is_started-clause-sides : goal.returns-then-is_started-clause-sides
returns-then-is_started-clause-sides g c =
    closed_by_poll c.args.self.now _ c.poll_finish_connect-polled.result c.poll_finish_connect-polled.ensures.before c.poll_finish_connect-polled.ensures.after c.poll_finish_connect-polled.ensures.asked c.poll_finish_connect-polled.ensures.err c.poll_finish_connect-polled.ensures.side
