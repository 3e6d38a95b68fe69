use Rattle.wasi_world.proofs.Walks.{asks_gives}
use Rattle.tcp_records.specs.Sockets.{inner_answered}
use Rattle.tcp_records.proofs.ConnectCounts.{closed_by_poll}
use Rattle.host_tcp.proofs.connecting.reconnect.Goals as goal

pub returns-clause-asked : goal.returns-clause-asked
returns-clause-asked g c = asks_gives (inner_answered c.args.record.now) c.poll_finish_connect.ensures.asked

pub returns-clause-sides : goal.returns-clause-sides
returns-clause-sides g c =
    closed_by_poll c.args.record.now _ c.poll_finish_connect.result c.poll_finish_connect.ensures.before c.poll_finish_connect.ensures.after c.poll_finish_connect.ensures.asked c.poll_finish_connect.ensures.err c.poll_finish_connect.ensures.side
