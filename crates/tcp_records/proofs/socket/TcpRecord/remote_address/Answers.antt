use Rattle.wasi_world.proofs.Walks.{asks_gives}
use Rattle.tcp_records.specs.Sockets.{inner_answered}
use Rattle.tcp_records.proofs.socket.TcpRecord.remote_address.Goals as goal

pub returns-clause-asked : goal.returns-clause-asked
returns-clause-asked g c = asks_gives (inner_answered c.args.self.now) c.remote_address.ensures.asked
