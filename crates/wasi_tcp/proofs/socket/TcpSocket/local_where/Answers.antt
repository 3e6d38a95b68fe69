use Rattle.wasi_world.proofs.Walks.{asks_gives}
use Rattle.wasi_tcp.proofs.socket.TcpSocket.local_where.Goals as goal

pub returns-in-Ok-clause-asked : goal.returns-in-Ok-clause-asked
returns-in-Ok-clause-asked g c = rw (← c.local_side.ensures, c.in-Ok.is) (asks_gives (λ told. (told, c.args.self.now)) c.told_address.ensures.asked)
