use Rattle.wasi_world.proofs.Walks.{asks_gives}
use Rattle.tcp_records.proofs.socket.Streams.shut_receive.Goals as goal

pub returns : goal.returns
returns g c = record { asked = asks_gives (λ done. (tt, record c.args.self.now { reader = done.1 })) c.shutdown.ensures.asked }
