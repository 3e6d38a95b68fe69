use Rattle.wasi_world.proofs.Walks.{asks_gives}
use Rattle.tcp_records.specs.Shutdowns.{with_streams}
use Rattle.tcp_records.proofs.socket.TcpRecord.shut_half.Goals as goal

pub returns-in-Some-clause-asked : goal.returns-in-Some-clause-asked
returns-in-Some-clause-asked g c = rw c.in-Some.is (asks_gives (λ done. (tt, with_streams c.args.self.now done.1)) c.shutdown.ensures.asked)
