use Rattle.std.proofs.Common.{refl}
use Rattle.wasi_world.proofs.Walks.{asks_at, asks_gives, asks_given}
use Rattle.wasi_tcp.specs.Reader.{read_state_asks}
use Rattle.tcp_records.specs.Halves.{reader_of, with_reader}
use Rattle.tcp_records.proofs.socket.TcpRecord.read.Goals as goal

pub returns-in-Some-clause-asked : goal.returns-in-Some-clause-asked
returns-in-Some-clause-asked g c = asks_at (reader_of c.args.self.now (λ s. read_state_asks c.args.op s c.args.len)) c.in-Some.is (asks_gives (λ done. (done.0, with_reader c.args.self.now c.in-Some.streams done.1)) c.read.ensures.asked)

pub returns-in-None-clause-asked : goal.returns-in-None-clause-asked
returns-in-None-clause-asked g c =
    asks_at (reader_of c.args.self.now (λ s. read_state_asks c.args.op s c.args.len)) c.in-None.is
    (asks_given _ _ refl refl)
