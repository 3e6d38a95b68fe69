use Rattle.std.proofs.Common.{refl}
use Rattle.wasi_world.proofs.Walks.{asks_at, asks_gives, asks_given}
use Rattle.wasi_tcp.specs.Writer.{write_state_asks}
use Rattle.tcp_records.specs.Halves.{writer_of, with_writer}
use Rattle.tcp_records.proofs.socket.TcpRecord.write.Goals as goal

pub returns-in-Some-clause-asked : goal.returns-in-Some-clause-asked
returns-in-Some-clause-asked g c = asks_at (writer_of c.args.self.now (λ w. write_state_asks c.args.op w c.args.bytes)) c.in-Some.is (asks_gives (λ done. (done.0, with_writer c.args.self.now c.in-Some.streams done.1)) c.write.ensures.asked)

pub returns-in-None-clause-asked : goal.returns-in-None-clause-asked
returns-in-None-clause-asked g c =
    asks_at (writer_of c.args.self.now (λ w. write_state_asks c.args.op w c.args.bytes)) c.in-None.is
    (asks_given _ _ refl refl)
