use Rattle.std.proofs.Common.{refl}
use Rattle.wasi_world.specs.Asks.{bind}
use Rattle.wasi_world.proofs.Walks.{asks_at, asks_given}
use Rattle.tcp_records.specs.Halves.{writer_of, flush_asks}
use Rattle.tcp_records.proofs.socket.TcpRecord.flush.Goals as goal

pub returns-in-Some-clause-asked : goal.returns-in-Some-clause-asked
unfolding bind
returns-in-Some-clause-asked g c = asks_at (writer_of c.args.self.now flush_asks) c.in-Some.is (asks_given _ _ c.flush.ensures.told (rw c.flush.ensures.same refl))

pub returns-in-None-clause-asked : goal.returns-in-None-clause-asked
returns-in-None-clause-asked g c =
    asks_at (writer_of c.args.self.now flush_asks) c.in-None.is
    (asks_given _ _ refl refl)
