use Rattle.wasi_world.proofs.Walks.{asks_at}
use Rattle.tcp_records.specs.Looks.{ready_reader}
use Rattle.tcp_records.proofs.Looks.{read_over}
use Rattle.tcp_records.proofs.socket.TcpRecord.input_ready.Goals as goal

pub returns-in-Some-clause-asked : goal.returns-in-Some-clause-asked
returns-in-Some-clause-asked g c = asks_at (ready_reader c.args.op c.args.self.now) c.in-Some.is (rw c.is_read.ensures (read_over c.args.self.now c.args.op c.in-Some.streams c.poll_ready.result c.poll_ready.ensures.asked))
