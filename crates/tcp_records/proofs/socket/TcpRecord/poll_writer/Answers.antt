use Rattle.wasi_world.proofs.Walks.{asks_at}
use Rattle.tcp_records.specs.Looks.{wait_writer}
use Rattle.tcp_records.proofs.Looks.{look_waits}
use Rattle.tcp_records.proofs.socket.TcpRecord.poll_writer.Goals as goal

pub returns-in-Some-clause-asked : goal.returns-in-Some-clause-asked
returns-in-Some-clause-asked g c = asks_at (wait_writer c.args.op c.args.self.now) c.in-Some.is (rw c.wait_answer.ensures (look_waits c.args.op c.args.self.now c.in-Some.streams c.poll_ready.result (rw c.drop_permit.ensures at c.poll_ready.ensures.asked)))
