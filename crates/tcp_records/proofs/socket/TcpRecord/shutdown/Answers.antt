use Rattle.std.proofs.Common.{refl}
use Rattle.wasi_world.proofs.Walks.{asks_at, asks_end}
use Rattle.tcp_records.specs.Shutdowns.{shut_record}
use Rattle.record_common.proofs.Hosts.{host_exit}
use Rattle.tcp_records.proofs.socket.TcpRecord.shutdown.Goals as goal

pub returns-in_err-shutdown-clause-asked : goal.returns-in_err-shutdown-clause-asked
returns-in_err-shutdown-clause-asked g c = asks_at (shut_record c.args.op c.args.how c.args.self.now) c.in-Some.is (host_exit _ c.from_residual.result c.from_residual.ensures.1 c.in_err-shutdown.ensures.asked.err)

pub returns-clause-asked : goal.returns-clause-asked
returns-clause-asked g c = asks_at (shut_record c.args.op c.args.how c.args.self.now) c.in-Some.is (asks_end _ c.in_ok-shutdown.ensures.asked.ok refl)
