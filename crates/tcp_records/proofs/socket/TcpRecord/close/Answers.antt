use Rattle.std.proofs.Common.{ap}
use Rattle.wasi_world.proofs.Walks.{asks_exit, asks_end}
use Rattle.wasi_tcp.specs.Shape.{Socket}
use Rattle.tcp_records.specs.declared.socket.TcpRecord.{TcpRecord}
use Rattle.tcp_records.proofs.Looks.{on_err}
use Rattle.tcp_records.proofs.Releases.{gone_as, none_held}
use Rattle.tcp_records.proofs.socket.TcpRecord.close.Goals as goal

pub returns-in_err-close-clause-asked : goal.returns-in_err-close-clause-asked
returns-in_err-close-clause-asked g c = asks_exit _ _ c.from_residual.ensures.1 c.in_err-close.ensures.asked.err

pub returns-in_err-close-clause-err : goal.returns-in_err-close-clause-err
returns-in_err-close-clause-err g c = on_err c.from_residual.result (ap (λ (i : Socket). let r : TcpRecord = record c.args.self.now { inner = i } in r) c.in_err-close.ensures.err)

pub returns-clause-asked : goal.returns-clause-asked
returns-clause-asked g c = asks_end _ c.in_ok-close.ensures.asked.ok (gone_as c.args.self.now _ c.requires.not)

pub returns-clause-none : goal.returns-clause-none
returns-clause-none g c = none_held _ _ c.in_ok-close.ensures.gone c.requires.not
