use Rattle.wasi_udp.proofs.Creates.{is_create}
use Rattle.wasi_udp.proofs.create.CreateOp.side.Goals as goal

pub returns-clause-create : goal.returns-clause-create
returns-clause-create g = rw (← g.self.view_is) (is_create _ _)
