use Rattle.wasi_tcp.proofs.Accepts.{is_accept}
use Rattle.wasi_tcp.proofs.accept.AcceptOp.poll.Goals as goal

pub returns-clause-before : goal.returns-clause-before
returns-clause-before g c = rw (← c.self.view_is) (is_accept _ _)

pub returns-clause-after : goal.returns-clause-after
returns-clause-after g c = rw (← c.self-2.view_is) (is_accept _ _)
