use Rattle.wasi_tcp.proofs.Listens.{is_listen}
use Rattle.wasi_tcp.proofs.listen.ListenOp.maker.Goals as goal

pub returns-clause-listen : goal.returns-clause-listen
returns-clause-listen g = rw (← g.self.view_is) (is_listen _ _ _ _)
