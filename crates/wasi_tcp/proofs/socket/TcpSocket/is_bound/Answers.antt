use Rattle.std.proofs.Common.{ap, sym}
use Rattle.wasi_world.specs.Asks.{Give}
use Rattle.wasi_world.proofs.Walks.{asks_exit, asks_end}
use Rattle.wasi_tcp.proofs.socket.TcpSocket.is_bound.Goals as goal

pub returns-in_err-told-in-Default-clause-asked : goal.returns-in_err-told-in-Default-clause-asked
returns-in_err-told-in-Default-clause-asked g c = rw (← c.self.view_is, c.if-self.false, c.in-Default.is) (asks_exit _ _ c.from_residual.ensures.1 c.in_err-told-in-Default.ensures.asked.err)

pub returns-in_ok-told-in-Default-clause-asked : goal.returns-in_ok-told-in-Default-clause-asked
returns-in_ok-told-in-Default-clause-asked g c = rw (← c.self.view_is, c.if-self.false, c.in-Default.is) (asks_end _ c.in_ok-told-in-Default.ensures.asked.ok (ap Give (sym c.learn_bound.ensures.learned)))
