use Rattle.std.proofs.Common.{refl}
use Rattle.wasi_world.proofs.Walks.{asks_at, refused_exit, refused_end}
use Rattle.wasi_tcp.specs.declared.socket.TcpState.TheVariants as state
use Rattle.wasi_tcp.specs.Connecting.{start_connect_in}
use Rattle.wasi_tcp.proofs.socket.TcpSocket.start_connect.Goals as goal

pub returns-in_err-bound-clause-asked : goal.returns-in_err-bound-clause-asked
returns-in_err-bound-clause-asked g c =
    asks_at (start_connect_in c.args.op c.args.self.now c.args.addr) {e = state.Default c.in-Default.side} (rw (← c.self.view_is) c.in-Default.is) (refused_exit _ c.from_residual.result c.from_residual.ensures.1 c.in_err-bound.ensures.asked.err)

pub returns-clause-asked : goal.returns-clause-asked
returns-clause-asked g c =
    asks_at (start_connect_in c.args.op c.args.self.now c.args.addr) {e = state.Default c.in-Default.side} (rw (← c.self.view_is) c.in-Default.is) (refused_end _ c.begin_connect.result c.in_ok-bound.ensures.asked.ok c.begin_connect.ensures.answer (rw c.begin_connect.ensures.socket refl))
