use Rattle.std.proofs.Common.{refl, sym, ◌∙◌}
use Rattle.wasi_world.proofs.Walks.{asks_at, asks_exit, asks_end}
use Rattle.std.specs.Prelude.{Some}
use Rattle.wasi_tcp.specs.Closing.{close_in}
use Rattle.wasi_tcp.proofs.socket.TcpSocket.close.Goals as goal

pub returns-in_err-close-clause-asked : goal.returns-in_err-close-clause-asked
returns-in_err-close-clause-asked g c = asks_at (close_in c.args.op c.args.self.now) {e = Some c.in-Some.side} (sym c.side.ensures ∙ c.in-Some.is) (asks_exit _ _ c.from_residual.ensures.1 c.in_err-close.ensures.asked.err)

pub returns-clause-asked : goal.returns-clause-asked
returns-clause-asked g c = asks_at (close_in c.args.op c.args.self.now) {e = Some c.in-Some.side} (sym c.side.ensures ∙ c.in-Some.is) (asks_end _ c.in_ok-close.ensures.asked.ok (rw (← c.self.view_is) refl))
