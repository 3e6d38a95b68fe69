use Rattle.std.proofs.Common.{◌≡◌, ◌==◌, false, refl, arith}
use Rattle.wasi_world.proofs.Walks.{asks_at, refused_exit, refused_end}
use Rattle.wasi_addr.specs.Clamp.{clamped_backlog}
use Rattle.wasi_tcp.specs.declared.socket.TcpState.TheVariants as state
use Rattle.wasi_tcp.specs.Options.{set_backlog_in}
use Rattle.wasi_tcp.proofs.socket.TcpSocket.set_listen_backlog_size.Goals as goal

pub returns-in_err-told-in-Listening-clause-asked : goal.returns-in_err-told-in-Listening-clause-asked
returns-in_err-told-in-Listening-clause-asked g c =
    let some : (c.args.value == 0) ≡ false = grind (arith, c.if-value-eq0.false) in
    rw some (asks_at (set_backlog_in c.args.op c.args.self.now (clamped_backlog c.args.value)) {e = state.Listening c.in-Listening.side} (rw (← c.self.view_is) c.in-Listening.is) (rw (← c.clamp_backlog-backlog.ensures) (refused_exit _ c.from_residual.result c.from_residual.ensures.1 c.in_err-told-in-Listening.ensures.asked.err)))

pub returns-in_ok-told-in-Listening-clause-asked : goal.returns-in_ok-told-in-Listening-clause-asked
returns-in_ok-told-in-Listening-clause-asked g c =
    let some : (c.args.value == 0) ≡ false = grind (arith, c.if-value-eq0.false) in
    rw some (asks_at (set_backlog_in c.args.op c.args.self.now (clamped_backlog c.args.value)) {e = state.Listening c.in-Listening.side} (rw (← c.self.view_is) c.in-Listening.is) (rw (← c.clamp_backlog-backlog.ensures) (refused_end _ c.learn_backlog.result c.in_ok-told-in-Listening.ensures.asked.ok c.learn_backlog.ensures.answer (rw c.learn_backlog.ensures.socket refl))))
