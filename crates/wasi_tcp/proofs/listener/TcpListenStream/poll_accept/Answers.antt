use Rattle.std.proofs.Common.{refl}
use Rattle.wasi_tcp.specs.Listener.{begun, accept_end}
use Rattle.wasi_tcp.proofs.Listeners.{turn_ends, turn_exit, turn_left_over}
use Rattle.wasi_tcp.proofs.listener.TcpListenStream.poll_accept.Goals as goal

pub returns-in_err-turn-clause-asked : goal.returns-in_err-turn-clause-asked
returns-in_err-turn-clause-asked g c =
    rw (← c.self.view_is) (turn_exit (accept_end (record { side = c.self.inside.side; maker = c.self.inside.maker; family = c.self.inside.family; accept = c.self.inside.accept })) (begun c.self.inside.side c.self.inside.maker c.args.ids.now c.self.inside.accept) _ _ c.from_residual.ensures.1 c.in_err-turn.ensures.turned)

pub returns-in_err-turn-clause-err : goal.returns-in_err-turn-clause-err
returns-in_err-turn-clause-err g c =
    rw (← c.self.view_is) (turn_left_over (accept_end (record { side = c.self.inside.side; maker = c.self.inside.maker; family = c.self.inside.family; accept = c.self.inside.accept })) (begun c.self.inside.side c.self.inside.maker c.args.ids.now c.self.inside.accept) _ _ _ c.from_residual.result c.in_err-turn.ensures.turned)

pub returns-clause-asked : goal.returns-clause-asked
returns-clause-asked g c =
    rw (← c.self.view_is) (turn_ends (accept_end (record { side = c.self.inside.side; maker = c.self.inside.maker; family = c.self.inside.family; accept = c.self.inside.accept })) (begun c.self.inside.side c.self.inside.maker c.args.ids.now c.self.inside.accept) c.in_ok-turn.ensures.turned (rw (c.take.ensures.answer, c.take.ensures.taken) refl))
