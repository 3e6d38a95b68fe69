use Rattle.wasi_world.proofs.Walks.{asks_gives}
use Rattle.wasi_tcp.proofs.socket.TcpSocket.set_option.Goals as goal

pub returns-in-Ok-clause-asked : goal.returns-in-Ok-clause-asked
returns-in-Ok-clause-asked g c =
    rw (← c.if-refused_before_state.ensures, ← c.usable_side.ensures, c.in-Ok.is) (asks_gives (λ answer. (answer, c.args.self.now)) c.set_of_side.ensures.asked)
