use Rattle.std.proofs.lemmas.Bool.{false≢true}
use Rattle.wasi_tcp.proofs.bind.BindOp.poll.Goals as goal

pub returns-in-Over-clause-polled : goal.returns-in-Over-clause-polled
returns-in-Over-clause-polled g c = rw (← c.self.view_is, c.in-Over.is) (λ going. absurd (false≢true going))
