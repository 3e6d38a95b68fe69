use Rattle.std.proofs.lemmas.Bool.{false≢true}
use Rattle.wasi_udp.proofs.Binds.{is_bind}
use Rattle.wasi_udp.proofs.bind.UdpBindOp.poll.Goals as goal

pub returns-in-Over-clause-polled : goal.returns-in-Over-clause-polled
returns-in-Over-clause-polled g c = rw (← c.self.view_is, c.in-Over.is) (λ going. absurd (false≢true going))

pub returns-in-Check-clause-before : goal.returns-in-Check-clause-before
returns-in-Check-clause-before g c = rw (← c.self.view_is) (is_bind _ _ _)

pub returns-in-Check-clause-after : goal.returns-in-Check-clause-after
returns-in-Check-clause-after g c = is_bind _ _ _

pub returns-in-Bind-clause-before : goal.returns-in-Bind-clause-before
returns-in-Bind-clause-before g c = rw (← c.self.view_is) (is_bind _ _ _)

pub returns-in-Bind-clause-after : goal.returns-in-Bind-clause-after
returns-in-Bind-clause-after g c = is_bind _ _ _

pub returns-in-Over-clause-before : goal.returns-in-Over-clause-before
returns-in-Over-clause-before g c = rw (← c.self.view_is) (is_bind _ _ _)

pub returns-in-Over-clause-after : goal.returns-in-Over-clause-after
returns-in-Over-clause-after g c = rw (← c.self.view_is) (is_bind _ _ _)
