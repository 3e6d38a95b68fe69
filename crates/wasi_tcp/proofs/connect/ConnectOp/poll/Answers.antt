use Rattle.std.proofs.Common.{refl}
use Rattle.wasi_world.proofs.Polls.{polls_over}
use Rattle.wasi_tcp.proofs.Connects.{is_connect}
use Rattle.wasi_tcp.proofs.connect.ConnectOp.poll.Goals as goal

pub returns-in-Over-clause-polled : goal.returns-in-Over-clause-polled
returns-in-Over-clause-polled g c = rw (← c.self.view_is, c.in-Over.is) (polls_over _ refl)

pub returns-in-CheckWildcard-clause-before : goal.returns-in-CheckWildcard-clause-before
returns-in-CheckWildcard-clause-before g c = rw (← c.self.view_is) (is_connect _ _ _ _)

pub returns-in-CheckWildcard-clause-after : goal.returns-in-CheckWildcard-clause-after
returns-in-CheckWildcard-clause-after g c = is_connect _ _ _ _

pub returns-in-Check-clause-before : goal.returns-in-Check-clause-before
returns-in-Check-clause-before g c = rw (← c.self.view_is) (is_connect _ _ _ _)

pub returns-in-Check-clause-after : goal.returns-in-Check-clause-after
returns-in-Check-clause-after g c = is_connect _ _ _ _

pub returns-in-Connect-clause-before : goal.returns-in-Connect-clause-before
returns-in-Connect-clause-before g c = rw (← c.self.view_is) (is_connect _ _ _ _)

pub returns-in-Connect-clause-after : goal.returns-in-Connect-clause-after
returns-in-Connect-clause-after g c = is_connect _ _ _ _

pub returns-in-Close-clause-before : goal.returns-in-Close-clause-before
returns-in-Close-clause-before g c = rw (← c.self.view_is) (is_connect _ _ _ _)

pub returns-in-Close-clause-after : goal.returns-in-Close-clause-after
returns-in-Close-clause-after g c = is_connect _ _ _ _

pub returns-in-Over-clause-before : goal.returns-in-Over-clause-before
returns-in-Over-clause-before g c = rw (← c.self.view_is) (is_connect _ _ _ _)

pub returns-in-Over-clause-after : goal.returns-in-Over-clause-after
returns-in-Over-clause-after g c = rw (← c.self.view_is) (is_connect _ _ _ _)
