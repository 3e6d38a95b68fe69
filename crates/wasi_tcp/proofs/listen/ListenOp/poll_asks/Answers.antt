use Rattle.std.proofs.Common.{refl}
use Rattle.wasi_world.proofs.Polls.{polls_over}
use Rattle.wasi_tcp.proofs.Listens.{is_listen}
use Rattle.wasi_tcp.proofs.listen.ListenOp.poll_asks.Goals as goal

pub returns-in-Over-clause-polled : goal.returns-in-Over-clause-polled
returns-in-Over-clause-polled g c = rw (← c.self.view_is, c.in-Over.is) (polls_over _ refl)

pub returns-in-Local-clause-before : goal.returns-in-Local-clause-before
returns-in-Local-clause-before g c = rw (← c.self.view_is) (is_listen _ _ _ _)

pub returns-in-Local-clause-after : goal.returns-in-Local-clause-after
returns-in-Local-clause-after g c = is_listen _ _ _ _

pub returns-in-CheckTold-clause-before : goal.returns-in-CheckTold-clause-before
returns-in-CheckTold-clause-before g c = rw (← c.self.view_is) (is_listen _ _ _ _)

pub returns-in-CheckTold-clause-after : goal.returns-in-CheckTold-clause-after
returns-in-CheckTold-clause-after g c = is_listen _ _ _ _

pub returns-in-CheckBind-clause-before : goal.returns-in-CheckBind-clause-before
returns-in-CheckBind-clause-before g c = rw (← c.self.view_is) (is_listen _ _ _ _)

pub returns-in-CheckBind-clause-after : goal.returns-in-CheckBind-clause-after
returns-in-CheckBind-clause-after g c = is_listen _ _ _ _

pub returns-in-CheckListen-clause-before : goal.returns-in-CheckListen-clause-before
returns-in-CheckListen-clause-before g c = rw (← c.self.view_is) (is_listen _ _ _ _)

pub returns-in-CheckListen-clause-after : goal.returns-in-CheckListen-clause-after
returns-in-CheckListen-clause-after g c = is_listen _ _ _ _

pub returns-in-Bind-clause-before : goal.returns-in-Bind-clause-before
returns-in-Bind-clause-before g c = rw (← c.self.view_is) (is_listen _ _ _ _)

pub returns-in-Bind-clause-after : goal.returns-in-Bind-clause-after
returns-in-Bind-clause-after g c = is_listen _ _ _ _

pub returns-in-Listen-clause-before : goal.returns-in-Listen-clause-before
returns-in-Listen-clause-before g c = rw (← c.self.view_is) (is_listen _ _ _ _)

pub returns-in-Listen-clause-after : goal.returns-in-Listen-clause-after
returns-in-Listen-clause-after g c = is_listen _ _ _ _

pub returns-in-Close-clause-before : goal.returns-in-Close-clause-before
returns-in-Close-clause-before g c = rw (← c.self.view_is) (is_listen _ _ _ _)

pub returns-in-Close-clause-after : goal.returns-in-Close-clause-after
returns-in-Close-clause-after g c = is_listen _ _ _ _

pub returns-in-Over-clause-before : goal.returns-in-Over-clause-before
returns-in-Over-clause-before g c = rw (← c.self.view_is) (is_listen _ _ _ _)

pub returns-in-Over-clause-after : goal.returns-in-Over-clause-after
returns-in-Over-clause-after g c = rw (← c.self.view_is) (is_listen _ _ _ _)
