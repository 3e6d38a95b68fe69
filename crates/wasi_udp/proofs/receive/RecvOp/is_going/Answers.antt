use Rattle.wasi_udp.proofs.Receives.{is_receive}
use Rattle.wasi_udp.proofs.receive.RecvOp.is_going.Goals as goal

pub returns-in-Refused-clause-receive : goal.returns-in-Refused-clause-receive
returns-in-Refused-clause-receive c = rw (← c.self.view_is) (is_receive _ _ _)

pub returns-in-Refused-2-clause-receive : goal.returns-in-Refused-2-clause-receive
returns-in-Refused-2-clause-receive c = rw (← c.self.view_is) (is_receive _ _ _)

pub returns-in-Refused-3-clause-receive : goal.returns-in-Refused-3-clause-receive
returns-in-Refused-3-clause-receive c = rw (← c.self.view_is) (is_receive _ _ _)

pub returns-in-Over-clause-receive : goal.returns-in-Over-clause-receive
returns-in-Over-clause-receive c = rw (← c.self.view_is) (is_receive _ _ _)
