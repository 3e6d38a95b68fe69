use Rattle.udp_records.proofs.UdpPolls.{create_closes}
use Rattle.udp_records.proofs.udp.PendingCreate.cancel.Goals as goal

pub returns-clause-closed : goal.returns-clause-closed
returns-clause-closed g c = rw (← c.self.view_is) (create_closes c.self.inside.create c.cancel.result c.self.invariant c.cancel.ensures.asked)
