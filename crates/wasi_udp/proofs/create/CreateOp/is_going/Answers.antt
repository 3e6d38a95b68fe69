use Rattle.std.proofs.Common.{rules}
use Rattle.wasi_udp.proofs.Creates.{is_create}
use Rattle.wasi_udp.proofs.create.CreateOp.is_going.Goals as goal

pub returns-in-Writable : goal.returns-in-Writable
returns-in-Writable c = record { going = search rules; create = rw (← c.self.view_is) (is_create _ _) }

pub returns-in-Over-clause-create : goal.returns-in-Over-clause-create
returns-in-Over-clause-create c = rw (← c.self.view_is) (is_create _ _)
