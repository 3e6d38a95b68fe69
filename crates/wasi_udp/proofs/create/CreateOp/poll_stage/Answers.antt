use Rattle.wasi_udp.proofs.Creates.{is_create}
use Rattle.wasi_udp.proofs.create.CreateOp.poll_stage.Goals as goal

pub returns-in-Writable-clause-before : goal.returns-in-Writable-clause-before
returns-in-Writable-clause-before g c = rw (← c.self.view_is) (is_create _ _)

pub returns-in-Writable-clause-after : goal.returns-in-Writable-clause-after
returns-in-Writable-clause-after g c = is_create _ _

pub returns-in-Close-clause-before : goal.returns-in-Close-clause-before
returns-in-Close-clause-before g c = rw (← c.self.view_is) (is_create _ _)

pub returns-in-Close-clause-after : goal.returns-in-Close-clause-after
returns-in-Close-clause-after g c = is_create _ _
