use Rattle.wasi_tcp.proofs.Jobs.{finish_well}
use Rattle.wasi_tcp.proofs.job.WriteJob.finish.Goals as goal

pub returns-in-Some-Ok-clause-asked : goal.returns-in-Some-Ok-clause-asked
returns-in-Some-Ok-clause-asked g c = finish_well _ _ _ _ _ c.end.ensures.told c.in-Some-Ok.is c.in-Some-Ok.field-0-is (rw c.side.ensures at c.shutdown.ensures.asked)
