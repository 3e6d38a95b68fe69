use Rattle.std.proofs.Common.{rules}
use Rattle.wasi_tcp.proofs.Bounds.{is_write}
use Rattle.wasi_tcp.proofs.job.WriteJob.end.Goals as goal

pub returns-in-Write : goal.returns-in-Write
returns-in-Write c = record { told = search rules; write = rw (← c.self.view_is) (is_write _ _ _ _ _) }

pub returns-in-Written-clause-write : goal.returns-in-Written-clause-write
returns-in-Written-clause-write c = rw (← c.self.view_is) (is_write _ _ _ _ _)

pub returns-in-Failed-clause-write : goal.returns-in-Failed-clause-write
returns-in-Failed-clause-write c = rw (← c.self.view_is) (is_write _ _ _ _ _)
