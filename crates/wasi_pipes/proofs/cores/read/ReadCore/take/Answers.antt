use Rattle.std.proofs.Common.{sym}
use Rattle.wasi_pipes.proofs.ReadStands.{follows_taken}
use Rattle.wasi_pipes.proofs.cores.read.ReadCore.take.Goals as goal

pub returns-in-Some-clause-follows : goal.returns-in-Some-clause-follows
returns-in-Some-clause-follows c = rw (← c.self.view_is, c.take.ensures.after) (follows_taken _ c.in-Some.len (sym c.in-Some.ensures.value))
