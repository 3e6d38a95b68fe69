use Rattle.std.proofs.Common.{sym}
use Rattle.wasi_pipes.proofs.WriteStands.{follows_wrote}
use Rattle.wasi_pipes.proofs.cores.write.WriteCore.wrote.Goals as goal

pub returns-in-Some-clause-follows : goal.returns-in-Some-clause-follows
returns-in-Some-clause-follows c = rw (← c.self.view_is, c.take.ensures.after) (follows_wrote _ c.in-Some.len (sym c.in-Some.ensures.value))
