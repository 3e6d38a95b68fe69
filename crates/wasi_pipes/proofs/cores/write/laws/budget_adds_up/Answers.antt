use Rattle.wasi_pipes.proofs.WriteLaws.{adds_up}
use Rattle.wasi_pipes.proofs.cores.write.laws.budget_adds_up.Goals as goal

pub returns : goal.returns
returns c = adds_up
