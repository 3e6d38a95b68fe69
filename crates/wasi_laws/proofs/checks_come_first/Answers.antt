use Rattle.wasi_laws.proofs.order.Law.{runs_ordered}
use Rattle.wasi_laws.proofs.checks_come_first.Goals as goal

pub returns : goal.returns
returns c = λ contexts steps log rest w op. runs_ordered op contexts steps log rest w
