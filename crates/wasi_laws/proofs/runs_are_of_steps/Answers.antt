use Rattle.wasi_laws.proofs.permits.Steps.{runs_of_steps}
use Rattle.wasi_laws.proofs.runs_are_of_steps.Goals as goal

pub returns : goal.returns
returns c = runs_of_steps
