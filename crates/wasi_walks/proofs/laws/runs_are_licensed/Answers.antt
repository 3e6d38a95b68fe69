use Rattle.wasi_walks.proofs.licence.Runs.{begun_licensed, runs_licensed}
use Rattle.wasi_walks.proofs.laws.runs_are_licensed.Goals as goal

pub returns : goal.returns
returns c = record { begun = begun_licensed; answered = runs_licensed }
