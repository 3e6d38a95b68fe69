use Rattle.wasi_laws.proofs.permits.Runs.{runs_let, runs_let_begun}
use Rattle.wasi_laws.proofs.taken_is_permitted.Goals as goal

pub returns : goal.returns
returns c = record { done = runs_let; begun = runs_let_begun }
