use Rattle.wasi_causes.proofs.Runs.{runs_accept, runs_accept3, runs_watch_accept}
use Rattle.wasi_causes.proofs.listens.runs_accept_by_accepts.Goals as goal

pub returns : goal.returns
returns c = record { handles = runs_accept; listeners = runs_accept3; pollables = runs_watch_accept }
