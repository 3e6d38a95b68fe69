use Rattle.wasi_causes.proofs.Runs.{runs_connect, runs_watch}
use Rattle.wasi_causes.proofs.tcp.runs_connect_by_connects.Goals as goal

pub returns : goal.returns
returns c = record { handles = runs_connect; pollables = runs_watch }
