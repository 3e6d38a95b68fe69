use Rattle.wasi_causes.proofs.Runs.{runs_bind}
use Rattle.wasi_causes.proofs.pending_calls.runs_keep_their_pending_calls.Goals as goal

pub returns : goal.returns
returns c = runs_bind
