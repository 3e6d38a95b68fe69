use Rattle.wasi_causes.proofs.Runs.{run_live}
use Rattle.wasi_causes.proofs.blocking.pending_calls_have_their_streams.Goals as goal

pub returns : goal.returns
returns c = λ contexts steps log replies m w. run_live contexts steps log replies m w
