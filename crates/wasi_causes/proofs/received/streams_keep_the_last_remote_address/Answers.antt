use Rattle.wasi_causes.proofs.received.streams_keep_the_last_remote_address.Goals as goal
use Rattle.wasi_causes.proofs.receiving.Runs.{runs_keep_remotes}

pub returns : goal.returns
returns c = λ contexts steps log replies m handle place w kind. runs_keep_remotes handle contexts steps log replies m w
    place kind
