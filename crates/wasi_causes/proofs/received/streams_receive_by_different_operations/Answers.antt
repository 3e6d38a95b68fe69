use Rattle.wasi_causes.proofs.received.streams_receive_by_different_operations.Goals as goal
use Rattle.wasi_causes.proofs.receiving.Apart.{runs_receive_apart}

pub returns : goal.returns
returns c = λ contexts steps log replies m first second w not. runs_receive_apart contexts steps log replies m first
    second w not
