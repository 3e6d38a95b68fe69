use Rattle.wasi_laws.proofs.receivers.Law.{runs_receive_on_one}
use Rattle.wasi_laws.proofs.receives.operations_receive_on_one_socket.Goals as goal

pub returns : goal.returns
returns c = runs_receive_on_one
