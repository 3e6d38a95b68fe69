use Rattle.wasi_walks.proofs.received.Runs.{runs_in_order}
use Rattle.wasi_walks.proofs.laws.datagrams_are_handed_out_in_order.Goals as goal

pub returns : goal.returns
returns c = λ contexts steps log replies side h. runs_in_order contexts side steps log replies h
