use Rattle.wasi_causes.proofs.received.streams_hand_out_all_they_received.Goals as goal
use Rattle.wasi_causes.proofs.receiving.Runs.{runs_hand_out_fronts, runs_receive_all}

pub returns : goal.returns
returns c = record {
  live = λ contexts steps log replies m handle place w kind. runs_receive_all handle contexts steps log replies m w place kind;
  any = λ contexts steps log replies m handle w. runs_hand_out_fronts handle contexts steps log replies m w;
}
