use Rattle.wasi_causes.proofs.handed_bytes.reads_hand_out_all_they_were_told.Goals as goal
use Rattle.wasi_causes.proofs.reads.Reads.{its_told, others_told}

pub returns : goal.returns
returns c = record {
  its = λ contexts steps log replies m line ctx input len side entries reply after w a s. its_told contexts steps log replies m w line ctx input len side entries reply after a s;
  others = λ contexts steps log replies m line ctx input len side entries reply after w a n. others_told contexts steps log replies m w line ctx input len side entries reply after a n;
}
