use Rattle.wasi_causes.proofs.handed_bytes.reads_hand_out_what_they_were_told.Goals as goal
use Rattle.wasi_causes.proofs.streams.ReadsInRuns.{blocking_so, polled_so, read_so}

pub returns : goal.returns
returns c = record {
  read = λ contexts steps log replies m line ctx input len b bytes entries after w a. read_so contexts steps log replies
      m w line ctx input len b bytes entries after a;
  blocking_read = λ contexts steps log replies m line ctx input len b bytes entries after w a. blocking_so contexts
      steps log replies m w line ctx input len b bytes entries after a;
  polled = λ contexts steps log replies m line n ctx input len b bytes entries after w began a. polled_so contexts steps
      log replies m w line n ctx input len b bytes began entries after a;
}
