use Rattle.wasi_causes.proofs.p3_datagrams.runs_keep_their_datagrams.Goals as goal
use Rattle.wasi_causes.proofs.Fitted.{receives_on, runs_fit, sends_on}

pub returns : goal.returns
returns c = record {
  sends = λ contexts steps log replies m n place op w is.
      sends_on m (runs_fit contexts steps log replies m w) n place op is;
  receives = λ contexts steps log replies m n place op w is.
      receives_on m (runs_fit contexts steps log replies m w) n place op is;
}
