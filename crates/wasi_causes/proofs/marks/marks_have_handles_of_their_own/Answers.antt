use Rattle.wasi_causes.proofs.marks.marks_have_handles_of_their_own.Goals as goal
use Rattle.wasi_causes.proofs.Runs.{runs_accept}
use Rattle.wasi_causes.proofs.streams.MarksInRuns.{accept_so, marks_rise}

pub returns : goal.returns
returns c = record {
  rise = marks_rise;
  accepted = λ contexts steps log replies m line ctx listener fields entries after w a. accept_so contexts steps log
      replies m w line ctx listener fields entries after (runs_accept contexts steps log replies m w listener) a;
}
