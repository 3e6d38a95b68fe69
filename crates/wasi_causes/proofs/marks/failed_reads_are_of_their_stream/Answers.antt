use Rattle.wasi_causes.proofs.marks.failed_reads_are_of_their_stream.Goals as goal
use Rattle.wasi_causes.proofs.streams.MarksInRuns.{blocking_failed_so, failed_so, polled_failed_so}

pub returns : goal.returns
returns c = record {
  read = λ contexts steps log replies m line ctx stream len entries word handle after w a. failed_so contexts steps log
      replies m w line ctx stream len entries word handle after a;
  blocking_read = λ contexts steps log replies m line ctx stream len entries word handle after w a. blocking_failed_so
      contexts steps log replies m w line ctx stream len entries word handle after a;
  polled = λ contexts steps log replies m line stream len ids entries word handle after w stands a. polled_failed_so
      contexts steps log replies m w line stream len ids entries word handle after stands a;
}
