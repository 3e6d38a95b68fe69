use Rattle.wasi_causes.proofs.handed_bytes.what_reads_nothing_is_told_nothing.Goals as goal
use Rattle.wasi_causes.proofs.reads.Polls.{no_stream}
use Rattle.wasi_causes.proofs.reads.Steps.{poll_told, step_told}

pub returns : goal.returns
returns c = record {
  step = λ contexts m line s side entries reply after n a. step_told contexts m line s entries reply after side n a;
  polled = λ contexts m line n side entries reply after free a. poll_told contexts m line n entries reply after side (no_stream m free) a;
}
