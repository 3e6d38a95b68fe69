use Rattle.wasi_causes.proofs.stream_calls.errors_are_marked_with_their_socket.Goals as goal
use Rattle.wasi_causes.proofs.streams.ErrorMarks.{failed_check, failed_flush, failed_read, failed_write}

pub returns : goal.returns
returns c = record {
  read = λ contexts m line ctx stream len entries word handle after. failed_read contexts m line stream entries word handle after ctx len;
  check = λ contexts m line ctx stream entries word handle after. failed_check contexts m line stream entries word handle after ctx;
  write = λ contexts m line ctx stream bytes entries word handle after. failed_write contexts m line stream entries word handle after ctx bytes;
  flush = λ contexts m line ctx stream entries word handle after. failed_flush contexts m line stream entries word handle after ctx;
}
