use Rattle.wasi_tcp.proofs.TakenBytes.{closed_check}
use Rattle.wasi_tcp.proofs.laws.closed_writers_answer_the_same.Goals as goal

pub returns-clause-check_write : goal.returns-clause-check_write
returns-clause-check_write c = closed_check
