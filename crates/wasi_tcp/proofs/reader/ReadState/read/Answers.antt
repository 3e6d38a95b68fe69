use Rattle.std.proofs.Common.{◌≡◌, false, ◌==◌, arith}
use Rattle.wasi_world.proofs.Walks.{asks_then}
use Rattle.wasi_streams.proofs.Streams.{stream_exit}
use Rattle.wasi_tcp.proofs.Readers.{read_open}
use Rattle.wasi_tcp.proofs.reader.ReadState.read.Goals as goal

pub returns-in_err-answer-clause-asked : goal.returns-in_err-answer-clause-asked
returns-in_err-answer-clause-asked g c =
    let some : (c.args.size == 0) ≡ false = grind (arith, c.if-size-eq0.false) in
    read_open _ _ _ _ c.in-Open.is some (stream_exit _ c.from_residual.result c.from_residual.ensures.1 (rw (← c.in_err-answer.ensures) at c.poll_read.ensures.asked).err)

pub returns-clause-asked : goal.returns-clause-asked
returns-clause-asked g c =
    let some : (c.args.size == 0) ≡ false = grind (arith, c.if-size-eq0.false) in
    read_open _ _ _ _ c.in-Open.is some (asks_then _ (rw (← c.in_ok-answer.ensures) at c.poll_read.ensures.asked).ok (rw c.poll_read.ensures.same at c.after_read.ensures.asked))
