use Rattle.std.proofs.Common.{◌≡◌, false, ◌==◌, arith, refl}
use Rattle.wasi_world.proofs.Walks.{refused_exit, refused_end}
use Rattle.wasi_tcp.proofs.halves.TcpReceiveStream.poll_read.Goals as goal

pub returns-in_err-told-clause-asked : goal.returns-in_err-told-clause-asked
returns-in_err-told-clause-asked g c =
    let some : (c.args.size == 0) ≡ false = grind (arith, c.if-size-eq0.false) in
    rw (some, ← c.min-most.ensures) (refused_exit _ c.from_residual.result c.from_residual.ensures.1 c.in_err-told.ensures.asked.err)

pub returns-clause-asked : goal.returns-clause-asked
returns-clause-asked g c =
    let some : (c.args.size == 0) ≡ false = grind (arith, c.if-size-eq0.false) in
    rw (some, ← c.min-most.ensures) (refused_end _ c.answer.result c.in_ok-told.ensures.asked.ok c.answer.ensures refl)
