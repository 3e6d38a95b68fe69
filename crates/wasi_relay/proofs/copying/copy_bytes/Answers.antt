use Rattle.std.proofs.Common.{◌≡◌, ◌==◌, length, false, rules, tests}
use Rattle.wasi_relay.proofs.Going.{went_quits, went_never}
use Rattle.wasi_relay.proofs.copying.copy_bytes.Goals as goal

pub returns-in_err-copy_of : goal.returns-in_err-copy_of
returns-in_err-copy_of g c = went_never _ c.from_residual.result c.from_residual.ensures.0

pub returns-in_err-reply : goal.returns-in_err-reply
returns-in_err-reply g c =
    let some : (length c.args.bytes.now == 0) ≡ false = search (rules, tests) in
    rw (some, ← c.in_ok-copy_of.ensures) (went_quits _ c.from_residual-in_err-reply.result c.from_residual-in_err-reply.ensures.0 c.in_err-reply.ensures)
