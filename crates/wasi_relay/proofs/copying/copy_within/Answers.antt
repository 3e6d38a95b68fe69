use Rattle.std.proofs.Common.{◌≡◌, ◌==◌, false, rules, tests}
use Rattle.wasi_relay.proofs.Going.{went_quits}
use Rattle.wasi_relay.proofs.copying.copy_within.Goals as goal

pub returns-in_err-reply : goal.returns-in_err-reply
returns-in_err-reply g c =
    let some : (c.args.permit == 0) ≡ false = search (rules, tests) in
    rw (some, ← c.min.ensures) (went_quits _ c.from_residual.result c.from_residual.ensures.0 c.in_err-reply.ensures)
