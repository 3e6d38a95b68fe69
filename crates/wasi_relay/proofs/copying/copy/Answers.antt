use Rattle.std.proofs.Common.{◌≡◌, true, rules, tests}
use Rattle.wasi_relay.specs.Pair.{is_open}
use Rattle.wasi_relay.proofs.Going.{went_quits}
use Rattle.wasi_relay.proofs.copying.copy.Goals as goal

pub returns-in_err-reply : goal.returns-in_err-reply
returns-in_err-reply g c =
    let open_ : is_open c.args.flow.end ≡ true = search (rules, tests) in
    rw open_ (went_quits _ c.from_residual.result c.from_residual.ensures.0 c.in_err-reply.ensures)
