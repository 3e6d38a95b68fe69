use Rattle.std.proofs.Common.{◌≡◌, false, rules, tests}
use Rattle.wasi_relay.specs.Pair.{has_open}
use Rattle.wasi_relay.proofs.Going.{went_quits, went_then, went_give}
use Rattle.wasi_relay.proofs.serving.end_if_done.Goals as goal

pub returns-in_err-close_pair : goal.returns-in_err-close_pair
returns-in_err-close_pair g c =
    let done : has_open c.args.pair ≡ false = search (rules, tests) in
    rw (done, ← c.peer.ensures) (went_quits _ c.from_residual.result c.from_residual.ensures.0 c.in_err-close_pair.ensures)

pub returns : goal.returns
returns g c =
    let done : has_open c.args.pair ≡ false = search (rules, tests) in
    rw (done, ← c.peer.ensures, c.at_stage.ensures) (went_then _ c.in_ok-close_pair.ensures (went_give _))
