use Rattle.wasi_relay.proofs.Going.{went_quits, went_then, went_give}
use Rattle.wasi_relay.proofs.serving.serve_both.Goals as goal

pub returns-in_err-up : goal.returns-in_err-up
returns-in_err-up g c = went_quits _ c.from_residual.result c.from_residual.ensures.0 c.in_err-up.ensures

pub returns-in_err-down : goal.returns-in_err-down
returns-in_err-down g c = went_then _ c.in_ok-up.ensures (went_quits _ c.from_residual-in_err-down.result c.from_residual-in_err-down.ensures.0 c.in_err-down.ensures)

pub returns : goal.returns
returns g c = rw c.after_copies.ensures (went_then _ c.in_ok-up.ensures (went_then _ c.in_ok-down.ensures (went_give _)))
