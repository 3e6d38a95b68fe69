use Rattle.wasi_relay.proofs.Going.{went_quits, went_then}
use Rattle.wasi_relay.proofs.serving.drop_all.Goals as goal

pub returns-in_err-call : goal.returns-in_err-call
returns-in_err-call g c = went_quits _ c.from_residual.result c.from_residual.ensures.0 c.in_err-call.ensures

pub returns-in_err-call-2 : goal.returns-in_err-call-2
returns-in_err-call-2 g c = went_then _ c.in_ok-call.ensures (went_quits _ c.from_residual-in_err-call-2.result c.from_residual-in_err-call-2.ensures.0 c.in_err-call-2.ensures)

pub returns : goal.returns
returns g c = went_then _ c.in_ok-call.ensures (went_then _ c.in_ok-call-2.ensures c.call-3.ensures)
