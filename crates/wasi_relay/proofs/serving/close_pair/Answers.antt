use Rattle.wasi_relay.proofs.Going.{went_quits, went_then}
use Rattle.wasi_relay.proofs.serving.close_pair.Goals as goal

pub returns-in_err-close-in-None : goal.returns-in_err-close-in-None
returns-in_err-close-in-None g c = rw c.in-None.is (went_quits _ c.from_residual.result c.from_residual.ensures.0 c.in_err-close-in-None.ensures)

pub returns-in_ok-close-in-None : goal.returns-in_ok-close-in-None
returns-in_ok-close-in-None g c = rw c.in-None.is (went_then _ c.in_ok-close-in-None.ensures c.call.ensures)
