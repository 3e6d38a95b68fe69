use Rattle.wasi_relay.proofs.Going.{went_quits}
use Rattle.wasi_relay.proofs.copying.after_read.Goals as goal

pub returns-in_err-call-in-Closed : goal.returns-in_err-call-in-Closed
returns-in_err-call-in-Closed g c = rw c.in-Closed.is (went_quits _ c.from_residual.result c.from_residual.ensures.0 c.in_err-call-in-Closed.ensures)
