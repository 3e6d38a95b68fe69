use Rattle.wasi_relay.proofs.Going.{went_quits}
use Rattle.wasi_relay.proofs.copying.break_off.Goals as goal

pub returns-in_err-call : goal.returns-in_err-call
returns-in_err-call g c = rw c.in-Failed.is (went_quits _ c.from_residual.result c.from_residual.ensures.0 c.in_err-call.ensures)
