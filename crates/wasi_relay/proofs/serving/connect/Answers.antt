use Rattle.wasi_relay.proofs.Going.{went_quits}
use Rattle.wasi_relay.proofs.serving.connect.Goals as goal

pub returns-in_err-reply : goal.returns-in_err-reply
returns-in_err-reply g c = went_quits _ c.from_residual.result c.from_residual.ensures.0 c.in_err-reply.ensures
