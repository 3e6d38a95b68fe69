use Rattle.wasi_relay.proofs.Going.{went_quits, went_then}
use Rattle.wasi_relay.proofs.serving.close.Goals as goal

pub returns-in_err-shut_down : goal.returns-in_err-shut_down
returns-in_err-shut_down g c = went_quits _ c.from_residual.result c.from_residual.ensures.0 c.in_err-shut_down.ensures

pub returns : goal.returns
returns g c = went_then _ c.in_ok-shut_down.ensures c.drop_all.ensures
