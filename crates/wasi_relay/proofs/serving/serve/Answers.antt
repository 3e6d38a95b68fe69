use Rattle.wasi_relay.specs.Serving.{over_at_end}
use Rattle.wasi_relay.proofs.Going.{went_quits, went_then}
use Rattle.wasi_relay.proofs.Each.{at_connecting, at_connected}
use Rattle.wasi_relay.proofs.serving.serve.Goals as goal

pub returns-in_err-pair-in-Connecting : goal.returns-in_err-pair-in-Connecting
returns-in_err-pair-in-Connecting g c =
    at_connecting _ c.args.pair _ c.in-Connecting.is (went_quits over_at_end c.from_residual.result c.from_residual.ensures.0 c.in_err-pair-in-Connecting.ensures)

pub returns-in_err-pair-in-Connected : goal.returns-in_err-pair-in-Connected
returns-in_err-pair-in-Connected g c =
    at_connected _ _ c.args.pair _ c.in-Connected.is (went_quits over_at_end c.from_residual-in_err-pair-in-Connected.result c.from_residual-in_err-pair-in-Connected.ensures.0 c.in_err-pair-in-Connected.ensures)

pub returns-in_ok-pair-in-Connecting : goal.returns-in_ok-pair-in-Connecting
returns-in_ok-pair-in-Connecting g c = at_connecting _ c.args.pair _ c.in-Connecting.is (went_then over_at_end c.in_ok-pair-in-Connecting.ensures c.end_if_done.ensures)

pub returns-in_ok-pair-in-Connected : goal.returns-in_ok-pair-in-Connected
returns-in_ok-pair-in-Connected g c = at_connected _ _ c.args.pair _ c.in-Connected.is (went_then over_at_end c.in_ok-pair-in-Connected.ensures c.end_if_done-in-Connected.ensures)
