use Rattle.wasi_relay.proofs.Going.{went_quits, went_then}
use Rattle.wasi_relay.proofs.serving.close_both.Goals as goal

pub returns-in_err-shut_down : goal.returns-in_err-shut_down
returns-in_err-shut_down g c = went_quits _ c.from_residual.result c.from_residual.ensures.0 c.in_err-shut_down.ensures

pub returns-in_err-shut_down-2 : goal.returns-in_err-shut_down-2
returns-in_err-shut_down-2 g c = went_then _ c.in_ok-shut_down.ensures (went_quits _ c.from_residual-in_err-shut_down-2.result c.from_residual-in_err-shut_down-2.ensures.0 c.in_err-shut_down-2.ensures)

pub returns-in_err-drop_all : goal.returns-in_err-drop_all
returns-in_err-drop_all g c =
    went_then _ c.in_ok-shut_down.ensures (went_then _ c.in_ok-shut_down-2.ensures (went_quits _ c.from_residual-in_err-drop_all.result c.from_residual-in_err-drop_all.ensures.0 c.in_err-drop_all.ensures))

pub returns : goal.returns
returns g c =
    went_then _ c.in_ok-shut_down.ensures (went_then _ c.in_ok-shut_down-2.ensures (went_then _ c.in_ok-drop_all.ensures c.drop_all-2.ensures))
