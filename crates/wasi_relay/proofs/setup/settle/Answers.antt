use Rattle.wasi_relay.specs.Setup.{after_call, with_left}
use Rattle.wasi_relay.proofs.Going.{went_stop}
use Rattle.wasi_relay.proofs.Settling.{stop_is}
use Rattle.wasi_relay.proofs.setup.settle.Goals as goal

pub returns-in_err-reply : goal.returns-in_err-reply
returns-in_err-reply g c =
    rw (stop_is (with_left c.args.left.now) c.in_err-reply.field-0.0 c.from_residual.result c.from_residual.ensures.1) (went_stop (after_call c.args.left.now) c.in_err-reply.ensures)
