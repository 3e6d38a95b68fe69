use Rattle.wasi_relay.proofs.Going.{went_one}
use Rattle.wasi_relay.proofs.calls.step.Goals as goal

pub returns : goal.returns
returns g c = went_one c.args.step c.step.result c.step.ensures.did c.step.ensures.contexts
