use Rattle.std.proofs.Common.{refl}
use Rattle.wasi_world.proofs.Walks.{asks_typed, asks_none}
use Rattle.wasi_world.proofs.asks.hand.Goals as goal

pub returns-in_err-call-clause-asked : goal.returns-in_err-call-clause-asked
returns-in_err-call-clause-asked g c = asks_none _ _ c.from_residual.ensures.1 c.in_err-call.ensures.err

pub returns-clause-asked : goal.returns-clause-asked
returns-clause-asked g c = asks_typed (λ told. tt) c.in_ok-call.ensures.asked.ok refl
