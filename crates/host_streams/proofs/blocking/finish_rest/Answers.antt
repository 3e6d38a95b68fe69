use Rattle.std.proofs.Common.{refl}
use Rattle.host_streams.proofs.StreamCalls.{none_named}
use Rattle.host_streams.proofs.blocking.finish_rest.Goals as goal

pub returns-in_err-to-clause-asked : goal.returns-in_err-to-clause-asked
returns-in_err-to-clause-asked g c =
    rw (c.in_err-to.ensures.none.1, c.in_err-to.ensures.none.0) (none_named _ _ _ c.from_residual.result
    c.from_residual.ensures.1 c.in_err-to.ensures.err refl)

pub returns-clause-asked : goal.returns-clause-asked
returns-clause-asked g c = rw (← c.in_ok-to.ensures.named.0) c.last_check.ensures.asked
