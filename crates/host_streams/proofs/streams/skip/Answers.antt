use Rattle.std.proofs.Common.{refl}
use Rattle.host_streams.proofs.StreamCalls.{none_named}
use Rattle.host_streams.proofs.streams.skip.Goals as goal

pub returns-in_err-input-clause-asked : goal.returns-in_err-input-clause-asked
returns-in_err-input-clause-asked g c =
    rw (c.in_err-input.ensures.none.1, c.in_err-input.ensures.none.0) (none_named _ _ _ c.from_residual.result
    c.from_residual.ensures.1 c.in_err-input.ensures.err refl)
