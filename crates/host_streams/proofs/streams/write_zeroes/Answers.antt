use Rattle.std.proofs.Common.{refl}
use Rattle.host_streams.proofs.Blocks.{call_none}
use Rattle.host_streams.proofs.streams.write_zeroes.Goals as goal

pub returns-in_err-bytes-clause-asked : goal.returns-in_err-bytes-clause-asked
returns-in_err-bytes-clause-asked g c = call_none c.from_residual.result c.from_residual.ensures.1 refl
