use Rattle.std.proofs.Common.{refl}
use Rattle.record_common.proofs.Hosts.{fault_none}
use Rattle.host_streams.proofs.plain_streams.input_pipe.Goals as goal

pub returns-in_err-chunk-clause-asked : goal.returns-in_err-chunk-clause-asked
returns-in_err-chunk-clause-asked g c = fault_none c.from_residual.result c.from_residual.ensures.1 refl
