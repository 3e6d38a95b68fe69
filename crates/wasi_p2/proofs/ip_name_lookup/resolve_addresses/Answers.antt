use Rattle.std.proofs.Common.{refl}
use Rattle.record_common.proofs.Hosts.{host_none}
use Rattle.wasi_p2.proofs.ip_name_lookup.resolve_addresses.Goals as goal

pub returns-in_err-host-clause-asked : goal.returns-in_err-host-clause-asked
returns-in_err-host-clause-asked g c = host_none c.from_residual-in_err-host.result c.from_residual-in_err-host.ensures.1 refl
