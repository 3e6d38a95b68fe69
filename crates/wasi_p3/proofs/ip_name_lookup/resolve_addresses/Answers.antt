use Rattle.std.proofs.Common.{refl}
use Rattle.host_store.proofs.Bases.{ends_none}
use Rattle.wasi_p3.proofs.ip_name_lookup.resolve_addresses.Goals as goal

pub returns-in_err-host-clause-asked : goal.returns-in_err-host-clause-asked
returns-in_err-host-clause-asked g c = ends_none c.from_residual.result c.from_residual.ensures.1 refl
