use Rattle.std.proofs.Common.{refl}
use Rattle.wasi_world.proofs.Walks.{asks_none}
use Rattle.wasi_world.specs.Typed.{ask_lookup}
use Rattle.lookup_records.proofs.NameLookups.{calm_lookup}
use Rattle.record_common.proofs.SideCounts.{none_calm}
use Rattle.lookup_records.proofs.name_lookup.LookupOp.poll.Goals as goal

pub returns-in_err-host-clause-asked : goal.returns-in_err-host-clause-asked
returns-in_err-host-clause-asked g c = asks_none _ (ask_lookup c.args.self.now.id c.args.self.now.host) c.from_residual.ensures.1 refl

pub returns-clause-none : goal.returns-clause-none
returns-clause-none g c = none_calm (calm_lookup c.args.self.now.id c.in_ok-host.host) _ c.lookup.ensures.asked
