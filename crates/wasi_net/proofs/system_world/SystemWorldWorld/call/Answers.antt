use Rattle.std.proofs.Common.{Ok, refl}
use Rattle.wasi_world.proofs.Made.{asked_one}
use Rattle.wasi_world.proofs.Walks.{asks_none}
use Rattle.wasi_net.proofs.Counted.{passes_seen}
use Rattle.wasi_net.proofs.system_world.SystemWorldWorld.call.Goals as goal

pub returns-in_err-told-clause-asked : goal.returns-in_err-told-clause-asked
returns-in_err-told-clause-asked g c = asks_none _ _ c.from_residual.ensures.1 c.in_err-told.ensures.seen

pub returns-clause-asked : goal.returns-clause-asked
returns-clause-asked g c =
    asked_one c.args.op c.args.call _ _ (Ok c.in_ok-told.told) (passes_seen _ _ _ _ refl refl c.in_ok-told.ensures.seen c.count.ensures.same c.count.ensures.counts) c.in_ok-told.ensures.fits tt
