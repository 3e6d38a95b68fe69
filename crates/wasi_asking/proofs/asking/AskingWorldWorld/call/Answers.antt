use Rattle.std.proofs.Common.{Ok, ap}
use Rattle.wasi_world.proofs.Made.{asked_one}
use Rattle.wasi_world.proofs.Walks.{asks_none}
use Rattle.wasi_asking.proofs.Unlogged.{passes_unlogged}
use Rattle.wasi_asking.proofs.asking.AskingWorldWorld.call.Goals as goal

pub returns-in_err-told-clause-asked : goal.returns-in_err-told-clause-asked
returns-in_err-told-clause-asked g c = asks_none _ _ c.from_residual.ensures.1 (ap g.W.World.seen c.refusal.ensures.inner)

pub returns-in-Some-clause-asked : goal.returns-in-Some-clause-asked
returns-in-Some-clause-asked g c =
    asked_one c.args.op c.args.call _ _ (Ok c.in-Some.told) (passes_unlogged _ _ _ c.args.self.now.silent (ap g.W.World.seen c.refusal.ensures.inner) ((rw c.in-Some.is at c.in_ok-told.ensures.uncounted) _)) (rw c.in-Some.is at c.in_ok-told.ensures.fits) tt
