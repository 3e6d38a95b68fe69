use Rattle.std.proofs.Common.{Ok, refl}
use Rattle.wasi_world.specs.declared.call.Call.TheVariants.{Send}
use Rattle.wasi_world.proofs.Made.{asked_one}
use Rattle.wasi_world.proofs.Walks.{asks_none}
use Rattle.wasi_net.proofs.Counted.{passes_one}
use Rattle.wasi_net.specs.Known.{known_sides}
use Rattle.wasi_net.specs.Owned.{Owned}
use Rattle.wasi_net.proofs.Keeping.{send_keeps}
use Rattle.wasi_net.proofs.system_world.SystemWorldWorld.send.Goals as goal

pub returns-in_err-reserve-clause-asked : goal.returns-in_err-reserve-clause-asked
returns-in_err-reserve-clause-asked g c = asks_none _ _ c.from_residual.ensures.1 refl

pub returns-clause-asked : goal.returns-clause-asked
returns-clause-asked g c =
    asked_one c.args.op (Send c.args.sock c.args.addr c.args.bytes.now) _ _ (Ok _) (passes_one _ _ _ _ _ c.count_after-self.ensures) c.send-told.ensures.fits tt

pub returns-clause-owned : goal.returns-clause-owned
returns-clause-owned g c = λ h.
    let moved : Owned (known_sides c.reserve.new.self.sides) (g.S.System.acts c.reserve.new.self.system) = rw (c.reserve.ensures.sides, c.reserve.ensures.system) h in
    rw (c.note.ensures.sides, c.note.ensures.system)
    (send_keeps c.args.sock c.args.addr c.args.bytes.now _ (known_sides c.reserve.new.self.sides) _ _ _ _ c.send-told.ensures.does moved)
