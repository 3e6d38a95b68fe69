use Rattle.std.proofs.Common.{inr}
use Rattle.wasi_net.specs.Known.{known_sides}
use Rattle.wasi_net.specs.Owned.{Owned}
use Rattle.wasi_net.proofs.Keeping.{network_keeps, no_memory_keeps}
use Rattle.wasi_net.proofs.system_world.SystemWorld.ask.Goals as goal

pub returns-in_err-told-clause-owned : goal.returns-in_err-told-clause-owned
returns-in_err-told-clause-owned g c = λ h.
    let moved : Owned (known_sides c.reserve.new.self.sides) (g.S.System.acts c.reserve.new.self.system) = rw (c.reserve.ensures.sides, c.reserve.ensures.system) h in
    no_memory_keeps (known_sides c.reserve.new.self.sides) c.args.call.now _ _ _ c.in_err-told.ensures.err (inr c.in_err-told.ensures.undone) moved

pub returns-clause-owned : goal.returns-clause-owned
returns-clause-owned g c = λ h.
    let moved : Owned (known_sides c.reserve.new.self.sides) (g.S.System.acts c.reserve.new.self.system) = rw (c.reserve.ensures.sides, c.reserve.ensures.system) h in
    rw (c.note_call.ensures.sides, c.note_call.ensures.system)
    (network_keeps _ _ (known_sides c.reserve.new.self.sides) c.args.op c.args.call.now _ _ _ _ c.in_ok-told.ensures.does moved)
