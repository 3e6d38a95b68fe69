use Rattle.std.proofs.Common.{refl}
use Rattle.wasi_world.proofs.Walks.{asks_none}
use Rattle.wasi_replay.proofs.Noting.{asked_noted, handed_on, same_seen}
use Rattle.wasi_replay.proofs.recording_world.RecordingWorldWorld.call.Goals as goal

pub returns-in_err-reserve-clause-asked : goal.returns-in_err-reserve-clause-asked
returns-in_err-reserve-clause-asked g c = asks_none _ _ c.from_residual.ensures.1 (same_seen {old = g.W.World.seen c.args.self.now.inner} c.reserve.ensures.items refl)

pub returns-in_err-noted-clause-asked : goal.returns-in_err-noted-clause-asked
returns-in_err-noted-clause-asked g c = asks_none _ _ c.from_residual-in_err-noted.ensures.1 (same_seen {old = g.W.World.seen c.args.self.now.inner} c.reserve.ensures.items refl)

pub returns-in_err-told-clause-asked : goal.returns-in_err-told-clause-asked
returns-in_err-told-clause-asked g c = asks_none _ _ c.from_residual-in_err-told.ensures.1 (same_seen c.reserve.ensures.items c.in_err-told.ensures.err)

pub returns-clause-asked : goal.returns-clause-asked
returns-clause-asked g c =
    let was = c.args.self.now in
    let asked = c.in_ok-told.ensures.asked in
    asked_noted c.args.op c.args.call c.in_ok-told.told was.log.items c.note.new.log.items was.faults c.note.new.faults (g.W.World.seen was.inner) (g.W.World.seen c.call.new.self) c.note.result asked.ended asked.ok.passed.closings
    (rw (c.reserve.ensures.items, c.in_ok-noted.ensures) at c.note.ensures.log) c.note.ensures.told c.note.ensures.counted (rw c.reserve.ensures.items at c.note.ensures.err) c.note.ensures.uncounted
    c.in_ok-told.ensures.fits

pub returns-in_err-reserve-clause-handed : goal.returns-in_err-reserve-clause-handed
returns-in_err-reserve-clause-handed g c = asks_none _ _ c.from_residual.ensures.1 refl

pub returns-in_err-noted-clause-handed : goal.returns-in_err-noted-clause-handed
returns-in_err-noted-clause-handed g c = asks_none _ _ c.from_residual-in_err-noted.ensures.1 refl

pub returns-in_err-told-clause-handed : goal.returns-in_err-told-clause-handed
returns-in_err-told-clause-handed g c = asks_none _ _ c.from_residual-in_err-told.ensures.1 c.in_err-told.ensures.err

pub returns-clause-handed : goal.returns-clause-handed
returns-clause-handed g c = handed_on c.note.result c.in_ok-told.ensures.asked.ok c.in_ok-told.ensures.asked.ended c.note.ensures.told
