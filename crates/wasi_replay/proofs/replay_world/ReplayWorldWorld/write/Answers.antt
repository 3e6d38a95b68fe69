use Rattle.std.proofs.Common.{length, refl}
use Rattle.std.specs.Prelude.{slice_get}
use Rattle.wasi_replay.proofs.Replaying.{asked_write_by, asked_nothing, front_is, front_at, written_next}
use Rattle.wasi_world.specs.Asks.{one_write}
use Rattle.wasi_world.specs.declared.call.Call.TheVariants.{Write}
use Rattle.wasi_replay.proofs.replay_world.ReplayWorldWorld.write.Goals as goal

pub returns-then-not-is_next-clause-asked : goal.returns-then-not-is_next-clause-asked
returns-then-not-is_next-clause-asked g c =
    asked_write_by c.args.op c.args.sock c.args.bytes.now c.depart.result c.depart.ensures.passed c.depart.ensures.fits
    (front_is c.args.bytes.now c.unrecorded-told.result c.depart.result c.depart.ensures.told (rw c.unrecorded-told.ensures.value tt)) c.depart.ensures.err

pub other_front-requires : goal.other_front-requires
other_front-requires g c =
    let was = c.args.self.now in
    rw c.as_slice.ensures.value (written_next g.R.Recorded.recorded was.entries.items was.made c.args.op c.args.sock (length c.args.bytes.now) was.fits (was.follows.same (c.is_next.ensures.yes c.if-not-is_next.false).0) (c.is_next.ensures.yes c.if-not-is_next.false).1)

pub returns-in-Ok-Some-clause-asked : goal.returns-in-Ok-Some-clause-asked
returns-in-Ok-Some-clause-asked g c =
    let departed = c.depart-in-Ok-Some in
    asked_write_by c.args.op c.args.sock c.args.bytes.now departed.result departed.ensures.passed departed.ensures.fits
    (front_is c.args.bytes.now c.in-Ok-Some.told departed.result departed.ensures.told (rw c.in-Ok-Some.field-0-is at c.in-Ok-Some.ensures.front)) departed.ensures.err

pub returns-in-Ok-None-clause-asked : goal.returns-in-Ok-None-clause-asked
returns-in-Ok-None-clause-asked g c =
    let was = c.args.self.now in
    asked_write_by c.args.op c.args.sock c.args.bytes.now c.follow.result c.follow.ensures.passed c.follow.ensures.fits
    (front_at c.args.bytes.now c.args.op (Write c.args.sock (length c.args.bytes.now)) (slice_get was.entries.items was.made) c.follow.result c.follow.ensures.told (rw c.as_slice.ensures.value at ((rw c.in-Ok-None.field-0-is at c.in-Ok-None.ensures.none) refl))) c.follow.ensures.err

pub returns-in-Err-clause-asked : goal.returns-in-Err-clause-asked
returns-in-Err-clause-asked g c = asked_nothing (one_write c.args.op c.args.sock c.args.bytes.now) c.in-Err.e refl
