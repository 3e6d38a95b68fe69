use Rattle.std.proofs.Common.{take, ◌+◌}
use Rattle.std.specs.Prelude.{slice_get}
use Rattle.wasi_replay.specs.Replayed.{entry}
use Rattle.wasi_replay.proofs.Replaying.{passes_one, take_next, recorded_is, fits_next}
use Rattle.wasi_replay.proofs.replay_world.ReplayWorld.follow.Goals as goal

pub returns-clause-passed : goal.returns-clause-passed
returns-clause-passed g c =
    let was = c.args.self.now in
    let next = entry c.args.op c.args.call.now c.in_ok-told.told in
    passes_one (take was.made was.entries.items) (take (was.made + 1) was.entries.items) was.ended was.closings was.faults c.count_code.new.faults c.args.op c.args.call.now c.in_ok-told.told
    (take_next was.entries.items was.made next (recorded_is (slice_get was.entries.items was.made) c.args.op c.args.call.now c.in_ok-told.told c.requires.next (rw c.as_slice.ensures.value at c.in_ok-told.ensures)))
    c.count_code.ensures

pub returns-clause-fits : goal.returns-clause-fits
returns-clause-fits g c =
    let was = c.args.self.now in
    fits_next g.R.Recorded.recorded was.entries.items was.made c.args.op c.args.call.now c.in_ok-told.told was.fits (was.follows.same c.requires.none)
    (recorded_is (slice_get was.entries.items was.made) c.args.op c.args.call.now c.in_ok-told.told c.requires.next (rw c.as_slice.ensures.value at c.in_ok-told.ensures))
