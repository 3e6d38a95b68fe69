use Rattle.std.proofs.Common.{◌∙◌}
use Rattle.wasi_world.proofs.Walks.{reaches_then, asks_ok}
use Rattle.wasi_tcp.specs.Job.{writer}
use Rattle.wasi_tcp.proofs.Jobs.{fits_left, takes_at, waits_at, fails_at}
use Rattle.wasi_tcp.proofs.job.write_rest.Goals as goal

pub loop-place-preserved : goal.loop-place-preserved
loop-place-preserved g c =
    let taken = rw c.in-Ready.is at c.in_ok-count.ensures.within in
    record {
      within = fits_left _ _ _ c.loop-place-test.true taken.1;
      reached = reaches_then c.loop-place.invariant.reached (takes_at (writer c.args.op c.args.side) _ _ _ c.loop-place-test.true taken.0 (rw c.in-Ready.is at c.in_ok-count.ensures.asked.ok));
      still = c.in_ok-count.ensures.asked.ended ∙ c.loop-place.invariant.still;
    }

pub returns-in-Pending-clause-asked : goal.returns-in-Pending-clause-asked
returns-in-Pending-clause-asked g c =
    asks_ok (reaches_then c.loop-place.invariant.reached (waits_at (writer c.args.op c.args.side) _ _ c.loop-place-test.true (rw c.in-Pending.is at c.in_ok-count.ensures.asked.ok)))

pub returns-in-Code-clause-asked : goal.returns-in-Code-clause-asked
returns-in-Code-clause-asked g c =
    asks_ok (reaches_then c.loop-place.invariant.reached (fails_at (writer c.args.op c.args.side) _ _ c.loop-place-test.true (rw c.in-Code.is at c.in_ok-count.ensures.asked.ok)))
