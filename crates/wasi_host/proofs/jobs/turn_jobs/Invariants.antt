use Rattle.std.proofs.Common.{◌≡◌, [], false, length}
use Rattle.wasi_world.specs.Asks.{Reaches}
use Rattle.wasi_jobs.specs.JobList.{below, from_on}
use Rattle.host_store.specs.Jobs.{turn_jobs}
use Rattle.record_common.specs.Sides.{MakesNone}
use Rattle.wasi_records.specs.Sides.{held_in}
use Rattle.wasi_host.proofs.jobs.turn_jobs.Given as goal

-- the jobs below the number are polled, and those that are left of them are kept
abbrev pub invariant-loop-listed : goal.invariant-loop-listed
invariant-loop-listed g l = record {
  reached : Reaches (turn_jobs [] l.fn.jobs.items l.fn.records.items) (turn_jobs (below l.next l.jobs) (from_on l.next l.jobs) l.records.items) (g.W.World.seen l.fn.world) (g.W.World.seen l.world);
  held : held_in l.records.items ≡ held_in l.fn.records.items;
  none : MakesNone (g.W.World.seen l.fn.world) (g.W.World.seen l.world);
  still : (g.W.World.seen l.world).ended ≡ false;
}

abbrev pub decreases-loop-listed : goal.decreases-loop-listed
decreases-loop-listed g l = length (from_on l.next l.jobs)
