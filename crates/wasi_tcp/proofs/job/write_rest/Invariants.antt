use Rattle.std.proofs.Common.{◌≡◌, ◌≤◌, ◌-◌, false, length, drop}
use Rattle.wasi_world.specs.Asks.{Reaches}
use Rattle.wasi_world.specs.Operation.{write_front}
use Rattle.wasi_tcp.specs.Job.{writer}
use Rattle.wasi_tcp.proofs.job.write_rest.Given as goal

-- the bytes before the place are taken
abbrev pub invariant-loop-place : goal.invariant-loop-place
invariant-loop-place g l = record {
  within : l.place ≤ length l.bytes;
  reached : Reaches (write_front (writer l.op l.side) (drop l.fn.place l.bytes) 0) (write_front (writer l.op l.side) (drop l.place l.bytes) 0) (g.W.World.seen l.fn.world) (g.W.World.seen l.world);
  still : (g.W.World.seen l.world).ended ≡ false;
}

abbrev pub decreases-loop-place : goal.decreases-loop-place
decreases-loop-place g l = length l.bytes - l.place
