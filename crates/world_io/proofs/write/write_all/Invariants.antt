use Rattle.std.proofs.Common.{length, take, ◌-◌, ◌≤◌}
use Rattle.world_io.specs.Written.{TookAll}
use Rattle.world_io.proofs.write.write_all.Given as goal

-- the bytes before are written, and nothing went wrong
abbrev pub invariant-loop-at : goal.invariant-loop-at
invariant-loop-at g l = record { took : TookAll (g.K.Sink.writing l.fn.sink) (take l.at l.bytes) (g.K.Sink.writing l.sink); within : l.at ≤ length l.bytes }

abbrev pub decreases-loop-at : goal.decreases-loop-at
decreases-loop-at g l = length l.bytes - l.at
