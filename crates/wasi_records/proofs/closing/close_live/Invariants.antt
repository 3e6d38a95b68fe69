use Rattle.wasi_records.specs.RecordMap.{records_of}
use Rattle.wasi_records.proofs.Closings.{ClosedFirst}
use Rattle.wasi_records.proofs.closing.close_live.Given as goal

-- the network sockets of the records so far were closed
abbrev pub invariant-loop-number : goal.invariant-loop-number
invariant-loop-number g l =
    (goal.iterator-loop-number g).can_next l.number-iterator × (goal.iterator-loop-number g).is_finite l.number-iterator
    × ClosedFirst (g.W.World.seen l.fn.world) (g.W.World.seen l.world) (g.W.World.closed l.fn.world) (g.W.World.closed l.world) (records_of l.fn.slots l.fn.keys) (records_of l.fn.slots l.number-iterator)
