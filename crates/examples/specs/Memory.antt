-- What is known of the network in memory.
use Rattle.std.specs.Prelude.{Some, None}
use Rattle.wasi_world.specs.Seen.{Seen}
use Rattle.examples.specs.declared.memory.MemoryNetwork.{MemoryNetwork}

abbrev pub seen_of : MemoryNetwork → Seen
seen_of world = record { log = Some world.log.items; ended = world.ended; closings = world.closings; faults = world.faults; plan = None }
