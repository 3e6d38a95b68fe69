-- What is known of a world that notes what it hands on.
use Rattle.std.specs.Prelude.{ℕ, List}
use Rattle.wasi_world.specs.declared.call.Entry.{Entry}
use Rattle.wasi_world.specs.Seen.{Seen}
use Rattle.wasi_replay.specs.Replayed.{seen_of}

-- its notes and the codes in them, and the end mark and the closings of the other world
abbrev pub seen_noted : List Entry → ℕ → Seen → Seen
seen_noted log faults inner = seen_of log inner.ended inner.closings faults
