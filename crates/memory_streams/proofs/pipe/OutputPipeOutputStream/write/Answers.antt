use Rattle.std.proofs.Common.{rules, sym, ◌≡◌, IfOk, OnErr, Ok, ℕ, ◌+◌, ◌-◌, ◌*◌, ◌<◌, ◌≤◌, length, ◌/◌, ◌%◌, Bool, true, false, nat_eq, nat_lt, List, [], ◌∷◌, ◌++◌, slice_index_or, slice_set, bit_and, bit_or, Fits, w8, w32, w64, Bor, MutBor}
use Rattle.wasi_streams.specs.StreamStop.{stream_outcome}
use Rattle.memory_streams.specs.Plain.{left_in, no_contents, pipe_check, pipe_write}
use Rattle.wasi_world.specs.Asks.{Give}
use Rattle.memory_streams.proofs.Settled.{settled}
use Rattle.memory_streams.proofs.pipe.OutputPipeOutputStream.write.Goals as goal

-- src/pipe.rt:77:5
pub returns : goal.returns
returns g c = record { asked = rw (sym c.as_slice.ensures) (settled _ c.write.ensures.given) }
