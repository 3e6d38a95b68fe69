use Rattle.std.proofs.Common.{rules, ◌≡◌, ◌↔◌, ◌++◌, [], IfOk, IsTrue, OnErr, length, min, take, drop, ℕ, ◌+◌, ◌-◌, ◌*◌, ◌<◌, ◌≤◌, ◌/◌, ◌%◌, Bool, true, false, nat_eq, nat_lt, List, ◌∷◌, slice_index_or, slice_set, bit_and, bit_or, Fits, w8, w32, w64, Bor, MutBor}
use Rattle.wasi_streams.specs.StreamStop.{stream_outcome}
use Rattle.memory_streams.specs.Pipes.{HasRead}
use Rattle.memory_streams.specs.Plain.{pipe_read}
use Rattle.wasi_world.specs.Asks.{Give}
use Rattle.memory_streams.proofs.Settled.{settled}
use Rattle.memory_streams.proofs.input.InputPipeCoreInputStream.read.Goals as goal

-- src/input.rt:93:5
pub returns-clause-asked : goal.returns-clause-asked
returns-clause-asked g c = settled _ c.read_octets.ensures.given
