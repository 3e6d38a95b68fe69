-- What the calls of locked pipes may answer, whatever other owners do.
use Rattle.std.specs.Prelude.{◌≡◌, ◌<◌, ◌≤◌, ℕ, Bool, List, length, None, Result, Ok, Err}
use Rattle.world_io.specs.Io.{Reading, Writing}
use Rattle.wasi_world.specs.declared.outcome.TrapKind.TheVariants as trap
use Rattle.wasi_streams.specs.declared.error.StreamError.{StreamError}
use Rattle.wasi_streams.specs.declared.error.StreamError.TheVariants.{Closed, Trap, Memory}

-- a read of at most so many bytes: some bytes, unless none were asked for, or `Closed`, or out of memory
abbrev pub MayRead : ℕ → Result (List ℕ) StreamError → Type 0
MayRead size (Ok bytes) = (length bytes ≤ size) × (0 < size → 0 < length bytes)
MayRead size (Err Closed) = Unit {0}
MayRead size (Err (Memory e)) = Unit {0}
MayRead size (Err _) = ⊥

-- a write: all of the bytes, or none and a trap
abbrev pub MayWrite : Result (Unit {0}) StreamError → Type 0
MayWrite (Ok done) = Unit {0}
MayWrite (Err (Trap kind)) = kind ≡ trap.Capacity
MayWrite (Err _) = ⊥

-- a look at the room: some is free, or `Closed`
abbrev pub MayCheck : Result ℕ StreamError → Type 0
MayCheck (Ok count) = 0 < count
MayCheck (Err Closed) = Unit {0}
MayCheck (Err _) = ⊥

-- what is known of a pipe as a source: it reports no bytes, but whether its owner was told the end
abbrev pub reading_of : Bool → Reading
reading_of ended = record { left = None; ended = ended; faults = 0 }

-- what is known of a pipe as a sink: it reports no bytes and no flush, but how many pieces of its owner it took nothing of
abbrev pub writing_of : ℕ → Writing
writing_of refused = record { written = None; flushed = None; faults = 0; refused = refused }
