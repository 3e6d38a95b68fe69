-- A source and a sink in memory: what is known of them, and what each call makes of them.
use Rattle.std.specs.Prelude.{ℕ, List, ◌++◌, ◌-◌, Bool, true, false, Contains, ◌&&◌, ◌||◌, ◌==◌, nat_lt, take, drop, length, Some, if◌then◌else◌}
use Rattle.wasi_world.specs.Seen.{one_more}
use Rattle.world_io.specs.Io.{Reading, Writing}

-- a source in memory
pub record MemoryReading : Type 0 where
  pub left : List ℕ  -- the bytes that it hasn't given
  pub most : ℕ  -- how many bytes one read gives
  pub fails : List ℕ  -- the numbers of the calls that fail
  pub calls : ℕ
  pub ended : Bool  -- whether it gave its end
  pub faults : ℕ

-- a sink in memory
pub record MemoryWriting : Type 0 where
  pub written : List ℕ
  pub room : ℕ  -- how many bytes it still takes
  pub most : ℕ  -- how many bytes one write takes
  pub fails : List ℕ  -- the numbers of the calls that fail
  pub calls : ℕ
  pub flushed : Bool  -- whether a flush was answered Ok after the last write
  pub faults : ℕ
  pub refused : ℕ  -- pieces that it took nothing of

abbrev pub reading_of : MemoryReading → Reading
reading_of source = record { left = Some source.left; ended = source.ended; faults = source.faults }

abbrev pub writing_of : MemoryWriting → Writing
writing_of sink = record { written = Some sink.written; flushed = Some sink.flushed; faults = sink.faults; refused = sink.refused }

-- The call after so many is one of those that fail. Their numbers count from 1, in 32 bits.
abbrev pub IsFailing : List ℕ → ℕ → Type 0
IsFailing fails calls = Contains fails (one_more calls)

-- whether the end was given, after a read into a buffer of this size gave so many bytes
abbrev pub ended_after : Bool → ℕ → ℕ → Bool
ended_after ended count size = ended || (count == 0 && nat_lt 0 size)

-- the refused pieces, after a write took so many bytes of a piece of this size
abbrev pub refused_after : ℕ → ℕ → ℕ → ℕ
refused_after refused count size = if (count == 0 && nat_lt 0 size) then one_more refused else refused

-- the source after a read into a buffer of this size gave so many bytes
abbrev pub after_read : MemoryReading → ℕ → ℕ → MemoryReading
after_read source count size = record source { left = drop count source.left; calls = one_more source.calls; ended = ended_after source.ended count size }

-- the source after a read that failed
abbrev pub after_failed_read : MemoryReading → MemoryReading
after_failed_read source = record source { calls = one_more source.calls; faults = one_more source.faults }

-- the sink after a write took so many of the bytes
abbrev pub after_write : MemoryWriting → ℕ → List ℕ → MemoryWriting
after_write sink count bytes = record sink { written = sink.written ++ take count bytes; room = sink.room - count; calls = one_more sink.calls; flushed = false; refused = refused_after sink.refused count (length bytes) }

-- the sink after a flush
abbrev pub after_flush : MemoryWriting → MemoryWriting
after_flush sink = record sink { calls = one_more sink.calls; flushed = true }

-- the sink after a flush that failed
abbrev pub after_failed_flush : MemoryWriting → MemoryWriting
after_failed_flush sink = record sink { calls = one_more sink.calls; faults = one_more sink.faults }

-- the sink after a write that failed
abbrev pub after_failed_write : MemoryWriting → MemoryWriting
after_failed_write sink = record (after_failed_flush sink) { flushed = false }
