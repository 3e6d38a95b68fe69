-- A reader of std as a source, a file that may not have been opened, and a writer of std as a sink: what is known of each.
use Rattle.std.specs.Prelude.{ℕ, List, Option, Some, None}
use Rattle.world_io.specs.declared.standard.StdSource.{StdSource}
use Rattle.world_io.specs.declared.standard.FileSource.{FileSource}
use Rattle.world_io.specs.declared.standard.StdSink.{StdSink}
use Rattle.world_io.specs.Io.{Reading, Writing}

-- a source that reports no bytes
abbrev pub reading_by : {I : Type 0} → StdSource I → Reading
reading_by source = record { left = None; ended = source.ended; faults = source.faults }

abbrev pub reading_of_file : {F : Type 0} → FileSource F → Reading
reading_of_file source = record { left = None; ended = source.ended; faults = source.faults }

-- what the file's reads will give, as far as its type reports; none is known of a file that wasn't opened
abbrev pub left_in : {F : Type 0} → (F → Option (List ℕ)) → Option F → Option (List ℕ)
left_in remaining (Some file) = remaining file
left_in remaining None = None

-- a sink that reports neither bytes nor a flush
abbrev pub writing_by : {O : Type 0} → StdSink O → Writing
writing_by sink = record { written = None; flushed = None; faults = sink.faults; refused = sink.refused }
