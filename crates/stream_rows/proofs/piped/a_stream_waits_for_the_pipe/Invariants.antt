use Rattle.wasi_writer.specs.Names.{ledgers_of}
use Rattle.stream_rows.proofs.piped.a_stream_waits_for_the_pipe.Given as goal

abbrev pub ghosts-writes_into_a_pipe-N-Names : goal.ghosts-writes_into_a_pipe-N-Names
ghosts-writes_into_a_pipe-N-Names g a = record { line = a.parts.line; initial = a.parts.budget }

abbrev pub ghosts-writes_into_a_pipe-N-LedgerNames : goal.ghosts-writes_into_a_pipe-N-LedgerNames
ghosts-writes_into_a_pipe-N-LedgerNames g a = record { ledgers = ledgers_of a.parts }
