use Rattle.wasi_reader.specs.Names.{ledgers_of}
use Rattle.stream_rows.proofs.drain.drain.Given as goal

abbrev pub ghosts-drain_by-N-Names : goal.ghosts-drain_by-N-Names
ghosts-drain_by-N-Names g a = record { line = a.parts.line }

abbrev pub ghosts-drain_by-N-LedgerNames : goal.ghosts-drain_by-N-LedgerNames
ghosts-drain_by-N-LedgerNames g a = record { ledgers = ledgers_of a.parts }
