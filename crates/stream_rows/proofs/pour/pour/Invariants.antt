use Rattle.wasi_writer.specs.Names.{ledgers_of}
use Rattle.stream_rows.proofs.pour.pour.Given as goal

abbrev pub ghosts-pour_by-N-Names : goal.ghosts-pour_by-N-Names
ghosts-pour_by-N-Names g a = record { line = a.parts.line; initial = a.parts.budget }

abbrev pub ghosts-pour_by-N-LedgerNames : goal.ghosts-pour_by-N-LedgerNames
ghosts-pour_by-N-LedgerNames g a = record { ledgers = ledgers_of a.parts }
