use Rattle.wasi_writer.specs.Names.{ledgers_of}
use Rattle.benches.proofs.stream.run.Given as goal

abbrev pub ghosts-send-N-Names : goal.ghosts-send-N-Names
ghosts-send-N-Names g a = record { line = a.parts.line; initial = a.parts.budget }

abbrev pub ghosts-send-N-LedgerNames : goal.ghosts-send-N-LedgerNames
ghosts-send-N-LedgerNames g a = record { ledgers = ledgers_of a.parts }
