use Rattle.wasi_reader.specs.Names as reading
use Rattle.wasi_writer.specs.Names as writing
use Rattle.wasi_pump.proofs.pumping.pump.Given as goal

abbrev pub ghosts-pump_by-N-Names : goal.ghosts-pump_by-N-Names
ghosts-pump_by-N-Names g a = record { line = a.to.line; initial = a.to.budget }

abbrev pub ghosts-pump_by-N-LedgerNames : goal.ghosts-pump_by-N-LedgerNames
ghosts-pump_by-N-LedgerNames g a = record { ledgers = writing.ledgers_of a.to }

abbrev pub ghosts-pump_by-M-Names : goal.ghosts-pump_by-M-Names
ghosts-pump_by-M-Names g a = record { line = a.from.line }

abbrev pub ghosts-pump_by-M-LedgerNames : goal.ghosts-pump_by-M-LedgerNames
ghosts-pump_by-M-LedgerNames g a = record { ledgers = reading.ledgers_of a.from }
