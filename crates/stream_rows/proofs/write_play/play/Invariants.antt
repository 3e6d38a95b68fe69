use Rattle.wasi_writer.specs.Names.{ledgers_of}
use Rattle.stream_rows.proofs.write_play.play.Given as goal

abbrev pub ghosts-play_by-N-Names : goal.ghosts-play_by-N-Names
ghosts-play_by-N-Names g a = record { line = a.parts.line; initial = a.parts.budget }

abbrev pub ghosts-play_by-N-LedgerNames : goal.ghosts-play_by-N-LedgerNames
ghosts-play_by-N-LedgerNames g a = record { ledgers = ledgers_of a.parts }
