-- How a log is written, and how it is read.
use Rattle.std.specs.Prelude.{◌≡◌, ◌⊎◌, ℕ, ◌<◌, ◌≤◌, ◌^◌, true, codes, List, Result, Ok, Err, length}
use Rattle.std.specs.List.{list_all}
use Rattle.wasi_world.specs.declared.call.Entry.{Entry}
use Rattle.wasi_world.specs.declared.outcome.WasiSocketsCtx.{WasiSocketsCtx}
use Rattle.wasi_world.specs.Contexts.{AreNumbered}
use Rattle.wasi_world.specs.Seen.{Rose}
use Rattle.world_io.specs.Io.{Reading, Writing}
use Rattle.world_io.specs.Written.{TookAll, TookPart}
use Rattle.wasi_program.specs.Reading.{ReadWithin}
use Rattle.wasi_program.specs.declared.status.Status.TheVariants as status
use Rattle.wasi_replay.specs.Cut.{completed}
use Rattle.wasi_replay.specs.Log.{log_of}
use Rattle.wasi_replay.specs.Recorded.{fits_entry}
use Rattle.recorder_commands.specs.declared.log.Unwritten.{Unwritten}
use Rattle.recorder_commands.specs.declared.log.Unwritten.TheVariants as unwritten
use Rattle.recorder_commands.specs.declared.log.FoundLog.{FoundLog}
use Rattle.recorder_commands.specs.declared.log.FoundLog.TheVariants.{Read, Cut, Stopped}
use Rattle.recorder_commands.specs.declared.status.RecorderStatus.{RecorderStatus}
use Rattle.recorder_commands.specs.declared.status.RecorderStatus.TheVariants.{Of, BadLog, LogFault}

-- where the log is
abbrev pub log_file : List ℕ
log_file = codes "log.txt"

-- the whole text was written; or a front of it, and the sink counted why no more; or, without memory for the text, nothing
abbrev pub WritesLog : List ℕ → Writing → Writing → Result (Unit {0}) Unwritten → Type 0
WritesLog text old new (Ok done) = TookAll old text new
WritesLog text old new (Err unwritten.Fault) = TookPart old text new
WritesLog text old new (Err unwritten.Memory) = new ≡ old

-- a log that is read has at most so many bytes
abbrev pub most_log : ℕ
most_log = 4294967294

-- The log was read whole, and is these contexts and entries, on which a script can be run.
pub record LogRead (before after : Reading) (contexts : List WasiSocketsCtx) (entries : List Entry) : Type 0 where
  pub text : List ℕ
  pub read : ReadWithin most_log before after text
  pub are : log_of text ≡ Ok (contexts, entries)
  pub numbered : AreNumbered contexts
  pub few_contexts : length contexts < 2 ^ 32
  pub fits : list_all fits_entry entries ≡ true
  pub few_entries : length entries < 4294967295

-- A text that isn't a whole log, of which this is the first line that is wrong, is one that was cut: its whole lines are these
-- contexts and entries, on which a script can be run.
pub record IsCutLog (text : List ℕ) (line : ℕ) (contexts : List WasiSocketsCtx) (entries : List Entry) : Type 0 where
  pub within : length text ≤ most_log
  pub are : log_of (completed text) ≡ Ok (contexts, entries)
  pub numbered : AreNumbered contexts
  pub few_contexts : length contexts < 2 ^ 32
  pub fits : list_all fits_entry entries ≡ true
  pub few_entries : length entries < 4294967295

-- The log was read to its end, isn't whole, and was cut.
pub record LogCut (before after : Reading) (contexts : List WasiSocketsCtx) (entries : List Entry) : Type 0 where
  pub text : List ℕ
  pub read : ReadWithin most_log before after text
  pub line : ℕ
  pub bad : log_of text ≡ Err line
  pub is_cut : IsCutLog text line contexts entries

-- a text isn't one that was cut: it is too long, or its whole lines aren't a log with `end` behind them
abbrev pub IsNoCut : List ℕ → Type 0
IsNoCut text = (most_log < length text) ⊎ ((line : ℕ) × (log_of (completed text) ≡ Err line))

-- The log was read to its end, or past the most bytes that it may have; this is its first line that isn't in its grammar, and it
-- isn't one that was cut.
pub record HasBadLogLine (before after : Reading) (line : ℕ) : Type 0 where
  pub text : List ℕ
  pub read : ReadWithin most_log before after text
  pub bad : log_of text ≡ Err line
  pub no_cut : IsNoCut text

-- why there is no log, by how the program ends
abbrev pub NoLogSince : Reading → Reading → RecorderStatus → ℕ → Type 0
NoLogSince before after BadLog line = HasBadLogLine before after line
NoLogSince before after LogFault line = Rose before.faults after.faults × (line ≡ 0)
NoLogSince before after (Of status.Memory) line = line ≡ 0
NoLogSince before after _ line = ⊥

-- what a text is that isn't a whole log, of which this is the first line that is wrong
abbrev pub IsCutSo : List ℕ → ℕ → FoundLog → Type 0
IsCutSo text line (Read contexts entries) = ⊥
IsCutSo text line (Cut contexts entries) = IsCutLog text line contexts.items entries.items
IsCutSo text line (Stopped BadLog bad) = (bad ≡ line) × IsNoCut text
IsCutSo text line (Stopped (Of status.Memory) bad) = bad ≡ 0
IsCutSo text line (Stopped _ bad) = ⊥

-- the log, or why there is none
abbrev pub IsLogFoundSo : Reading → Reading → FoundLog → Type 0
IsLogFoundSo before after (Read contexts entries) = LogRead before after contexts.items entries.items
IsLogFoundSo before after (Cut contexts entries) = LogCut before after contexts.items entries.items
IsLogFoundSo before after (Stopped end line) = NoLogSince before after end line
