-- Why a log wasn't read.
use Rattle.std.specs.Prelude.{ℕ, Option, Some, None}
use Rattle.wasi_replay.specs.declared.parse.LogError.{LogError}
use Rattle.wasi_replay.specs.declared.parse.LogError.TheVariants.{BadLog, Memory}

-- the line that an error names
abbrev pub bad_line : LogError → Option ℕ
bad_line (BadLog line) = Some line
bad_line (Memory e) = None
