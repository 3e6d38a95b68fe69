-- How a log is written as it comes.
use Rattle.std.specs.Prelude.{◌≡◌, ◌⊎◌, ℕ, List, codes, Option, Some, None, Result, Ok, Err}
use Rattle.world_io.specs.Io.{Writing}
use Rattle.world_io.specs.Written.{TookAll, TookPart, TookFront}
use Rattle.recorder_commands.specs.declared.log.Unwritten.{Unwritten}
use Rattle.recorder_commands.specs.declared.log.Unwritten.TheVariants.{Fault, Memory}

-- the sink took this text, piece by piece and nothing else; or a front of it, for this reason
abbrev pub WroteSoFar : List ℕ → Writing → Writing → Option Unwritten → Type 0
WroteSoFar text old new None = TookAll old text new
WroteSoFar text old new (Some Fault) = TookPart old text new
WroteSoFar text old new (Some Memory) = TookFront old text new

-- the sink took one piece more, or a front of it, or nothing for lack of memory; once something wasn't written it takes nothing
abbrev pub GoesOn : List ℕ → Writing → Writing → Option Unwritten → Option Unwritten → Type 0
GoesOn piece old new (Some why) after = (after ≡ Some why) × (new ≡ old)
GoesOn piece old new None None = TookAll old piece new
GoesOn piece old new None (Some Fault) = TookPart old piece new
GoesOn piece old new None (Some Memory) = new ≡ old

-- The last line was taken, or a front of it; or nothing was, since something before it wasn't, or memory ran out.
abbrev pub EndsLog : Writing → Writing → Option Unwritten → Result (Unit {0}) Unwritten → Type 0
EndsLog old new before (Ok done) = (before ≡ None) × TookAll old (codes "end\n") new
EndsLog old new before (Err Fault) = ((before ≡ None) × TookPart old (codes "end\n") new) ⊎ ((before ≡ Some Fault) × (new ≡ old))
EndsLog old new before (Err Memory) = new ≡ old

-- the whole text was written as it came; or a front of it, and the sink counted why no more; or a front, where memory ran out
abbrev pub WritesAsItComes : List ℕ → Writing → Writing → Result (Unit {0}) Unwritten → Type 0
WritesAsItComes text old new (Ok done) = TookAll old text new
WritesAsItComes text old new (Err Fault) = TookPart old text new
WritesAsItComes text old new (Err Memory) = TookFront old text new
