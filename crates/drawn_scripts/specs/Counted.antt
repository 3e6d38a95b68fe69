-- The run of a generated script, and its counts.
use Rattle.std.specs.Prelude.{◌≡◌, ◌⊎◌, ℕ, min, List, [], ◌∷◌, ◌++◌, Some, false, codes, decimal, length, sum_by}
use Rattle.wasi_world.specs.declared.call.Told.{Told}
use Rattle.wasi_world.specs.declared.call.Told.TheVariants.{Took}
use Rattle.wasi_world.specs.declared.call.Entry.{Entry}
use Rattle.wasi_world.specs.Seen.{Seen}
use Rattle.wasi_world.specs.Script.{IsScripted}
use Rattle.world_io.specs.Io.{Reading, Writing}
use Rattle.world_text.specs.Lines.{lines_of}
use Rattle.world_scripted.specs.Queued.{no_answers}
use Rattle.wasi_world.specs.Contexts.{free_context}
use Rattle.world_scripted.specs.Scripted.{at_start}
use Rattle.wasi_run.specs.declared.error.RunError.{RunError}
use Rattle.wasi_run.specs.declared.error.RunError.TheVariants.{Memory, WriteFault}
use Rattle.wasi_run.specs.Causes.{ReadsAll, StopsAtTrap}
use Rattle.drawn_scripts.specs.declared.counts.Counts.{Counts}
use Rattle.drawn_scripts.specs.declared.drawn.Drawn.{Drawn}
use Rattle.drawn_scripts.specs.Generate.{generated}

-- how many bytes an answer took
abbrev pub took_count : Told → ℕ
took_count (Took bytes) = length bytes
took_count _ = 0

abbrev pub taken_bytes : List Entry → ℕ
taken_bytes log = sum_by (λ e. took_count e.answer) log

-- a source that holds this text, and a sink that has nothing yet
abbrev pub unread : List ℕ → Reading
unread text = record { left = Some text; ended = false; faults = 0 }

abbrev pub unwritten : Writing
unwritten = record { written = Some []; flushed = Some false; faults = 0; refused = 0 }

-- All lines were done, or the last that was done trapped.
abbrev pub Finishes : ℕ → List ℕ → Reading → Writing → Seen → Type 0
Finishes limit text after sink seen = ReadsAll (free_context ∷ []) limit (unread text) after unwritten sink (at_start no_answers) seen
    ⊎ StopsAtTrap 4095 (free_context ∷ []) limit (unread text) after unwritten sink (at_start no_answers) seen

-- The generated script was run over the empty scenario to its end or to a trap, each call was answered by the plan that plans
-- nothing, and these are the run's counts.
pub record CountsRun (kind : Drawn) (seed steps : ℕ) (counts : Counts) : Type 0 where
  pub after : Reading
  pub sink : Writing
  pub seen : Seen
  pub log : List Entry
  pub written : List ℕ
  pub ran : Finishes (length (generated kind seed steps)) (generated kind seed steps) after sink seen
  pub logged : seen.log ≡ Some log
  pub planned : IsScripted no_answers log
  pub wrote : sink.written ≡ Some written
  pub lines : counts.lines ≡ steps
  pub replies : counts.replies ≡ length (lines_of written)
  pub entries : counts.entries ≡ length log
  pub bytes : counts.bytes ≡ min (taken_bytes log) 18446744073709551615

-- the errors that such a run can end with: out of memory, and a write that found none
abbrev pub IsOwn : RunError → Type 0
IsOwn Memory = Unit {0}
IsOwn WriteFault = Unit {0}
IsOwn _ = ⊥

-- the line that reports the counts
abbrev pub summary : Counts → List ℕ
summary counts = codes "lines " ++ decimal counts.lines ++ codes " replies " ++ decimal counts.replies ++ codes " entries " ++ decimal counts.entries ++ codes " bytes " ++ decimal counts.bytes ++ codes "\n"
