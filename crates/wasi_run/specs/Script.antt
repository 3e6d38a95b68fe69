-- What became of a script.
use Rattle.std.specs.Prelude.{◌≡◌, ◌≢◌, ℕ, List, [], ◌+◌, ◌≤◌, Some, Result, Ok, Err, take, length}
use Rattle.wasi_world.specs.declared.outcome.WasiSocketsCtx.{WasiSocketsCtx}
use Rattle.wasi_world.specs.Seen.{Seen, Rose}
use Rattle.world_io.specs.Io.{Reading, Writing, Gave, HasEnded, CountRose}
use Rattle.host_store.specs.declared.machine.Machine.{Machine}
use Rattle.wasi_run.specs.declared.lines.LinesEnd.{LinesEnd}
use Rattle.wasi_run.specs.declared.lines.LinesEnd.TheVariants as lines
use Rattle.wasi_run.specs.declared.run.RunEnd.{RunEnd}
use Rattle.wasi_run.specs.declared.run.RunEnd.TheVariants as end
use Rattle.wasi_run.specs.declared.error.RunError.{RunError}
use Rattle.wasi_run.specs.declared.error.RunError.TheVariants.{Memory, BadStep, TooLong, ReadFault}
use Rattle.host_store.specs.Machine.{first_state}
use Rattle.world_text.specs.Lines.{lines_of, rest_of}
use Rattle.wasi_run.specs.Lines.{after_lines, AllSteps}
use Rattle.wasi_records.specs.Closing.{AsksNothing}
use Rattle.wasi_run.specs.Ran.{LinesRan}

-- what it answers, and why, where the whole lines within the limit ended so
abbrev pub Answers : ℕ → List ℕ → Reading → Reading → Result LinesEnd RunError → Result RunEnd RunError → Type 0
Answers limit text before after (Ok lines.AllDone) (Ok end.AllRead) = HasEnded after × (length text ≤ limit) × (rest_of text ≡ [])
Answers limit text before after (Ok lines.AllDone) (Err (BadStep n)) = HasEnded after × (length text ≤ limit) × (rest_of text ≢ []) × (n ≡ length (lines_of text) + 1)
Answers limit text before after (Ok lines.AllDone) (Err TooLong) = length text ≡ limit + 1
Answers limit text before after (Ok lines.AllDone) (Err ReadFault) = Rose before.faults after.faults
Answers limit text before after (Ok lines.AllDone) _ = ⊥
Answers limit text before after (Ok lines.Trapped) (Ok end.Trapped) = Unit {0}
Answers limit text before after (Ok lines.Trapped) _ = ⊥
Answers limit text before after (Err e) (Err f) = e ≡ f
Answers limit text before after (Err e) (Ok a) = ⊥

-- What a run made of the text that the reader gave, under a limit; this is the machine then.
pub record RanOver (contexts : List WasiSocketsCtx) (limit : ℕ) (before after : Reading) (k_old k_new : Writing) (w_old w_new : Seen) (last : Machine) (result : Result RunEnd RunError) : Type 0 where
  pub text : List ℕ
  pub gave : Gave before text after
  -- At most one byte past the limit was read.
  pub within : length text ≤ limit + 1
  -- The whole lines within the limit were done from line 1 on, and ended so.
  pub outcome : Result LinesEnd RunError
  pub ran : LinesRan contexts w_old w_new k_old k_new first_state 1 (lines_of (take limit text)) outcome last
  -- So it answers this.
  pub answer : Answers limit text before after outcome result
  -- At a trap at most 4095 bytes past the newline of its line were read.
  pub ahead : result ≡ Ok end.Trapped → length (after_lines (length ran.steps) text) ≤ 4095

-- The script ran until it stopped, and then nothing was asked.
pub record RanScript (contexts : List WasiSocketsCtx) (limit : ℕ) (before after : Reading) (k_old k_new : Writing) (w_old w_new : Seen) (result : Result RunEnd RunError) : Type 0 where
  pub stopped : Seen  -- the world where the run stopped
  pub last : Machine
  pub over : RanOver contexts limit before after k_old k_new w_old stopped last result
  pub quiet : AsksNothing stopped w_new

-- The script lies within the limit, is empty or ends with a newline, and each line is a step.
pub record IsValid (contexts limit : ℕ) (script : List ℕ) : Type 0 where
  pub within : length script ≤ limit
  pub ended : rest_of script ≡ []
  pub steps : AllSteps contexts (lines_of script)

abbrev pub IsOkOrMemory : Result RunEnd RunError → Type 0
IsOkOrMemory (Ok a) = Unit {0}
IsOkOrMemory (Err Memory) = Unit {0}
IsOkOrMemory (Err _) = ⊥

-- With a valid script, no fault and no refused piece it answers Ok or out of memory.
abbrev pub Completes : ℕ → ℕ → Reading → Reading → Writing → Writing → Result RunEnd RunError → Type 0
Completes contexts limit before after k_old k_new result = (script : List ℕ) → before.left ≡ Some script → IsValid contexts limit script → ¬ Rose before.faults after.faults → ¬ CountRose k_old k_new → IsOkOrMemory result
