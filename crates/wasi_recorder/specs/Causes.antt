-- Why a replay ends in an error, and where it ends in none.
use Rattle.std.specs.Prelude.{◌≡◌, ◌⊎◌, ℕ, ◌+◌, List, Some, Result, IfErr, take, length}
use Rattle.wasi_world.specs.Seen.{Rose}
use Rattle.world_io.specs.Io.{Reading, Writing, Gave, CountRose}
use Rattle.world_text.specs.Lines.{lines_of}
use Rattle.wasi_steps.specs.declared.step.Step.{Step}
use Rattle.wasi_run.specs.declared.error.RunError.{RunError}
use Rattle.wasi_run.specs.declared.error.RunError.TheVariants.{Memory, BadStep, TooLong}
use Rattle.wasi_run.specs.Lines.{StartWith, BadAfter}
use Rattle.wasi_run.specs.Causes.{EndsInside}
use Rattle.wasi_run.specs.Script.{IsValid}

-- The line of this number isn't a step, or the script ends inside it; those before are steps.
pub record HasBadStep (contexts limit : ℕ) (before after : Reading) (line : ℕ) : Type 0 where
  pub text : List ℕ
  pub gave : Gave before text after
  pub steps : List Step
  pub first_lines : StartWith contexts (lines_of (take limit text)) steps
  pub number : line ≡ length steps + 1
  pub bad : BadAfter contexts (lines_of (take limit text)) steps ⊎ EndsInside limit text (length steps) after

-- The reader gave one byte past the limit, and all lines within are steps.
pub record GoesPast (contexts limit : ℕ) (before after : Reading) : Type 0 where
  pub text : List ℕ
  pub gave : Gave before text after
  pub past : length text ≡ limit + 1
  pub steps : List Step
  pub first_lines : StartWith contexts (lines_of (take limit text)) steps
  pub all : length steps ≡ length (lines_of (take limit text))

-- why a replay ends in this error, where that is the script
abbrev pub Causes : ℕ → ℕ → Reading → Reading → RunError → Type 0
Causes contexts limit before after (BadStep line) = HasBadStep contexts limit before after line
Causes contexts limit before after TooLong = GoesPast contexts limit before after
Causes contexts limit before after _ = Unit {0}

-- With a valid script, no fault and no refused piece a replay ends in no error but out of memory.
abbrev pub ReplayCompletes : {T : Type 0} → ℕ → ℕ → Reading → Reading → Writing → Writing → Result T RunError → Type 0
ReplayCompletes contexts limit before after k_old k_new result = (script : List ℕ) → before.left ≡ Some script → IsValid contexts limit script → ¬ Rose before.faults after.faults → ¬ CountRose k_old k_new → IfErr result (λ e. e ≡ Memory)
