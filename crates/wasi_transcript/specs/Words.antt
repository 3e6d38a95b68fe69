-- What the program's words ask for, and how it ends.
use Rattle.std.specs.Prelude.{◌≡◌, ◌≢◌, ◌⊎◌, ℕ, if◌then◌else◌, bytes_eq, codes, List, [], ◌∷◌, map, string_bytes, Option, Some, None, Result, Ok}
use Rattle.world_text.specs.Fields.{number_in}
use Rattle.world_io.specs.Io.{Reading, Writing}
use Rattle.world_scripted.specs.Scenario.{scenario_of}
use Rattle.world_scripted.specs.Scripted.{at_start}
use Rattle.wasi_world.specs.Seen.{Plan, Seen, Rose}
use Rattle.wasi_world.specs.declared.outcome.WasiSocketsCtx.{WasiSocketsCtx}
use Rattle.wasi_program.specs.declared.status.Status.{Status}
use Rattle.wasi_program.specs.declared.status.Status.TheVariants as status
use Rattle.wasi_run.specs.declared.run.RunEnd.{RunEnd}
use Rattle.wasi_run.specs.declared.error.RunError.{RunError}
use Rattle.wasi_program.specs.Status as run
use Rattle.wasi_program.specs.Scenario.{ReadScenario, HasBadLine}
use Rattle.wasi_program.specs.Status.{status_of, bad_line_of}
use Rattle.wasi_transcript.specs.declared.check.Checked.TheVariants.{Holds, Fails, NotCases}
use Rattle.wasi_transcript.specs.declared.check.Failed.{Failed}
use Rattle.wasi_transcript.specs.declared.program.End.{End}
use Rattle.wasi_transcript.specs.declared.program.End.TheVariants as end
use Rattle.wasi_transcript.specs.declared.program.Words.{Words}
use Rattle.wasi_transcript.specs.declared.program.Words.TheVariants.{Show, Check, Faults}
use Rattle.wasi_transcript.specs.CaseHolds.{ChecksText}
use Rattle.wasi_transcript.specs.Shown.{IsShown}

-- the limit after this word, where nothing else follows
abbrev pub limit_after : List ℕ → List (List ℕ) → Option ℕ
limit_after first (word ∷ limit ∷ []) = if bytes_eq word first then number_in limit 4294967295 else None
limit_after first _ = None

-- the words are `show LIMIT`, or `faults LIMIT`
abbrev pub show_in : List (List ℕ) → Option ℕ
show_in words = limit_after (codes "show") words

abbrev pub faults_in : List (List ℕ) → Option ℕ
faults_in words = limit_after (codes "faults") words

-- the words are `check FILE..`
abbrev pub IsCheck : List (List ℕ) → List (List ℕ) → Type 0
IsCheck words files = (words ≡ codes "check" ∷ files) × (files ≢ [])

abbrev pub AreWords : List (List ℕ) → Option Words → Type 0
AreWords words (Some (Show limit)) = show_in words ≡ Some limit
AreWords words (Some (Check files)) = IsCheck words (map (λ w. string_bytes w) files.now)
AreWords words (Some (Faults limit)) = faults_in words ≡ Some limit
AreWords words None = (show_in words ≡ None) × (faults_in words ≡ None) × ((files : List (List ℕ)) → IsCheck words files → ⊥)

-- the number of each end
abbrev pub number_of : End → ℕ
number_of (end.Run s line) = run.number_of s
number_of end.Differs = 20
number_of end.NotCases = 21
number_of end.NoFile = 22
number_of end.Trapped = 23
number_of end.Lost = 24

-- == show
-- Nothing was read from the source or written to the sink.
pub record NothingShown (s_old s_new : Reading) (k_old k_new : Writing) : Type 0 where
  pub source : s_new ≡ s_old
  pub sink : k_new ≡ k_old

-- The scenario was read whole and is in its grammar, and the script was shown over its plan, which ended so.
pub record ShowsPlan (limit : ℕ) (c_old c_new s_old s_new : Reading) (k_old k_new : Writing) (s : Status) (line : ℕ) : Type 0 where
  pub text : List ℕ
  pub read : ReadScenario c_old c_new text
  pub plan : Plan
  pub contexts : List WasiSocketsCtx
  pub scenario : scenario_of text ≡ Ok (plan, contexts)
  pub result : Result RunEnd RunError
  pub seen : Seen
  pub shown : IsShown contexts limit s_old s_new k_old k_new (at_start plan) seen result
  pub status_is : s ≡ status_of result
  pub line_is : line ≡ bad_line_of result

-- how `show` ends
abbrev pub ShowEnds : ℕ → Reading → Reading → Reading → Reading → Writing → Writing → End → Type 0
ShowEnds limit c_old c_new s_old s_new k_old k_new (end.Run status.ScenarioFault line) = NothingShown s_old s_new k_old k_new × Rose c_old.faults c_new.faults × (line ≡ 0)
ShowEnds limit c_old c_new s_old s_new k_old k_new (end.Run status.BadScenario line) = NothingShown s_old s_new k_old k_new × HasBadLine c_old c_new line
ShowEnds limit c_old c_new s_old s_new k_old k_new (end.Run status.Memory line) = NothingShown s_old s_new k_old k_new ⊎ ShowsPlan limit c_old c_new s_old s_new k_old k_new status.Memory line
ShowEnds limit c_old c_new s_old s_new k_old k_new (end.Run s line) = ShowsPlan limit c_old c_new s_old s_new k_old k_new s line
ShowEnds limit c_old c_new s_old s_new k_old k_new _ = ⊥

-- == check
-- how `check` of a file with this text ends
abbrev pub CheckEnds : List ℕ → End → Type 0
CheckEnds text (end.Run status.Ok line) = (count : ℕ) × ChecksText text (Holds count)
CheckEnds text end.Differs = (failed : Failed) × ChecksText text (Fails failed)
CheckEnds text end.NotCases = (line : ℕ) × ChecksText text (NotCases line)
CheckEnds text (end.Run status.Memory line) = Unit {0}
CheckEnds text (end.Run status.WriteFault line) = Unit {0}
CheckEnds text _ = ⊥
