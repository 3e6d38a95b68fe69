-- What was read of a file of transcripts.
use Rattle.std.specs.Prelude.{◌≡◌, ℕ, ◌<◌, ◌≤◌, ◌∷◌, ◌++◌, codes, length, List, Option, Some, None}
use Rattle.world_text.specs.Lines.{lines_of, rest_of}
use Rattle.wasi_transcript.specs.declared.cases.Case.{Case}
use Rattle.wasi_transcript.specs.declared.cases.Shown.{Shown}
use Rattle.wasi_transcript.specs.Cases.{CaseText, unlines, script_of, script_lines, planned_at, shown_at, case_at, after}

-- The case has these texts.
pub record IsOf (code : Case) (c : CaseText) : Type 0 where
  pub title : code.title.now ≡ c.title
  pub scenario : code.scenario.items ≡ unlines c.planned
  pub script : code.script.items ≡ unlines (script_lines c)
  pub wanted : code.wanted.items ≡ unlines c.shown

-- The text began with a case, and what follows it is left; or it began with none.
abbrev pub ReadsCase : List ℕ → List ℕ → Option Case → Type 0
ReadsCase old new (Some code) = (c : CaseText) × IsOf code c × (case_at (lines_of old) ≡ Some (c, lines_of new)) × (rest_of old ≡ rest_of new) × (length new < length old)
ReadsCase old new None = case_at (lines_of old) ≡ None

-- The next line was taken, which begins so, and this follows; or there is none, and nothing was taken.
abbrev pub TakesAfter : List ℕ → List ℕ → List ℕ → Option (List ℕ) → Type 0
TakesAfter front old new (Some found) = (line : List ℕ) × (after front line ≡ Some found) × (lines_of old ≡ line ∷ lines_of new) × (rest_of old ≡ rest_of new) × (length new < length old)
TakesAfter front old new None = ((line : List ℕ) → (lines : List (List ℕ)) → lines_of old ≡ line ∷ lines → after front line ≡ None) × (new ≡ old)

-- The lines of a scenario were taken from the front, and these follow them.
pub record ReadsPlanned (old new scenario : List ℕ) : Type 0 where
  pub left : (planned_at (lines_of old)).1 ≡ lines_of new
  pub rest : rest_of old ≡ rest_of new
  pub text : scenario ≡ unlines (planned_at (lines_of old)).0
  pub shorter : length new ≤ length old

-- The lines up to an empty one were taken: the transcript, and its script.
pub record IsShownText (code : Shown) (lines : List (List ℕ)) : Type 0 where
  pub script : code.script.items ≡ unlines (script_of lines)
  pub wanted : code.wanted.items ≡ unlines lines

abbrev pub ReadsShown : List ℕ → List ℕ → Option Shown → Type 0
ReadsShown old new (Some code) = (lines : List (List ℕ)) × IsShownText code lines × (shown_at (lines_of old) ≡ Some (lines, lines_of new)) × (rest_of old ≡ rest_of new) × (length new < length old)
ReadsShown old new None = shown_at (lines_of old) ≡ None

-- The script has one line more where a line of its transcript has one.
abbrev pub PushesStep : List ℕ → List ℕ → List ℕ → Option (List ℕ) → Type 0
PushesStep line old new (Some step) = new ≡ old ++ (step ++ codes "\n")
PushesStep line old new None = new ≡ old
