-- Which cases hold.
use Rattle.std.specs.Prelude.{◌≡◌, ◌≢◌, ℕ, false, List, [], ◌∷◌, min, length, Some, None, Result, Ok, Err}
use Rattle.std.specs.List.{AllByRecursion}
use Rattle.wasi_world.specs.declared.outcome.WasiSocketsCtx.{WasiSocketsCtx}
use Rattle.world_io.specs.Io.{Reading, Writing}
use Rattle.world_text.specs.Lines.{lines_of, rest_of}
use Rattle.world_scripted.specs.Scenario.{scenario_of}
use Rattle.wasi_world.specs.Script.{GoesByPlan}
use Rattle.world_scripted.specs.Scripted.{at_start}
use Rattle.wasi_world.specs.Seen.{Plan, Seen}
use Rattle.wasi_run.specs.declared.run.RunEnd.{RunEnd}
use Rattle.wasi_run.specs.declared.error.RunError.{RunError}
use Rattle.wasi_run.specs.declared.error.RunError.TheVariants.{Memory, WriteFault}
use Rattle.wasi_transcript.specs.declared.cases.Case.{Case}
use Rattle.wasi_transcript.specs.declared.check.Came.{Came}
use Rattle.wasi_transcript.specs.declared.check.Came.TheVariants.{Shown, BadScenario}
use Rattle.wasi_transcript.specs.declared.check.Checked.{Checked}
use Rattle.wasi_transcript.specs.declared.check.Checked.TheVariants.{Holds, Fails, NotCases}
use Rattle.wasi_transcript.specs.CaseRead.{IsOf}
use Rattle.wasi_transcript.specs.Cases.{CaseText, unlines, script_lines, case_at}
use Rattle.wasi_transcript.specs.Shown.{IsShown}

-- == one case
-- a script before its first byte was read, and a text before its first was written
abbrev pub unread : List ℕ → Reading
unread script = record { left = Some script; ended = false; faults = 0 }

abbrev pub unwritten : Writing
unwritten = record { written = Some []; flushed = Some false; faults = 0; refused = 0 }

-- neither memory ran out nor a write failed
abbrev pub IsWhole : Result RunEnd RunError → Type 0
IsWhole (Err Memory) = ⊥
IsWhole (Err WriteFault) = ⊥
IsWhole _ = Unit {0}

-- The text is the whole transcript of the script over the network that the scenario plans, in its contexts.
pub record Transcribes (scenario script text : List ℕ) : Type 0 where
  pub plan : Plan
  pub contexts : List WasiSocketsCtx
  pub planned : scenario_of scenario ≡ Ok (plan, contexts)
  pub result : Result RunEnd RunError
  pub whole : IsWhole result
  pub read : Reading
  pub wrote : Writing
  pub text_is : wrote.written ≡ Some text
  pub seen : Seen
  pub scripted : GoesByPlan seen
  pub shown : IsShown contexts 4294967295 (unread script) read unwritten wrote (at_start plan) seen result

-- what came of a scenario and a script
abbrev pub CameOf : List ℕ → List ℕ → Came → Type 0
CameOf scenario script (Shown text) = Transcribes scenario script text.items
CameOf scenario script (BadScenario line) = scenario_of scenario ≡ Err line

-- the transcript that came is the one that was wanted
abbrev pub CameAs : List ℕ → Came → Type 0
CameAs wanted (Shown text) = text.items ≡ wanted
CameAs wanted (BadScenario line) = ⊥

-- its transcript is that of its script over its scenario
abbrev pub CaseHolds : CaseText → Type 0
CaseHolds c = Transcribes (unlines c.planned) (unlines (script_lines c)) (unlines c.shown)

-- == a file
-- the lines are those of cases, one after another, and what follows them
abbrev pub AreCases : List (List ℕ) → List CaseText → List (List ℕ) → Type 0
AreCases lines [] left = lines ≡ left
AreCases lines (c ∷ cases) left = (more : List (List ℕ)) × (case_at lines ≡ Some (c, more)) × AreCases more cases left

-- These cases of the text hold, and so much of it is left.
pub record Held (text : List ℕ) (cases : List CaseText) (left : List ℕ) : Type 0 where
  pub are : AreCases (lines_of text) cases (lines_of left)
  pub rest : rest_of text ≡ rest_of left
  pub hold : AllByRecursion CaseHolds cases

-- The next case is this one, and something else came of it.
pub record FailsNext (left : List ℕ) (code : Case) (came : Came) : Type 0 where
  pub case : CaseText
  pub more : List (List ℕ)
  pub next : case_at (lines_of left) ≡ Some (case, more)
  pub code_is : IsOf code case
  pub came_of : CameOf (unlines case.planned) (unlines (script_lines case)) came
  pub other : CameAs (unlines case.shown) came → ⊥

-- So many are counted of a file's cases.
abbrev pub count_of : List CaseText → ℕ
count_of cases = min (length cases) 4294967295

-- How a file was found. All its cases hold, and nothing else is in it; or these hold, and the next doesn't; or these hold, and
-- no case follows in what is left.
abbrev pub ChecksText : List ℕ → Checked → Type 0
ChecksText text (Holds count) = (cases : List CaseText) × Held text cases [] × (count ≡ count_of cases)
ChecksText text (Fails failed) = (cases : List CaseText) × (left : List ℕ) × Held text cases left × FailsNext left failed.case failed.came
ChecksText text (NotCases line) = (cases : List CaseText) × (left : List ℕ) × Held text cases left × (left ≢ []) × (case_at (lines_of left) ≡ None)
