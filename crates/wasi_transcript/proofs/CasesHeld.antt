-- The cases of a file, one after another: those that hold, and the first that doesn't.
use Rattle.std.proofs.Common.{arith, ◌≡◌, ◌∙◌, ap, sym, refl, subst, ℕ, ◌+◌, min, List, [], ◌∷◌, ◌++◌, length-append, Option, Some, Result}
use Rattle.std.specs.List.{AllByRecursion}
use Rattle.world_text.specs.Lines.{lines_of}
use Rattle.world_io.specs.Io.{Reading, Writing}
use Rattle.wasi_world.specs.Script.{GoesByPlan}
use Rattle.world_scripted.specs.Scripted.{seen_by}
use Rattle.wasi_world.specs.Seen.{Seen}
use Rattle.wasi_world.specs.declared.outcome.WasiSocketsCtx.{WasiSocketsCtx}
use Rattle.world_scripted.specs.declared.scripted.ScriptedWorld.{ScriptedWorld}
use Rattle.wasi_run.specs.declared.run.RunEnd.{RunEnd}
use Rattle.wasi_run.specs.declared.error.RunError.{RunError}
use Rattle.wasi_program.specs.declared.scenario.Scenario.{Scenario}
use Rattle.wasi_program.specs.Scenario.{IsPlanned, IsParsed}
use Rattle.wasi_transcript.specs.Shown.{IsShown}
use Rattle.wasi_transcript.specs.declared.cases.Case.{Case}
use Rattle.wasi_transcript.specs.declared.check.Checked.{Checked}
use Rattle.wasi_transcript.specs.declared.check.Came.{Came}
use Rattle.wasi_transcript.specs.declared.check.Came.TheVariants.{Shown, BadScenario}
use Rattle.wasi_transcript.specs.Cases.{CaseText, unlines, script_lines, case_at}
use Rattle.wasi_transcript.specs.CaseRead.{IsOf, ReadsCase}
use Rattle.wasi_transcript.specs.CaseHolds.{unread, unwritten, IsWhole, Transcribes, CameOf, CameAs, CaseHolds, AreCases, Held, FailsNext, ChecksText, count_of}

cases_on : (lines : List (List ℕ)) (cases : List CaseText) (left more : List (List ℕ)) (c : CaseText) → AreCases lines cases left → case_at left ≡ Some (c, more) → AreCases lines (cases ++ c ∷ []) more
cases_on lines [] left more c h k = (more, ap case_at h ∙ k, refl)
cases_on lines (d ∷ cases) left more c h k = (h.0, h.1, cases_on h.0 cases left more c h.2 k)

all_on : (cases : List CaseText) (c : CaseText) → AllByRecursion CaseHolds cases → CaseHolds c → AllByRecursion CaseHolds (cases ++ c ∷ [])
all_on [] c h k = (k, tt)
all_on (d ∷ cases) c h k = (h.0, all_on cases c h.1 k)

-- what came, of the case's texts
came_of : (code : Case) (c : CaseText) (came : Came) → IsOf code c → CameOf code.scenario.items code.script.items came → CameOf (unlines c.planned) (unlines (script_lines c)) came
came_of code c came is h =
    let P : List ℕ → Type 0 = λ script. CameOf (unlines c.planned) script came in
    let Q : List ℕ → Type 0 = λ scenario. CameOf scenario code.script.items came in
    subst P is.script (subst Q is.scenario h)

as_wanted : (scenario script wanted : List ℕ) (came : Came) → CameOf scenario script came → CameAs wanted came → Transcribes scenario script wanted
as_wanted scenario script wanted (Shown text) h k = let P : List ℕ → Type 0 = λ t. Transcribes scenario script t in subst P k h
as_wanted scenario script wanted (BadScenario line) h k = absurd k

pub as_planned : (text : List ℕ) {o s : Scenario} → o ≡ s → IsParsed text o → IsParsed text s
as_planned text e h = let P : Scenario → Type 0 = λ s. IsParsed text s in subst P e h

pub as_read : (old new : List ℕ) {o s : Option Case} → o ≡ s → ReadsCase old new o → ReadsCase old new s
as_read old new e h = let P : Option Case → Type 0 = λ s. ReadsCase old new s in subst P e h

-- the transcript that was written into memory
pub transcribed : {scenario script text : List ℕ} {world : ScriptedWorld} {contexts : List WasiSocketsCtx} {s_old s_new : Reading} {k_old k_new : Writing} {seen : Seen} {result : Result RunEnd RunError} → IsPlanned scenario world contexts → IsWhole result → s_old ≡ unread script → k_old ≡ unwritten → k_new.written ≡ Some text → GoesByPlan seen → IsShown contexts 4294967295 s_old s_new k_old k_new (seen_by world) seen result → Transcribes scenario script text
transcribed {scenario = scenario} {contexts = contexts} {s_new = s_new} {k_new = k_new} {seen = seen} {result = result} p whole s k t goes h = record {
  plan = p.plan;
  contexts = contexts;
  planned = p.scenario;
  result = result;
  whole = whole;
  read = s_new;
  wrote = k_new;
  text_is = t;
  seen = seen;
  scripted = goes;
  shown = rw (s, k, p.world_is) at h;
}

-- So many cases were read and hold.
pub record Checking (text left : List ℕ) (count : ℕ) : Type 0 where
  pub cases : List CaseText
  pub held : Held text cases left
  pub counted : count ≡ count_of cases

pub checking_start : (text : List ℕ) → Checking text text 0
checking_start text = record { cases = []; held = record { are = refl; rest = refl; hold = tt }; counted = refl }

counted_on : (cases : List CaseText) (c : CaseText) (count : ℕ) → count ≡ count_of cases → min (count + 1) 4294967295 ≡ count_of (cases ++ c ∷ [])
counted_on cases c count e = let l = length-append cases (c ∷ []) in grind (arith, l, e)

-- one that holds
pub checking_on : {text old new : List ℕ} {count grown : ℕ} (code : Case) (came : Came) → Checking text old count → ReadsCase old new (Some code) → CameOf code.scenario.items code.script.items came → CameAs code.wanted.items came → grown ≡ min (count + 1) 4294967295 → Checking text new grown
checking_on {old = old} {new = new} {count = count} code came h k of same g =
    let (c, is, next, rest, _) = k in
    let holds = as_wanted (unlines c.planned) (unlines (script_lines c)) (unlines c.shown) came (came_of code c came is of) (let P : List ℕ → Type 0 = λ t. CameAs t came in subst P is.wanted same) in record {
      cases = h.cases ++ c ∷ [];
      held = record { are = cases_on _ h.cases (lines_of old) (lines_of new) c h.held.are next; rest = h.held.rest ∙ rest; hold = all_on h.cases c h.held.hold holds };
      counted = g ∙ counted_on h.cases c count h.counted;
    }

-- one that doesn't
pub fails_next : {old : List ℕ} (new : List ℕ) (code : Case) (came : Came) → ReadsCase old new (Some code) → CameOf code.scenario.items code.script.items came → (CameAs code.wanted.items came → ⊥) → FailsNext old code came
fails_next new code came k of other =
    let (c, is, next, rest, _) = k in record {
      case = c;
      more = lines_of new;
      next = next;
      code_is = is;
      came_of = came_of code c came is of;
      other = λ same. other (let P : List ℕ → Type 0 = λ t. CameAs t came in subst P (sym is.wanted) same);
    }

pub as_checked : (text : List ℕ) {o s : Checked} → o ≡ s → ChecksText text o → ChecksText text s
as_checked text e h = let P : Checked → Type 0 = λ s. ChecksText text s in subst P e h
