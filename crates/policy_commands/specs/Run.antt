-- A run over a policy's world.
use Rattle.std.specs.Prelude.{◌≡◌, ℕ, true, false, List, [], Option, Some, None, Result, Ok}
use Rattle.wasi_world.specs.declared.call.Entry.{Entry}
use Rattle.wasi_world.specs.declared.outcome.WasiSocketsCtx.{WasiSocketsCtx}
use Rattle.world_io.specs.Io.{Reading, Writing}
use Rattle.world_scripted.specs.Scenario.{scenario_of}
use Rattle.wasi_world.specs.Script.{IsScripted}
use Rattle.wasi_world.specs.Seen.{Plan, Seen}
use Rattle.wasi_records.specs.Closing.{HasClosedAll}
use Rattle.wasi_run.specs.declared.run.RunEnd.{RunEnd}
use Rattle.wasi_run.specs.declared.error.RunError.{RunError}
use Rattle.wasi_run.specs.Headline.{RunsLicensed}
use Rattle.wasi_program.specs.Scenario.{ReadScenario}
use Rattle.wasi_program.specs.Status.{status_of, bad_line_of}
use Rattle.wasi_program.specs.declared.status.Status.{Status}
use Rattle.policy_commands.specs.declared.status.PolicyStatus.{PolicyStatus}
use Rattle.policy_commands.specs.declared.status.PolicyStatus.TheVariants.{Of}
use Rattle.wasi_policy.specs.declared.denied.Denied.{Denied}
use Rattle.wasi_policy.specs.declared.rule.Rule.{Rule}
use Rattle.wasi_policy.specs.Policed.{IsPoliced}

-- a world under rules that was asked nothing yet
abbrev pub at_start : Seen
at_start = record { log = Some []; ended = false; closings = 0; faults = 0; plan = None }

-- The script was run under the rules, over the plan, and ended so: the log is licensed, it keeps the rules, and the calls that
-- were handed on have the plan's answers.
pub record RanUnder (rules : List Rule) (plan : Plan) (contexts : List WasiSocketsCtx) (limit : ℕ) (s_old s_new : Reading) (k_old k_new : Writing) (denied : List Denied) (inner : List Entry) (result : Result RunEnd RunError) : Type 0 where
  pub log : List Entry
  pub policed : IsPoliced rules denied inner log
  pub seen : Seen  -- the world after it
  pub logged : seen.log ≡ Some log
  pub ended : seen.ended ≡ true
  pub licensed : RunsLicensed contexts limit s_old s_new k_old k_new at_start seen result
  pub closed : HasClosedAll seen
  pub scripted : IsScripted plan inner

-- The scenario is in its grammar, the script was run over its plan under the rules, and so the program ends so.
pub record TextRan (rules : List Rule) (limit : ℕ) (text : List ℕ) (s_old s_new : Reading) (k_old k_new : Writing) (denied : List Denied) (inner : List Entry) (line : ℕ) (end : Status) : Type 0 where
  pub plan : Plan
  pub contexts : List WasiSocketsCtx
  pub scenario : scenario_of text ≡ Ok (plan, contexts)
  pub result : Result RunEnd RunError
  pub status_is : end ≡ status_of result
  pub line_is : line ≡ bad_line_of result
  pub ran : RanUnder rules plan contexts limit s_old s_new k_old k_new denied inner result

-- The scenario was read whole, and a run over it under the rules ended so.
pub record ScriptRan (rules : List Rule) (limit : ℕ) (c_old c_new s_old s_new : Reading) (k_old k_new : Writing) (denied : List Denied) (inner : List Entry) (line : ℕ) (end : Status) : Type 0 where
  pub text : List ℕ
  pub read : ReadScenario c_old c_new text
  pub ran : TextRan rules limit text s_old s_new k_old k_new denied inner line end

-- how a run over a plan ends
pub record PlanRan (rules : List Rule) (plan : Option Plan) (contexts : List WasiSocketsCtx) (limit : ℕ) (s_old s_new : Reading) (k_old k_new : Writing) (denied : List Denied) (inner : List Entry) (line : ℕ) (end : Status) : Type 0 where
  pub result : Result RunEnd RunError
  pub status_is : end ≡ status_of result
  pub line_is : line ≡ bad_line_of result
  pub ran : (p : Plan) → plan ≡ Some p → RanUnder rules p contexts limit s_old s_new k_old k_new denied inner result

abbrev pub PlanEnds : List Rule → Option Plan → List WasiSocketsCtx → ℕ → Reading → Reading → Writing → Writing → List Denied → List Entry → ℕ → PolicyStatus → Type 0
PlanEnds rules plan contexts limit s_old s_new k_old k_new denied inner line (Of end) =
    PlanRan rules plan contexts limit s_old s_new k_old k_new denied inner line end
PlanEnds rules plan contexts limit s_old s_new k_old k_new denied inner line _ = ⊥
