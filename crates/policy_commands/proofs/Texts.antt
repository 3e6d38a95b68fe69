-- How a run over a scenario's plan ends the program.
use Rattle.std.proofs.Common.{ℕ, List, Result, Ok, Err, ap, sym, subst, inr}
use Rattle.wasi_world.specs.declared.call.Entry.{Entry}
use Rattle.wasi_world.specs.declared.outcome.WasiSocketsCtx.{WasiSocketsCtx}
use Rattle.wasi_world.specs.Seen.{Seen}
use Rattle.world_io.specs.Io.{Reading, Writing}
use Rattle.world_scripted.specs.declared.scripted.ScriptedWorld.{ScriptedWorld}
use Rattle.world_scripted.specs.Scripted.{seen_by}
use Rattle.wasi_run.specs.declared.run.RunEnd.{RunEnd}
use Rattle.wasi_run.specs.declared.error.RunError.{RunError}
use Rattle.wasi_run.specs.declared.error.RunError.TheVariants as error
use Rattle.wasi_program.specs.declared.status.Status.{Status}
use Rattle.wasi_program.specs.Scenario.{IsPlanned}
use Rattle.wasi_program.specs.Status.{status_of}
use Rattle.wasi_policy.specs.declared.denied.Denied.{Denied}
use Rattle.wasi_policy.specs.declared.rule.Rule.{Rule}
use Rattle.policy_commands.specs.declared.status.PolicyStatus.{PolicyStatus}
use Rattle.policy_commands.specs.declared.status.PolicyStatus.TheVariants.{Of, BadRules, RulesFault}
use Rattle.policy_commands.specs.Run.{TextRan, PlanRan, PlanEnds}
use Rattle.policy_commands.specs.Ends.{StatusTextEnds, TextEnds}

-- however the run ended, the program ends so
ends_so : (rules : List Rule) (limit : ℕ) (text : List ℕ) (s_old s_new : Reading) (k_old k_new : Writing) (denied : List Denied) (inner : List Entry) (line : ℕ) (result : Result RunEnd RunError) → TextRan rules limit text s_old s_new k_old k_new denied inner line (status_of result) → StatusTextEnds rules limit text s_old s_new k_old k_new denied inner line (status_of result)
ends_so rules limit text s_old s_new k_old k_new denied inner line (Ok end) ran = ran
ends_so rules limit text s_old s_new k_old k_new denied inner line (Err error.Memory) ran = inr ran
ends_so rules limit text s_old s_new k_old k_new denied inner line (Err (error.BadStep n)) ran = ran
ends_so rules limit text s_old s_new k_old k_new denied inner line (Err error.TooLong) ran = ran
ends_so rules limit text s_old s_new k_old k_new denied inner line (Err error.ReadFault) ran = ran
ends_so rules limit text s_old s_new k_old k_new denied inner line (Err error.WriteFault) ran = ran

-- a run over the plan of the text ends so
plan_ends : (rules : List Rule) (limit : ℕ) (text : List ℕ) (world : ScriptedWorld) (contexts : List WasiSocketsCtx) (s_old s_new : Reading) (k_old k_new : Writing) (denied : List Denied) (inner : List Entry) (line : ℕ) (end : Status) → IsPlanned text world contexts → PlanRan rules (seen_by world).plan contexts limit s_old s_new k_old k_new denied inner line end → StatusTextEnds rules limit text s_old s_new k_old k_new denied inner line end
plan_ends rules limit text world contexts s_old s_new k_old k_new denied inner line end planned r =
    let ran : TextRan rules limit text s_old s_new k_old k_new denied inner line end = record {
      plan = planned.plan;
      contexts = contexts;
      scenario = planned.scenario;
      result = r.result;
      status_is = r.status_is;
      line_is = r.line_is;
      ran = r.ran planned.plan (ap (λ (seen : Seen). seen.plan) planned.world_is);
    } in
    subst (λ (e : Status). TextRan rules limit text s_old s_new k_old k_new denied inner line e → StatusTextEnds rules limit text s_old s_new k_old k_new denied inner line e) (sym r.status_is) (ends_so rules limit text s_old s_new k_old k_new denied inner line r.result) ran

pub text_ends : (rules : List Rule) (limit : ℕ) (text : List ℕ) (world : ScriptedWorld) (contexts : List WasiSocketsCtx) (s_old s_new : Reading) (k_old k_new : Writing) (denied : List Denied) (inner : List Entry) (line : ℕ) (end : PolicyStatus) → IsPlanned text world contexts → PlanEnds rules (seen_by world).plan contexts limit s_old s_new k_old k_new denied inner line end → TextEnds rules limit text s_old s_new k_old k_new denied inner line end
text_ends rules limit text world contexts s_old s_new k_old k_new denied inner line (Of end) planned ran = plan_ends rules limit text world contexts s_old s_new k_old k_new denied inner line end planned ran
text_ends rules limit text world contexts s_old s_new k_old k_new denied inner line BadRules planned none = none
text_ends rules limit text world contexts s_old s_new k_old k_new denied inner line RulesFault planned none = none
