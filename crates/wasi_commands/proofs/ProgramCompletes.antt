-- A good scenario and a valid script end the program with status 0, unless memory runs out.
use Rattle.std.proofs.Common.{◌≡◌, ◌∙◌, sym, ap, refl, ℕ, ◌+◌, ◌≤◌, List, [], ◌++◌, length, Option, Some, None, Result, Ok, Err, length-append, append-nil, subst, inl, inr, arith}
use Rattle.std.specs.Prelude.{◌⊎◌, IfSome}
use Rattle.wasi_world.specs.declared.call.Entry.{Entry}
use Rattle.wasi_world.specs.declared.outcome.WasiSocketsCtx.{WasiSocketsCtx}
use Rattle.wasi_world.specs.Seen.{Plan}
use Rattle.world_io.specs.Io.{Reading, Writing, HasEnded, CountRose}
use Rattle.world_scripted.specs.Scenario.{scenario_of}
use Rattle.wasi_run.specs.declared.error.RunError.{RunError}
use Rattle.wasi_run.specs.declared.error.RunError.TheVariants as error
use Rattle.wasi_run.specs.declared.run.RunEnd.{RunEnd}
use Rattle.wasi_commands.specs.declared.commands.Command.{Command}
use Rattle.drawn_scripts.specs.declared.drawn.Drawn.{Drawn}
use Rattle.wasi_commands.specs.declared.commands.Command.TheVariants.{Run, Pump, Generate}
use Rattle.wasi_program.specs.declared.status.Status.{Status}
use Rattle.wasi_program.specs.declared.status.Status.TheVariants as status
use Rattle.wasi_pump.specs.declared.error.PumpError.{PumpError}
use Rattle.wasi_pump.specs.declared.error.PumpError.TheVariants as pump
use Rattle.wasi_pump.specs.Pumped.{PumpEnds}
use Rattle.wasi_commands.specs.Program.{RanMain, CommandEnds, RunEnds, GeneratedEnds, pump_status, RanText}
use Rattle.wasi_commands.specs.Commands.{IsPump, command_in}
use Rattle.wasi_program.specs.Scenario.{ReadScenario, most_scenario}
use Rattle.wasi_program.specs.Status.{number_of, status_of}
use Rattle.wasi_run.specs.Script.{IsOkOrMemory}
use Rattle.wasi_commands.specs.Completeness.{EndsOkOrMemory, IsWell, IsWellRun, IsWellPumped, ProgramCompletes}
use Rattle.wasi_run.proofs.Completes.{completes, front_of}

-- a scenario within its size was read whole
read_whole : (scenario text : List ℕ) (before after : Reading) → before.left ≡ Some scenario → length scenario ≤ most_scenario → ReadScenario before after text → scenario ≡ text
read_whole scenario text before after left within read = by_left (front_of text after.left scenario (sym left ∙ read.gave.left)) read.whole
  where
    by_left : (more : List ℕ) × (after.left ≡ Some more) × (scenario ≡ text ++ more) → ((HasEnded after × (length text ≤ most_scenario)) ⊎ (length text ≡ most_scenario + 1)) → scenario ≡ text
    by_left (more, is, whole) (inl (ended, f)) =
        let P : Option (List ℕ) → Type 0 = λ o. IfSome o (λ left. left ≡ []) in
        let none : more ≡ [] = subst P is ended.nothing in
        rw (none, append-nil) at whole
    by_left (more, is, whole) (inr past) = absurd (omega (arith, past, within, length-append text more, ap length whole))

-- the contexts of what was planned
abbrev contexts_in : Result (Plan × List WasiSocketsCtx) ℕ → List WasiSocketsCtx
contexts_in (Ok planned) = planned.1
contexts_in (Err line) = []

-- the same text plans the same
same_plan : (scenario text : List ℕ) (plan other : Plan) (contexts others : List WasiSocketsCtx) → scenario ≡ text → scenario_of scenario ≡ Ok (plan, contexts) → scenario_of text ≡ Ok (other, others) → others ≡ contexts
same_plan scenario text plan other contexts others same e f = sym (ap contexts_in (sym e ∙ ap scenario_of same ∙ f))

planned_and_bad : (scenario text : List ℕ) (plan : Plan) (contexts : List WasiSocketsCtx) (line : ℕ) → scenario ≡ text → scenario_of scenario ≡ Ok (plan, contexts) → scenario_of text ≡ Err line → ⊥
planned_and_bad scenario text plan contexts line same e f = cc

ok_or_memory : (result : Result RunEnd RunError) → IsOkOrMemory result → EndsOkOrMemory (number_of (status_of result))
ok_or_memory (Ok end) h = inl refl
ok_or_memory (Err error.Memory) h = inr refl
ok_or_memory _ h = absurd h

module _ {limit : ℕ} {c_old c_new s_old s_new : Reading} {k_old k_new : Writing} (log : List Entry) (line : ℕ) (well : IsWellRun limit c_old c_new s_old s_new k_old k_new) where
  text_ends : (text : List ℕ) (end : Status) → well.scenario ≡ text → RanText limit text s_old s_new k_old k_new log line end → EndsOkOrMemory (number_of end)
  text_ends text end same ran =
      let contexts : ran.contexts ≡ well.contexts = same_plan well.scenario text well.plan ran.plan well.contexts ran.contexts same well.planned ran.scenario in
      let done : IsOkOrMemory ran.result = completes ran.ran.licensed.ran well.script well.script_left (rw contexts well.valid) well.script_read well.written in
      rw ran.status_is (ok_or_memory ran.result done)

  run_ends : (end : Status) → RunEnds limit c_old c_new s_old s_new k_old k_new log line end → EndsOkOrMemory (number_of end)
  run_ends status.Ok h = inl refl
  run_ends status.Memory h = inr refl
  run_ends status.BadWords h = absurd h
  run_ends status.BadScenario h =
      absurd (planned_and_bad well.scenario h.because.text well.plan well.contexts line (read_whole well.scenario h.because.text c_old c_new well.scenario_left well.within h.because.read) well.planned h.because.bad)
  run_ends status.ScenarioFault h = absurd (well.scenario_read h.because.0)
  run_ends end h = text_ends h.text end (read_whole well.scenario h.text c_old c_new well.scenario_left well.within h.read) h.ran

generated_ends : (kind : Drawn) (seed steps : ℕ) (k_old k_new : Writing) (end : Status) → ¬ CountRose k_old k_new → GeneratedEnds kind seed steps k_old k_new end → EndsOkOrMemory (number_of end)
generated_ends kind seed steps k_old k_new status.Ok c h = inl refl
generated_ends kind seed steps k_old k_new status.Memory c h = inr refl
generated_ends kind seed steps k_old k_new status.WriteFault c h = absurd (c h.told.counts)
generated_ends kind seed steps k_old k_new _ c h = absurd h

-- a pump that isn't refused, with no fault counted
pump_ends : (budget : ℕ) (s_old s_new : Reading) (k_old k_new : Writing) (refused : Type 0) (outcome : Result ℕ PumpError) → IsWellPumped budget s_old s_new k_old k_new refused → (number_of (pump_status outcome) ≡ 10 → refused) → (outcome ≡ Err pump.NoBudget → budget ≡ 0) → PumpEnds s_old s_new k_old k_new outcome → EndsOkOrMemory (number_of (pump_status outcome))
pump_ends budget s_old s_new k_old k_new refused (Ok count) well worker none h = inl refl
pump_ends budget s_old s_new k_old k_new refused (Err pump.NoBudget) well worker none h = absurd (well.some (none refl))
pump_ends budget s_old s_new k_old k_new refused (Err pump.NoWorker) well worker none h = absurd (well.started (worker refl))
pump_ends budget s_old s_new k_old k_new refused (Err pump.SourceFault) well worker none h = absurd (well.read h.1)
pump_ends budget s_old s_new k_old k_new refused (Err pump.SinkFault) well worker none h = absurd (well.written h.1)
pump_ends budget s_old s_new k_old k_new refused (Err pump.Memory) well worker none h = inr refl

module _ (c_old c_new s_old s_new : Reading) (k_old k_new : Writing) (log : List Entry) (line : ℕ) (refused : Type 0) where
  command_ends : (command : Option Command) (end : Status) → IsWell command c_old c_new s_old s_new k_old k_new refused → (IsPump command → number_of end ≡ 10 → refused) → CommandEnds command c_old c_new s_old s_new k_old k_new log line end → EndsOkOrMemory (number_of end)
  command_ends None end w worker h = absurd w
  command_ends (Some (Run limit)) end w worker h = run_ends log line w end h
  command_ends (Some (Pump budget)) end w worker h =
      let same : end ≡ pump_status h.outcome = h.status_is in
      rw same (pump_ends budget s_old s_new k_old k_new refused h.outcome w (rw same at (worker tt)) h.no_budget.0 h.ends)
  command_ends (Some (Generate kind seed steps)) end w worker h = generated_ends kind seed steps k_old k_new end w h.1

pub program_completes : {words : List (List ℕ)} {c_old c_new s_old s_new : Reading} {k_old k_new : Writing} {log : List Entry} {number line : ℕ} {refused : Type 0} → RanMain words c_old c_new s_old s_new k_old k_new log number line → (IsPump (command_in words) → number ≡ 10 → refused) → ProgramCompletes (command_in words) c_old c_new s_old s_new k_old k_new refused number
program_completes {words} {c_old} {c_new} {s_old} {s_new} {k_old} {k_new} {log} {line = line} {refused} ran worker =
    λ well. rw ran.number_is (command_ends c_old c_new s_old s_new k_old k_new log line refused (command_in words) ran.end well (rw ran.number_is at worker) ran.cause)
