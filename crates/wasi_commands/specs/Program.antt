-- What the program makes of the words `run`, `pump`, `gen` and `gen3`, its scenario and its script.
use Rattle.std.specs.Prelude.{◌≡◌, ℕ, ◌⊎◌, ◌↔◌, List, [], Option, Some, None, Result, Ok, Err}
use Rattle.wasi_world.specs.declared.call.Entry.{Entry}
use Rattle.wasi_world.specs.declared.outcome.WasiSocketsCtx.{WasiSocketsCtx}
use Rattle.wasi_world.specs.Seen.{Plan, Rose}
use Rattle.world_io.specs.Io.{Reading, Writing}
use Rattle.world_scripted.specs.Scenario.{scenario_of}
use Rattle.wasi_run.specs.declared.run.RunEnd.{RunEnd}
use Rattle.wasi_run.specs.declared.error.RunError.{RunError}
use Rattle.drawn_scripts.specs.declared.counts.Counts.{Counts}
use Rattle.wasi_program.specs.declared.status.Status.{Status}
use Rattle.wasi_program.specs.declared.status.Status.TheVariants as status
use Rattle.wasi_program.specs.Status.{number_of, status_of, bad_line_of}
use Rattle.wasi_program.specs.Scenario.{ReadScenario, HasBadLine}
use Rattle.wasi_program.specs.Planned.{RanPlan}
use Rattle.wasi_commands.specs.declared.commands.Command.{Command}
use Rattle.drawn_scripts.specs.declared.drawn.Drawn.{Drawn}
use Rattle.wasi_commands.specs.declared.commands.Command.TheVariants.{Run, Pump, Generate}
use Rattle.wasi_commands.specs.Commands.{command_in}
use Rattle.wasi_pump.specs.declared.error.PumpError.{PumpError}
use Rattle.wasi_pump.specs.declared.error.PumpError.TheVariants as pump
use Rattle.wasi_pump.specs.Pumped.{PumpEnds}
use Rattle.drawn_scripts.specs.Counted.{CountsRun, summary}
use Rattle.world_io.specs.Written.{TookAll, TookPart}

-- how a pump's end is reported
abbrev pub pump_status : Result ℕ PumpError → Status
pump_status (Ok count) = status.Ok
pump_status (Err pump.NoBudget) = status.NoBudget
pump_status (Err pump.NoWorker) = status.NoWorker
pump_status (Err pump.SourceFault) = status.SourceFault
pump_status (Err pump.SinkFault) = status.SinkFault
pump_status (Err pump.Memory) = status.Memory

-- No run began: nothing was read from the source or written to the sink, and there is no log.
pub record NothingRan (s_old s_new : Reading) (k_old k_new : Writing) (log : List Entry) : Type 0 where
  pub source : s_new ≡ s_old
  pub sink : k_new ≡ k_old
  pub log_is : log ≡ []

-- The scenario is in its grammar, the script was run over its plan, and so the program ends so.
pub record RanText (limit : ℕ) (text : List ℕ) (s_old s_new : Reading) (k_old k_new : Writing) (log : List Entry) (line : ℕ) (end : Status) : Type 0 where
  pub plan : Plan
  pub contexts : List WasiSocketsCtx
  pub scenario : scenario_of text ≡ Ok (plan, contexts)
  pub result : Result RunEnd RunError
  pub status_is : end ≡ status_of result
  pub line_is : line ≡ bad_line_of result
  pub ran : RanPlan plan contexts limit s_old s_new k_old k_new log result

-- how a text ends the program
abbrev pub TextEnds : ℕ → List ℕ → Reading → Reading → Writing → Writing → List Entry → ℕ → Status → Type 0
TextEnds limit text s_old s_new k_old k_new log line status.BadScenario = NothingRan s_old s_new k_old k_new log × (scenario_of text ≡ Err line)
TextEnds limit text s_old s_new k_old k_new log line status.Memory = (NothingRan s_old s_new k_old k_new log × (line ≡ 0)) ⊎ RanText limit text s_old s_new k_old k_new log line status.Memory
TextEnds limit text s_old s_new k_old k_new log line status.BadWords = ⊥
TextEnds limit text s_old s_new k_old k_new log line status.ScenarioFault = ⊥
TextEnds limit text s_old s_new k_old k_new log line end = RanText limit text s_old s_new k_old k_new log line end

-- == `run LIMIT`
-- The scenario was read whole, and a run over it ended so.
pub record ScriptRan (limit : ℕ) (c_old c_new s_old s_new : Reading) (k_old k_new : Writing) (log : List Entry) (line : ℕ) (end : Status) : Type 0 where
  pub text : List ℕ
  pub read : ReadScenario c_old c_new text
  pub ran : RanText limit text s_old s_new k_old k_new log line end

-- No run began, for this reason.
pub record NoRun (s_old s_new : Reading) (k_old k_new : Writing) (log : List Entry) (P : Type 0) : Type 0 where
  pub nothing : NothingRan s_old s_new k_old k_new log
  pub because : P

-- the cause of each status
abbrev pub RunEnds : ℕ → Reading → Reading → Reading → Reading → Writing → Writing → List Entry → ℕ → Status → Type 0
RunEnds limit c_old c_new s_old s_new k_old k_new log line status.BadWords = ⊥
RunEnds limit c_old c_new s_old s_new k_old k_new log line status.BadScenario = NoRun s_old s_new k_old k_new log (HasBadLine c_old c_new line)
RunEnds limit c_old c_new s_old s_new k_old k_new log line status.ScenarioFault = NoRun s_old s_new k_old k_new log (Rose c_old.faults c_new.faults × (line ≡ 0))
RunEnds limit c_old c_new s_old s_new k_old k_new log line status.Memory =
    NoRun s_old s_new k_old k_new log (line ≡ 0) ⊎ ScriptRan limit c_old c_new s_old s_new k_old k_new log line status.Memory
RunEnds limit c_old c_new s_old s_new k_old k_new log line end = ScriptRan limit c_old c_new s_old s_new k_old k_new log line end

-- == `gen SEED STEPS`, `gen3 SEED STEPS`
-- The generated script was run over the empty scenario, and this holds of the line that reports its counts.
pub record Told (kind : Drawn) (seed steps : ℕ) (P : List ℕ → Type 0) : Type 0 where
  pub counts : Counts
  pub ran : CountsRun kind seed steps counts
  pub told : P (summary counts)

-- the cause of each status: the sink took the line, or its front; or memory ran out, and nothing was written
abbrev pub GeneratedEnds : Drawn → ℕ → ℕ → Writing → Writing → Status → Type 0
GeneratedEnds kind seed steps k_old k_new status.Ok = Told kind seed steps (λ line. TookAll k_old line k_new)
GeneratedEnds kind seed steps k_old k_new status.WriteFault = Told kind seed steps (λ line. TookPart k_old line k_new)
GeneratedEnds kind seed steps k_old k_new status.Memory = k_new ≡ k_old
GeneratedEnds kind seed steps k_old k_new _ = ⊥

-- Nothing was read, and there is no log.
pub record ReadNothing (c_old c_new s_old s_new : Reading) (log : List Entry) (line : ℕ) : Type 0 where
  pub scenario : c_new ≡ c_old
  pub source : s_new ≡ s_old
  pub log_is : log ≡ []
  pub line_is : line ≡ 0

-- == `pump BUDGET`
-- The source was pumped to the sink, and so the program ends so. No scenario was read, and there is no log.
pub record PumpRan (budget : ℕ) (c_old c_new s_old s_new : Reading) (k_old k_new : Writing) (log : List Entry) (line : ℕ) (end : Status) : Type 0 where
  pub scenario : c_new ≡ c_old
  pub log_is : log ≡ []
  pub line_is : line ≡ 0
  pub outcome : Result ℕ PumpError
  pub status_is : end ≡ pump_status outcome
  pub ends : PumpEnds s_old s_new k_old k_new outcome
  pub no_budget : (outcome ≡ Err pump.NoBudget) ↔ (budget ≡ 0)

-- == any words
-- the cause of each status, by what the words ask for
abbrev pub CommandEnds : Option Command → Reading → Reading → Reading → Reading → Writing → Writing → List Entry → ℕ → Status → Type 0
CommandEnds None c_old c_new s_old s_new k_old k_new log line end =
    ReadNothing c_old c_new s_old s_new log line × (k_new ≡ k_old) × (end ≡ status.BadWords)
CommandEnds (Some (Run limit)) c_old c_new s_old s_new k_old k_new log line end =
    RunEnds limit c_old c_new s_old s_new k_old k_new log line end
CommandEnds (Some (Pump budget)) c_old c_new s_old s_new k_old k_new log line end =
    PumpRan budget c_old c_new s_old s_new k_old k_new log line end
CommandEnds (Some (Generate kind seed steps)) c_old c_new s_old s_new k_old k_new log line end =
    ReadNothing c_old c_new s_old s_new log line × GeneratedEnds kind seed steps k_old k_new end

abbrev pub EndsBy : List (List ℕ) → Reading → Reading → Reading → Reading → Writing → Writing → List Entry → ℕ → Status → Type 0
EndsBy words c_old c_new s_old s_new k_old k_new log line end = CommandEnds (command_in words) c_old c_new s_old s_new k_old k_new log line end

-- The program ended with this status and line, and with its cause.
pub record RanMain (words : List (List ℕ)) (c_old c_new s_old s_new : Reading) (k_old k_new : Writing) (log : List Entry) (number line : ℕ) : Type 0 where
  pub end : Status
  pub number_is : number ≡ number_of end
  pub cause : EndsBy words c_old c_new s_old s_new k_old k_new log line end
