-- How a run that is recorded ends the program.
use Rattle.std.specs.Prelude.{◌≡◌, ℕ, ◌⊎◌, List, [], Result, Ok, Err}
use Rattle.wasi_world.specs.declared.call.Entry.{Entry}
use Rattle.wasi_world.specs.declared.outcome.WasiSocketsCtx.{WasiSocketsCtx}
use Rattle.wasi_world.specs.Seen.{Plan, Rose}
use Rattle.world_io.specs.Io.{Reading, Writing}
use Rattle.world_scripted.specs.Scenario.{scenario_of}
use Rattle.wasi_run.specs.declared.run.RunEnd.{RunEnd}
use Rattle.wasi_run.specs.declared.error.RunError.{RunError}
use Rattle.wasi_run.specs.declared.error.RunError.TheVariants as error
use Rattle.wasi_program.specs.Scenario.{ReadScenario, HasBadLine, IsPlanned}
use Rattle.wasi_program.specs.Planned.{RanPlan}
use Rattle.wasi_program.specs.Status.{status_of, bad_line_of}
use Rattle.wasi_program.specs.declared.status.Status.{Status}
use Rattle.wasi_program.specs.declared.status.Status.TheVariants as status
use Rattle.wasi_replay.specs.Log.{log_text}
use Rattle.recorder_commands.specs.declared.log.Unwritten.{Unwritten}
use Rattle.recorder_commands.specs.declared.log.Unwritten.TheVariants as unwritten
use Rattle.recorder_commands.specs.declared.scenario.FoundScenario.{FoundScenario}
use Rattle.recorder_commands.specs.declared.scenario.FoundScenario.TheVariants.{Planned, Stopped}
use Rattle.recorder_commands.specs.declared.status.RecorderStatus.{RecorderStatus}
use Rattle.recorder_commands.specs.declared.status.RecorderStatus.TheVariants.{Of, LogFault}
use Rattle.recorder_commands.specs.Log.{WritesLog}

-- == the scenario
-- why there is no plan, by how the program ends
abbrev pub NoPlanSince : Reading → Reading → Status → ℕ → Type 0
NoPlanSince c_old c_new status.BadScenario line = HasBadLine c_old c_new line
NoPlanSince c_old c_new status.ScenarioFault line = Rose c_old.faults c_new.faults × (line ≡ 0)
NoPlanSince c_old c_new status.Memory line = line ≡ 0
NoPlanSince c_old c_new _ line = ⊥

-- the plan of a scenario that was read whole, or why there is none
abbrev pub IsFoundSo : Reading → Reading → FoundScenario → Type 0
IsFoundSo c_old c_new (Planned world contexts) = (text : List ℕ) × ReadScenario c_old c_new text × IsPlanned text world contexts.items
IsFoundSo c_old c_new (Stopped end line) = NoPlanSince c_old c_new end line

-- == the run
-- how a run is reported whose log was written so: only where it was written whole as the run ended
abbrev pub status_after : Result RunEnd RunError → Result (Unit {0}) Unwritten → RecorderStatus
status_after result (Ok done) = Of (status_of result)
status_after result (Err unwritten.Fault) = LogFault
status_after result (Err unwritten.Memory) = Of status.Memory

-- the line of a step that is none, where that is how the run is reported, else 0
abbrev pub place_after : Result RunEnd RunError → Result (Unit {0}) Unwritten → ℕ
place_after result (Ok done) = bad_line_of result
place_after result (Err e) = 0

-- The text is a scenario in its grammar, the script was run over its plan, and the text of the run's log was written so. Where
-- memory ran out in the run nothing was.
pub record RecordsPlan (limit : ℕ) (text : List ℕ) (contexts : List WasiSocketsCtx) (m_old m_new : Writing) (s_old s_new : Reading) (k_old k_new : Writing) (log : List Entry) (place : ℕ) (end : RecorderStatus) : Type 0 where
  pub plan : Plan
  pub scenario : scenario_of text ≡ Ok (plan, contexts)
  pub result : Result RunEnd RunError
  pub ran : RanPlan plan contexts limit s_old s_new k_old k_new log result
  pub written : Result (Unit {0}) Unwritten
  pub wrote : WritesLog (log_text contexts log) m_old m_new written
  pub no_memory : result ≡ Err error.Memory → written ≡ Err unwritten.Memory
  pub end_is : end ≡ status_after result written
  pub place_is : place ≡ place_after result written

-- The scenario was read whole, and a run over it was recorded.
pub record Recorded (limit : ℕ) (c_old c_new : Reading) (m_old m_new : Writing) (s_old s_new : Reading) (k_old k_new : Writing) (log : List Entry) (place : ℕ) (end : RecorderStatus) : Type 0 where
  pub text : List ℕ
  pub read : ReadScenario c_old c_new text
  pub contexts : List WasiSocketsCtx
  pub records : RecordsPlan limit text contexts m_old m_new s_old s_new k_old k_new log place end

-- No run began, for this reason: nothing was read from the source or written, and there is no log.
pub record NoRun (m_old m_new : Writing) (s_old s_new : Reading) (k_old k_new : Writing) (log : List Entry) (P : Type 0) : Type 0 where
  pub log_out : m_new ≡ m_old
  pub source : s_new ≡ s_old
  pub sink : k_new ≡ k_old
  pub log_is : log ≡ []
  pub because : P

-- why no run began, by how the program ends
abbrev pub NoRunSince : Reading → Reading → RecorderStatus → ℕ → Type 0
NoRunSince c_old c_new (Of end) place = NoPlanSince c_old c_new end place
NoRunSince c_old c_new _ place = ⊥

-- how `record LIMIT` ends
abbrev pub RecordEnds : ℕ → Reading → Reading → Writing → Writing → Reading → Reading → Writing → Writing → List Entry → ℕ → RecorderStatus → Type 0
RecordEnds limit c_old c_new m_old m_new s_old s_new k_old k_new log place end =
    NoRun m_old m_new s_old s_new k_old k_new log (NoRunSince c_old c_new end place)
    ⊎ Recorded limit c_old c_new m_old m_new s_old s_new k_old k_new log place end
