-- Where the program ends with status 0, unless memory runs out.
use Rattle.std.specs.Prelude.{◌≡◌, ◌≢◌, ℕ, List, ◌≤◌, ◌⊎◌, Option, Some, None, Ok, length}
use Rattle.wasi_world.specs.declared.outcome.WasiSocketsCtx.{WasiSocketsCtx}
use Rattle.wasi_world.specs.Seen.{Plan, Rose}
use Rattle.world_io.specs.Io.{Reading, Writing, CountRose}
use Rattle.world_scripted.specs.Scenario.{scenario_of}
use Rattle.wasi_commands.specs.declared.commands.Command.{Command}
use Rattle.wasi_commands.specs.declared.commands.Command.TheVariants.{Run, Pump, Generate}
use Rattle.wasi_program.specs.Scenario.{most_scenario}
use Rattle.wasi_run.specs.Script.{IsValid}

-- the numbers of Ok and of Memory
abbrev pub EndsOkOrMemory : ℕ → Type 0
EndsOkOrMemory number = (number ≡ 0) ⊎ (number ≡ 7)

-- The scenario is in its grammar and within its size, the script is valid for its contexts, and no fault and no refused piece was
-- counted.
pub record IsWellRun (limit : ℕ) (c_old c_new s_old s_new : Reading) (k_old k_new : Writing) : Type 0 where
  pub scenario : List ℕ
  pub scenario_left : c_old.left ≡ Some scenario
  pub within : length scenario ≤ most_scenario
  pub plan : Plan
  pub contexts : List WasiSocketsCtx
  pub planned : scenario_of scenario ≡ Ok (plan, contexts)
  pub script : List ℕ
  pub script_left : s_old.left ≡ Some script
  pub valid : IsValid (length contexts) limit script
  pub scenario_read : ¬ Rose c_old.faults c_new.faults
  pub script_read : ¬ Rose s_old.faults s_new.faults
  pub written : ¬ CountRose k_old k_new

-- The budget isn't 0, and no fault, no refused piece and no refused start was counted.
pub record IsWellPumped (budget : ℕ) (s_old s_new : Reading) (k_old k_new : Writing) (refused : Type 0) : Type 0 where
  pub some : budget ≢ 0
  pub read : ¬ Rose s_old.faults s_new.faults
  pub written : ¬ CountRose k_old k_new
  pub started : ¬ refused

-- of the words' command; `refused` says that a spawner counted a refused start
abbrev pub IsWell : Option Command → Reading → Reading → Reading → Reading → Writing → Writing → Type 0 → Type 0
IsWell None c_old c_new s_old s_new k_old k_new refused = ⊥
IsWell (Some (Run limit)) c_old c_new s_old s_new k_old k_new refused = IsWellRun limit c_old c_new s_old s_new k_old k_new
IsWell (Some (Pump budget)) c_old c_new s_old s_new k_old k_new refused = IsWellPumped budget s_old s_new k_old k_new refused
IsWell (Some (Generate kind seed steps)) c_old c_new s_old s_new k_old k_new refused = ¬ CountRose k_old k_new

-- what is well ends well
abbrev pub ProgramCompletes : Option Command → Reading → Reading → Reading → Reading → Writing → Writing → Type 0 → ℕ → Type 0
ProgramCompletes command c_old c_new s_old s_new k_old k_new refused number =
    IsWell command c_old c_new s_old s_new k_old k_new refused → EndsOkOrMemory number
