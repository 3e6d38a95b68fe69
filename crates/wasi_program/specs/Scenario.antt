-- How a scenario is read from a source, and what it is in its grammar.
use Rattle.std.specs.Prelude.{◌≡◌, ℕ, ◌<◌, ◌^◌, List, Ok, Err, length}
use Rattle.wasi_world.specs.declared.outcome.WasiSocketsCtx.{WasiSocketsCtx}
use Rattle.wasi_world.specs.Contexts.{AreNumbered}
use Rattle.wasi_world.specs.Seen.{Plan}
use Rattle.world_io.specs.Io.{Reading}
use Rattle.world_scripted.specs.declared.scripted.ScriptedWorld.{ScriptedWorld}
use Rattle.world_scripted.specs.Scenario.{scenario_of}
use Rattle.world_scripted.specs.Scripted.{seen_by, at_start}
use Rattle.wasi_program.specs.Reading.{ReadWithin}
use Rattle.wasi_program.specs.declared.scenario.Scenario.{Scenario}
use Rattle.wasi_program.specs.declared.scenario.Scenario.TheVariants.{Planned, BadLine}

-- a scenario has at most so many bytes
abbrev pub most_scenario : ℕ
most_scenario = 1048576

-- the scenario was read to its end, or to one byte past the most
abbrev pub ReadScenario : Reading → Reading → List ℕ → Type 0
ReadScenario before after text = ReadWithin most_scenario before after text

-- The scenario was read whole, and this is its first line that isn't in its grammar.
pub record HasBadLine (c_old c_new : Reading) (line : ℕ) : Type 0 where
  pub text : List ℕ
  pub read : ReadScenario c_old c_new text
  pub bad : scenario_of text ≡ Err line

-- A world that goes by the scenario's plan, before its first call, and the scenario's contexts.
pub record IsPlanned (text : List ℕ) (world : ScriptedWorld) (contexts : List WasiSocketsCtx) : Type 0 where
  pub plan : Plan
  pub scenario : scenario_of text ≡ Ok (plan, contexts)
  pub world_is : seen_by world ≡ at_start plan
  pub numbered : AreNumbered contexts
  pub few : length contexts < 2 ^ 32

abbrev pub IsParsed : List ℕ → Scenario → Type 0
IsParsed text (Planned world contexts) = IsPlanned text world contexts.items
IsParsed text (BadLine line) = scenario_of text ≡ Err line
