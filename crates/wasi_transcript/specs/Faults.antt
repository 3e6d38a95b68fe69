-- Why a script wasn't run again.
use Rattle.std.specs.Prelude.{◌≡◌, ℕ, List, Err}
use Rattle.world_scripted.specs.Scenario.{scenario_of}
use Rattle.wasi_transcript.specs.declared.faults.NotRun.{NotRun}
use Rattle.wasi_transcript.specs.declared.faults.NotRun.TheVariants.{BadScenario, Memory}

-- the line that isn't in the scenario's grammar, where that is why nothing was run
abbrev pub BadLineIn : List ℕ → NotRun → Type 0
BadLineIn scenario (BadScenario line) = scenario_of scenario ≡ Err line
BadLineIn scenario Memory = Unit {0}
