-- A run over a scenario's plan.
use Rattle.std.specs.Prelude.{◌≡◌, ℕ, true, List, Some, Result}
use Rattle.wasi_world.specs.declared.call.Entry.{Entry}
use Rattle.wasi_world.specs.declared.outcome.WasiSocketsCtx.{WasiSocketsCtx}
use Rattle.wasi_world.specs.Script.{IsScripted}
use Rattle.wasi_world.specs.Seen.{Plan, Seen}
use Rattle.world_io.specs.Io.{Reading, Writing}
use Rattle.world_scripted.specs.Scripted.{at_start}
use Rattle.wasi_records.specs.Closing.{HasClosedAll}
use Rattle.wasi_run.specs.declared.run.RunEnd.{RunEnd}
use Rattle.wasi_run.specs.declared.error.RunError.{RunError}
use Rattle.wasi_run.specs.Headline.{RunsLicensed}

-- The script was run over the plan, and ended so.
pub record RanPlan (plan : Plan) (contexts : List WasiSocketsCtx) (limit : ℕ) (s_old s_new : Reading) (k_old k_new : Writing) (log : List Entry) (result : Result RunEnd RunError) : Type 0 where
  pub seen : Seen  -- the world after it
  pub logged : seen.log ≡ Some log
  pub ended : seen.ended ≡ true
  pub licensed : RunsLicensed contexts limit s_old s_new k_old k_new (at_start plan) seen result
  pub closed : HasClosedAll seen
  pub scripted : IsScripted plan log
