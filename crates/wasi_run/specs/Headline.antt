-- The headline: whatever a run answers, its log is licensed by the steps that it did and met, with the replies that it gave.
use Rattle.std.specs.Prelude.{◌≡◌, ℕ, List, [], ◌++◌, Some, IfSome, Result}
use Rattle.wasi_world.specs.declared.outcome.WasiSocketsCtx.{WasiSocketsCtx}
use Rattle.wasi_world.specs.Seen.{Seen}
use Rattle.world_io.specs.Io.{Reading, Writing}
use Rattle.wasi_machine.specs.Machine.{HasRun}
use Rattle.wasi_run.specs.declared.error.RunError.{RunError}
use Rattle.wasi_walks.specs.Licence.{IsLicensed}
use Rattle.wasi_run.specs.declared.run.RunEnd.{RunEnd}
use Rattle.wasi_run.specs.Script.{RanScript}

-- The script ran so; and where the world reports its log, which was empty, it is that of a run of the steps that were done and
-- of the one met, with these replies, and is licensed by them.
pub record RunsLicensed (contexts : List WasiSocketsCtx) (limit : ℕ) (before after : Reading) (k_old k_new : Writing) (w_old w_new : Seen) (result : Result RunEnd RunError) : Type 0 where
  pub ran : RanScript contexts limit before after k_old k_new w_old w_new result
  pub licensed : w_old.log ≡ Some [] → IfSome w_new.log (λ log.
      let lines = ran.over.ran in
      HasRun contexts (lines.steps ++ lines.met) log lines.replies × IsLicensed contexts (lines.steps ++ lines.met) log lines.replies)
