-- What became of the lines of a script, before its end.
use Rattle.std.specs.Prelude.{◌≡◌, ℕ, List, Result, Ok, Err}
use Rattle.wasi_world.specs.declared.outcome.WasiSocketsCtx.{WasiSocketsCtx}
use Rattle.world_io.specs.Io.{Reading, Writing, Took}
use Rattle.wasi_world.specs.Seen.{Seen}
use Rattle.host_store.specs.declared.machine.Machine.{Machine}
use Rattle.host_store.specs.Machine.{first_state}
use Rattle.host_store.specs.KnownSides.{KnowsSides}
use Rattle.wasi_run.specs.declared.run.RunEnd.{RunEnd}
use Rattle.wasi_run.specs.declared.error.RunError.{RunError}
use Rattle.wasi_run.specs.declared.error.RunError.TheVariants.{Memory, WriteFault}
use Rattle.wasi_transcript.specs.declared.show.Stop.{Stop}
use Rattle.wasi_transcript.specs.Shown.{Done, Stops, WroteLines, outcome_of}

-- The lines were done and their part of the transcript was written, until the run stopped so.
pub record LinesShown (contexts : List WasiSocketsCtx) (limit : ℕ) (s_old s_new : Reading) (k_old k_new : Writing) (w_old w_new : Seen) (last : Machine) (line : List ℕ) (result : Result RunEnd RunError) : Type 0 where
  pub done : Done contexts limit s_old s_new w_old w_new
  pub stops : Stops contexts limit s_old s_new w_old w_new done line result
  pub written : List ℕ
  pub took : Took k_old written k_new
  pub wrote : WroteLines done.exchanges written k_old k_new result
  pub closings : w_new.closings ≡ w_old.closings
  pub sides : KnowsSides w_old first_state.store → KnowsSides w_new last.store

-- how the lines ended
abbrev pub ended : Result Stop RunError → Result RunEnd RunError
ended (Ok stop) = outcome_of stop
ended (Err e) = Err e

-- memory ran out, or a write failed
abbrev pub IsHalt : RunError → Type 0
IsHalt Memory = Unit {0}
IsHalt WriteFault = Unit {0}
IsHalt _ = ⊥
