-- How a drawing ends the program. Nothing is said of the picture.
use Rattle.std.specs.Prelude.{◌≡◌, ℕ, ◌⊎◌, List}
use Rattle.wasi_world.specs.declared.call.Entry.{Entry}
use Rattle.wasi_world.specs.declared.outcome.WasiSocketsCtx.{WasiSocketsCtx}
use Rattle.world_io.specs.Io.{Reading, Writing}
use Rattle.world_io.specs.Written.{TookAll, TookPart}
use Rattle.wasi_program.specs.declared.status.Status.TheVariants as status
use Rattle.recorder_commands.specs.declared.status.RecorderStatus.{RecorderStatus}
use Rattle.recorder_commands.specs.declared.status.RecorderStatus.TheVariants.{Of}
use Rattle.recorder_commands.specs.Log.{LogRead, LogCut, NoLogSince}

-- a picture was written whole, or in part; or memory ran out, and nothing was
abbrev pub DrawsSo : Writing → Writing → RecorderStatus → Type 0
DrawsSo k_old k_new (Of status.Ok) = (picture : List ℕ) × TookAll k_old picture k_new
DrawsSo k_old k_new (Of status.WriteFault) = (picture : List ℕ) × TookPart k_old picture k_new
DrawsSo k_old k_new (Of status.Memory) = k_new ≡ k_old
DrawsSo k_old k_new _ = ⊥

-- The log was read, whole or cut, and a picture of it was written so.
pub record LogDrawn (l_old l_new : Reading) (k_old k_new : Writing) (place : ℕ) (end : RecorderStatus) : Type 0 where
  pub contexts : List WasiSocketsCtx
  pub entries : List Entry
  pub read : LogRead l_old l_new contexts entries ⊎ LogCut l_old l_new contexts entries
  pub draws : DrawsSo k_old k_new end
  pub place_is : place ≡ 0

-- how `draw` ends
abbrev pub DrawEnds : Reading → Reading → Writing → Writing → ℕ → RecorderStatus → Type 0
DrawEnds l_old l_new k_old k_new place end =
    ((k_new ≡ k_old) × NoLogSince l_old l_new end place) ⊎ LogDrawn l_old l_new k_old k_new place end
