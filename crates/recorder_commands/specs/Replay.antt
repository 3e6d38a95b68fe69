-- How a run on the answers of a log ends the program.
use Rattle.std.specs.Prelude.{◌≡◌, ℕ, ◌⊎◌, List, Result, Ok, Err}
use Rattle.wasi_world.specs.declared.call.Entry.{Entry}
use Rattle.wasi_world.specs.declared.outcome.WasiSocketsCtx.{WasiSocketsCtx}
use Rattle.world_io.specs.Io.{Reading, Writing}
use Rattle.wasi_run.specs.declared.error.RunError.{RunError}
use Rattle.wasi_program.specs.Status as program
use Rattle.wasi_program.specs.declared.status.Status.TheVariants as status
use Rattle.wasi_recorder.specs.declared.replaying.ReplayEnd.{ReplayEnd}
use Rattle.wasi_recorder.specs.declared.replaying.ReplayEnd.TheVariants as end
use Rattle.wasi_recorder.specs.Outcome.{Replayed, Compares, Stops}
use Rattle.wasi_recorder.specs.declared.front.FrontEnd.{FrontEnd}
use Rattle.wasi_recorder.specs.declared.front.FrontEnd.TheVariants as front
use Rattle.wasi_recorder.specs.Front.{FrontReplayed, FrontStops}
use Rattle.recorder_commands.specs.declared.status.RecorderStatus.{RecorderStatus}
use Rattle.recorder_commands.specs.declared.status.RecorderStatus.TheVariants.{Of, Differs, LogEnds}
use Rattle.recorder_commands.specs.Log.{LogRead, LogCut, NoLogSince}

-- how a replay is reported
abbrev pub status_of : Result ReplayEnd RunError → RecorderStatus
status_of (Ok (end.Same e)) = Of status.Ok
status_of (Ok (end.Differs place)) = Differs
status_of (Err e) = Of (program.status_of (Err e))

-- the place of the first entry that differs, or the line of a step that is none, else 0
abbrev pub place_of : Result ReplayEnd RunError → ℕ
place_of (Ok (end.Same e)) = 0
place_of (Ok (end.Differs place)) = place
place_of (Err e) = program.bad_line_of (Err e)

-- what a replay made of the script and the entries: the replies of a run that asks just what is recorded, or where it differs
abbrev pub ReplaysSo : ℕ → List WasiSocketsCtx → List Entry → Reading → Reading → Writing → Writing → Result ReplayEnd RunError → Type 0
ReplaysSo limit contexts entries s_old s_new k_old k_new (Ok e) = Replayed contexts limit s_old s_new (Compares contexts entries k_old k_new e)
ReplaysSo limit contexts entries s_old s_new k_old k_new (Err e) = Stops contexts entries limit s_old s_new k_old k_new e

-- The script was run on the answers of these entries, and so the program ends so.
pub record RunsOnLog (limit : ℕ) (contexts : List WasiSocketsCtx) (entries : List Entry) (s_old s_new : Reading) (k_old k_new : Writing) (place : ℕ) (end : RecorderStatus) : Type 0 where
  pub outcome : Result ReplayEnd RunError
  pub replays : ReplaysSo limit contexts entries s_old s_new k_old k_new outcome
  pub end_is : end ≡ status_of outcome
  pub place_is : place ≡ place_of outcome

-- The log was read whole, and the script was run on its answers.
pub record LogReplayed (limit : ℕ) (l_old l_new s_old s_new : Reading) (k_old k_new : Writing) (place : ℕ) (end : RecorderStatus) : Type 0 where
  pub contexts : List WasiSocketsCtx
  pub entries : List Entry
  pub read : LogRead l_old l_new contexts entries
  pub runs : RunsOnLog limit contexts entries s_old s_new k_old k_new place end

-- == a log that was cut
abbrev pub status_of_front : Result FrontEnd RunError → RecorderStatus
status_of_front (Ok front.LogEnds) = LogEnds
status_of_front (Ok (front.Of e)) = status_of (Ok e)
status_of_front (Err e) = status_of (Err e)

abbrev pub place_of_front : Result FrontEnd RunError → ℕ
place_of_front (Ok front.LogEnds) = 0
place_of_front (Ok (front.Of e)) = place_of (Ok e)
place_of_front (Err e) = place_of (Err e)

-- the replies of the lines before the log ended, or as on a whole log
abbrev pub ReplaysCutSo : ℕ → List WasiSocketsCtx → List Entry → Reading → Reading → Writing → Writing → Result FrontEnd RunError → Type 0
ReplaysCutSo limit contexts entries s_old s_new k_old k_new (Ok e) = FrontReplayed contexts entries limit s_old s_new k_old k_new e
ReplaysCutSo limit contexts entries s_old s_new k_old k_new (Err e) = FrontStops contexts entries limit s_old s_new k_old k_new e

-- The script was run on the answers of these entries of a log that was cut, and so the program ends so.
pub record RunsOnCut (limit : ℕ) (contexts : List WasiSocketsCtx) (entries : List Entry) (s_old s_new : Reading) (k_old k_new : Writing) (place : ℕ) (end : RecorderStatus) : Type 0 where
  pub outcome : Result FrontEnd RunError
  pub replays : ReplaysCutSo limit contexts entries s_old s_new k_old k_new outcome
  pub end_is : end ≡ status_of_front outcome
  pub place_is : place ≡ place_of_front outcome

-- The log was read to its end and is one that was cut, and the script was run on its answers.
pub record CutReplayed (limit : ℕ) (l_old l_new s_old s_new : Reading) (k_old k_new : Writing) (place : ℕ) (end : RecorderStatus) : Type 0 where
  pub contexts : List WasiSocketsCtx
  pub entries : List Entry
  pub read : LogCut l_old l_new contexts entries
  pub runs : RunsOnCut limit contexts entries s_old s_new k_old k_new place end

-- Nothing was read from the source or written to the sink, for this reason.
pub record NothingReplayed (s_old s_new : Reading) (k_old k_new : Writing) (P : Type 0) : Type 0 where
  pub source : s_new ≡ s_old
  pub sink : k_new ≡ k_old
  pub because : P

-- how `replay LIMIT` ends
abbrev pub ReplayEnds : ℕ → Reading → Reading → Reading → Reading → Writing → Writing → ℕ → RecorderStatus → Type 0
ReplayEnds limit l_old l_new s_old s_new k_old k_new place end =
    NothingReplayed s_old s_new k_old k_new (NoLogSince l_old l_new end place)
    ⊎ LogReplayed limit l_old l_new s_old s_new k_old k_new place end
    ⊎ CutReplayed limit l_old l_new s_old s_new k_old k_new place end
