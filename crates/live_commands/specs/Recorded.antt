-- What became of a script over the system's sockets of which a log is kept.
use Rattle.std.specs.Prelude.{◌≡◌, ◌⊎◌, ℕ, List, [], ◌∷◌, false, true, Some, Result, Err}
use Rattle.wasi_world.specs.declared.call.Entry.{Entry}
use Rattle.wasi_world.specs.Contexts.{free_context}
use Rattle.wasi_world.specs.Seen.{Seen}
use Rattle.world_io.specs.Io.{Reading, Writing}
use Rattle.wasi_records.specs.Closing.{HasClosedAll}
use Rattle.wasi_run.specs.declared.run.RunEnd.{RunEnd}
use Rattle.wasi_run.specs.declared.error.RunError.{RunError}
use Rattle.wasi_run.specs.declared.error.RunError.TheVariants as error
use Rattle.wasi_run.specs.Headline.{RunsLicensed}
use Rattle.wasi_program.specs.declared.status.Status.TheVariants as status
use Rattle.wasi_replay.specs.Log.{log_text}
use Rattle.wasi_replay.specs.Replayed.{seen_of}
use Rattle.recorder_commands.specs.declared.log.Unwritten.{Unwritten}
use Rattle.recorder_commands.specs.declared.log.Unwritten.TheVariants as unwritten
use Rattle.recorder_commands.specs.declared.status.RecorderStatus.{RecorderStatus}
use Rattle.recorder_commands.specs.declared.status.RecorderStatus.TheVariants.{Of}
use Rattle.recorder_commands.specs.Writing.{WritesAsItComes}
use Rattle.recorder_commands.specs.Record.{status_after, place_after}

-- The script was run over a network that answered nothing before; this is what it asked, with the answers, and it is licensed; and as
-- many network sockets were closed at the end as were open.
pub record RanNoted (limit : ℕ) (s_old s_new : Reading) (k_old k_new : Writing) (log : List Entry) (result : Result RunEnd RunError) : Type 0 where
  pub seen : Seen  -- the world after it
  pub logged : seen.log ≡ Some log
  pub ended : seen.ended ≡ true
  pub licensed : RunsLicensed (free_context ∷ []) limit s_old s_new k_old k_new (seen_of [] false 0 0) seen result
  pub closed : HasClosedAll seen

-- The script was run, and the text of the run's log was written so, as it came. Where memory ran out in the run a front of it was.
pub record RanRecorded (limit : ℕ) (m_old m_new : Writing) (s_old s_new : Reading) (k_old k_new : Writing) (place : ℕ) (end : RecorderStatus) : Type 0 where
  pub log : List Entry
  pub result : Result RunEnd RunError
  pub ran : RanNoted limit s_old s_new k_old k_new log result
  pub written : Result (Unit {0}) Unwritten
  pub wrote : WritesAsItComes (log_text (free_context ∷ []) log) m_old m_new written
  pub no_memory : result ≡ Err error.Memory → written ≡ Err unwritten.Memory
  pub end_is : end ≡ status_after result written
  pub place_is : place ≡ place_after result written

-- Nothing was read and nothing written, for lack of memory.
pub record NotRecorded (m_old m_new : Writing) (s_old s_new : Reading) (k_old k_new : Writing) (place : ℕ) (end : RecorderStatus) : Type 0 where
  pub memory : end ≡ Of status.Memory
  pub place_is : place ≡ 0
  pub log_out : m_new ≡ m_old
  pub source : s_new ≡ s_old
  pub sink : k_new ≡ k_old

abbrev pub EndsRecorded : ℕ → Writing → Writing → Reading → Reading → Writing → Writing → ℕ → RecorderStatus → Type 0
EndsRecorded limit m_old m_new s_old s_new k_old k_new place end =
    NotRecorded m_old m_new s_old s_new k_old k_new place end
    ⊎ RanRecorded limit m_old m_new s_old s_new k_old k_new place end
