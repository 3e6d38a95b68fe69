-- How the program ends, by what its words ask for.
use Rattle.std.specs.Prelude.{◌≡◌, ℕ, List, [], Option, Some, None}
use Rattle.wasi_world.specs.declared.call.Entry.{Entry}
use Rattle.world_io.specs.Io.{Reading, Writing}
use Rattle.wasi_program.specs.declared.status.Status.TheVariants as status
use Rattle.recorder_commands.specs.declared.status.Command.{Command}
use Rattle.recorder_commands.specs.declared.status.Command.TheVariants.{Record, Replay, Draw}
use Rattle.recorder_commands.specs.declared.status.RecorderStatus.{RecorderStatus}
use Rattle.recorder_commands.specs.declared.status.RecorderStatus.TheVariants.{Of}
use Rattle.recorder_commands.specs.Words.{command_in, number_of}
use Rattle.recorder_commands.specs.Record.{RecordEnds}
use Rattle.recorder_commands.specs.Replay.{ReplayEnds}
use Rattle.recorder_commands.specs.Draw.{DrawEnds}

-- No run was recorded: the scenario wasn't read, no log was written, and none is handed out.
pub record NotRecorded (c_old c_new : Reading) (m_old m_new : Writing) (log : List Entry) : Type 0 where
  pub scenario : c_new ≡ c_old
  pub log_out : m_new ≡ m_old
  pub log_is : log ≡ []

-- how a command ends
abbrev pub CommandEnds : Command → Reading → Reading → Reading → Reading → Writing → Writing → Reading → Reading → Writing → Writing → List Entry → ℕ → RecorderStatus → Type 0
CommandEnds (Record limit) c_old c_new l_old l_new m_old m_new s_old s_new k_old k_new log place end =
    (l_new ≡ l_old) × RecordEnds limit c_old c_new m_old m_new s_old s_new k_old k_new log place end
CommandEnds (Replay limit) c_old c_new l_old l_new m_old m_new s_old s_new k_old k_new log place end =
    NotRecorded c_old c_new m_old m_new log × ReplayEnds limit l_old l_new s_old s_new k_old k_new place end
CommandEnds (Draw part) c_old c_new l_old l_new m_old m_new s_old s_new k_old k_new log place end =
    NotRecorded c_old c_new m_old m_new log × (s_new ≡ s_old) × DrawEnds l_old l_new k_old k_new place end

-- Nothing was read or written.
pub record DidNothing (l_old l_new s_old s_new : Reading) (k_old k_new : Writing) : Type 0 where
  pub log_in : l_new ≡ l_old
  pub source : s_new ≡ s_old
  pub sink : k_new ≡ k_old

-- how the words end the program
abbrev pub WordsEnd : Option Command → Reading → Reading → Reading → Reading → Writing → Writing → Reading → Reading → Writing → Writing → List Entry → ℕ → RecorderStatus → Type 0
WordsEnd None c_old c_new l_old l_new m_old m_new s_old s_new k_old k_new log place end =
    NotRecorded c_old c_new m_old m_new log × DidNothing l_old l_new s_old s_new k_old k_new × (end ≡ Of status.BadWords) × (place ≡ 0)
WordsEnd (Some command) c_old c_new l_old l_new m_old m_new s_old s_new k_old k_new log place end =
    CommandEnds command c_old c_new l_old l_new m_old m_new s_old s_new k_old k_new log place end

-- The program ended with this number and place, and with its cause.
pub record RanMain (words : List (List ℕ)) (c_old c_new l_old l_new : Reading) (m_old m_new : Writing) (s_old s_new : Reading) (k_old k_new : Writing) (log : List Entry) (place number : ℕ) : Type 0 where
  pub end : RecorderStatus
  pub number_is : number ≡ number_of end
  pub cause : WordsEnd (command_in words) c_old c_new l_old l_new m_old m_new s_old s_new k_old k_new log place end
