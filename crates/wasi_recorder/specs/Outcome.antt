-- What a replay makes of a script and a recorded log.
use Rattle.std.specs.Prelude.{◌≡◌, ℕ, ◌≤◌, nat_lt, if◌then◌else◌, List, [], Option, Some, None, Result, Ok, Err, length, take}
use Rattle.wasi_world.specs.declared.call.Entry.{Entry}
use Rattle.wasi_world.specs.declared.outcome.WasiSocketsCtx.{WasiSocketsCtx}
use Rattle.wasi_world.specs.Seen.{Rose}
use Rattle.wasi_world.specs.Asks.{Give, Left}
use Rattle.world_io.specs.Io.{Reading, Writing, Gave, HasEnded}
use Rattle.world_io.specs.Written.{TookAll, TookPart}
use Rattle.world_text.specs.Lines.{lines_of, rest_of}
use Rattle.host_store.specs.declared.machine.Machine.{Machine}
use Rattle.host_store.specs.Machine.{first_state}
use Rattle.wasi_machine.specs.Machine.{run}
use Rattle.wasi_steps.specs.declared.step.Step.{Step}
use Rattle.wasi_steps.specs.declared.reply.Reply.{Reply}
use Rattle.wasi_run.specs.declared.run.RunEnd.{RunEnd}
use Rattle.wasi_run.specs.declared.run.RunEnd.TheVariants.{AllRead, Trapped}
use Rattle.wasi_run.specs.declared.error.RunError.{RunError}
use Rattle.wasi_run.specs.declared.error.RunError.TheVariants.{WriteFault, ReadFault, BadStep, TooLong}
use Rattle.wasi_run.specs.Lines.{StartWith}
use Rattle.wasi_run.specs.Ran.{texts, NoTrap, OneTrap}
use Rattle.wasi_recorder.specs.declared.replaying.ReplayEnd.{ReplayEnd}
use Rattle.wasi_recorder.specs.declared.replaying.ReplayEnd.TheVariants.{Same, Differs}
use Rattle.wasi_recorder.specs.Replays.{DiffersAt}

-- why the lines that were done are all: the script has no more, or the last of them trapped
abbrev pub EndsSo : ℕ → List ℕ → Reading → List Step → List Reply → RunEnd → Type 0
EndsSo limit text after steps replies AllRead = (length text ≤ limit) × (length steps ≡ length (lines_of text)) × (rest_of text ≡ []) × HasEnded after × NoTrap replies
EndsSo limit text after steps replies Trapped = OneTrap replies

-- the run of these steps asks just what is recorded, and gives these replies
abbrev pub AsksAsRecorded : List WasiSocketsCtx → List Entry → List Step → List Reply → Machine → Type 0
AsksAsRecorded contexts recorded steps replies state = Left (run contexts [] first_state 1 steps) recorded (Give (replies, state))

-- what is written: the replies of a run that asks just what is recorded; and nothing where it differs
abbrev pub Compares : List WasiSocketsCtx → List Entry → Writing → Writing → ReplayEnd → List Step → List Reply → Machine → RunEnd → Type 0
Compares contexts recorded k_old k_new (Same e) steps replies state end =
    (e ≡ end) × AsksAsRecorded contexts recorded steps replies state × TookAll k_old (texts replies) k_new
Compares contexts recorded k_old k_new (Differs place) steps replies state end =
    DiffersAt (run contexts [] first_state 1 steps) recorded place × (k_new ≡ k_old)

-- it asks just what is recorded, and the writer took no more than a part of its replies
abbrev pub IsCut : List WasiSocketsCtx → List Entry → Writing → Writing → List Step → List Reply → Machine → RunEnd → Type 0
IsCut contexts recorded k_old k_new steps replies state end =
    AsksAsRecorded contexts recorded steps replies state × TookPart k_old (texts replies) k_new

-- The first lines that the reader gave were done on answers of a recorded log until the run ended, and of that this holds.
pub record Replayed (contexts : List WasiSocketsCtx) (limit : ℕ) (before after : Reading) (P : List Step → List Reply → Machine → RunEnd → Type 0) : Type 0 where
  pub text : List ℕ
  pub gave : Gave before text after
  pub steps : List Step
  pub first_lines : StartWith (length contexts) (lines_of (take limit text)) steps
  pub replies : List Reply
  pub answered : length replies ≡ length steps
  pub state : Machine
  pub end : RunEnd
  pub ends : EndsSo limit text after steps replies end
  pub holds : P steps replies state end

-- what an error says: a write failed only where the run asked just what is recorded; at another error nothing was written
abbrev pub Stops : List WasiSocketsCtx → List Entry → ℕ → Reading → Reading → Writing → Writing → RunError → Type 0
Stops contexts recorded limit before after k_old k_new WriteFault = Replayed contexts limit before after (IsCut contexts recorded k_old k_new)
Stops contexts recorded limit before after k_old k_new ReadFault = Rose before.faults after.faults × (k_new ≡ k_old)
Stops contexts recorded limit before after k_old k_new e = k_new ≡ k_old

-- == the parts of a replay
-- where a run differs that made so many calls, of as many recorded ones
abbrev pub first_difference : Option ℕ → ℕ → ℕ → Option ℕ
first_difference (Some place) made count = Some place
first_difference None made count = if nat_lt made count then Some made else None

-- how a replay ends, where the run ended so, differs there and has these replies
abbrev pub Finishes : Result RunEnd RunError → Option ℕ → List ℕ → Writing → Writing → Result ReplayEnd RunError → Type 0
Finishes outcome differs replies k_old k_new (Ok (Same end)) = (outcome ≡ Ok end) × (differs ≡ None) × TookAll k_old replies k_new
Finishes outcome differs replies k_old k_new (Ok (Differs place)) = ((end : RunEnd) × (outcome ≡ Ok end)) × (differs ≡ Some place) × (k_new ≡ k_old)
Finishes outcome differs replies k_old k_new (Err WriteFault) = ((end : RunEnd) × (outcome ≡ Ok end)) × (differs ≡ None) × TookPart k_old replies k_new
Finishes outcome differs replies k_old k_new (Err ReadFault) = (outcome ≡ Err ReadFault) × (k_new ≡ k_old)
Finishes outcome differs replies k_old k_new (Err (BadStep line)) = (outcome ≡ Err (BadStep line)) × (k_new ≡ k_old)
Finishes outcome differs replies k_old k_new (Err TooLong) = (outcome ≡ Err TooLong) × (k_new ≡ k_old)
Finishes outcome differs replies k_old k_new (Err e) = k_new ≡ k_old
