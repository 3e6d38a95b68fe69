-- What each end of a script says of what was read, asked and written.
use Rattle.std.specs.Prelude.{◌≡◌, ◌≢◌, ℕ, List, [], ◌++◌, ◌+◌, ◌≤◌, ◌⊎◌, take, length}
use Rattle.wasi_world.specs.declared.outcome.WasiSocketsCtx.{WasiSocketsCtx}
use Rattle.wasi_world.specs.Seen.{Seen, Rose}
use Rattle.wasi_world.specs.Asks.{Give, Reaches, Started}
use Rattle.world_io.specs.Io.{Reading, Writing, Gave, HasEnded, Took, SameCounts, CountRose}
use Rattle.host_store.specs.declared.machine.Machine.{Machine}
use Rattle.wasi_steps.specs.declared.step.Step.{Step}
use Rattle.wasi_steps.specs.declared.reply.Reply.{Reply}
use Rattle.host_store.specs.Machine.{first_state}
use Rattle.wasi_machine.specs.Machine.{run}
use Rattle.world_text.specs.Lines.{lines_of, rest_of}
use Rattle.wasi_run.specs.Lines.{after_lines, StartWith, BadAfter}
use Rattle.wasi_records.specs.Closing.{AsksNothing}
use Rattle.wasi_run.specs.Ran.{texts, NoTrap, OneTrap, CutLast, Met}

-- What was asked is a prefix of the run of the first lines that the reader gave.
pub record BeginsRun (contexts : List WasiSocketsCtx) (limit : ℕ) (before after : Reading) (w_old w_new : Seen) : Type 0 where
  pub text : List ℕ
  pub gave : Gave before text after
  pub steps : List Step
  pub first_lines : StartWith (length contexts) (lines_of (take limit text)) steps
  pub stopped : Seen
  pub began : Started (run contexts [] first_state 1 steps) w_old stopped
  pub quiet : AsksNothing stopped w_new

-- The first lines that the reader gave were done and answered, and nothing else was asked or written.
pub record DoneLines (contexts : List WasiSocketsCtx) (limit : ℕ) (before after : Reading) (k_old k_new : Writing) (w_old w_new : Seen) : Type 0 where
  pub text : List ℕ
  pub gave : Gave before text after
  pub steps : List Step
  pub first_lines : StartWith (length contexts) (lines_of (take limit text)) steps
  pub replies : List Reply
  pub state : Machine
  pub stopped : Seen
  pub ran : Reaches (run contexts [] first_state 1 steps) (Give (replies, state)) w_old stopped
  pub quiet : AsksNothing stopped w_new
  pub answered : length replies ≡ length steps
  pub took : Took k_old (texts replies) k_new

-- All lines were done, none of them a trap, and the reader gave its end after the last.
pub record ReadsAll (contexts : List WasiSocketsCtx) (limit : ℕ) (before after : Reading) (k_old k_new : Writing) (w_old w_new : Seen) : Type 0 where
  pub done : DoneLines contexts limit before after k_old k_new w_old w_new
  pub within : length done.text ≤ limit
  pub all : length done.steps ≡ length (lines_of done.text)
  pub whole : rest_of done.text ≡ []
  pub no_trap : NoTrap done.replies
  pub ended : HasEnded after

-- The last line that was done trapped, and at most so many bytes past its newline were read.
pub record StopsAtTrap (most : ℕ) (contexts : List WasiSocketsCtx) (limit : ℕ) (before after : Reading) (k_old k_new : Writing) (w_old w_new : Seen) : Type 0 where
  pub done : DoneLines contexts limit before after k_old k_new w_old w_new
  pub trap : OneTrap done.replies
  pub ahead : length (after_lines (length done.steps) done.text) ≤ most

-- The lines are as many as the steps, and the text ends inside the next.
pub record EndsInside (limit : ℕ) (text : List ℕ) (count : ℕ) (after : Reading) : Type 0 where
  pub within : length text ≤ limit
  pub all : count ≡ length (lines_of text)
  pub rest : rest_of text ≢ []
  pub ended : HasEnded after

-- The line of this number isn't a step, or the input ended inside it; those before were done, none of them a trap.
pub record StopsAtBadStep (contexts : List WasiSocketsCtx) (limit : ℕ) (before after : Reading) (k_old k_new : Writing) (w_old w_new : Seen) (line : ℕ) : Type 0 where
  pub done : DoneLines contexts limit before after k_old k_new w_old w_new
  pub number : line ≡ length done.steps + 1
  pub bad : BadAfter (length contexts) (lines_of (take limit done.text)) done.steps ⊎ EndsInside limit done.text (length done.steps) after
  pub no_trap : NoTrap done.replies

-- The reader gave one byte past the limit, and all lines within were done, none of them a trap.
pub record StopsTooLong (contexts : List WasiSocketsCtx) (limit : ℕ) (before after : Reading) (k_old k_new : Writing) (w_old w_new : Seen) : Type 0 where
  pub done : DoneLines contexts limit before after k_old k_new w_old w_new
  pub past : length done.text ≡ limit + 1
  pub all : length done.steps ≡ length (lines_of (take limit done.text))
  pub no_trap : NoTrap done.replies

-- A read failed, which the reader counted; all whole lines before it were done, none of them a trap.
pub record StopsAtReadFault (contexts : List WasiSocketsCtx) (limit : ℕ) (before after : Reading) (k_old k_new : Writing) (w_old w_new : Seen) : Type 0 where
  pub done : DoneLines contexts limit before after k_old k_new w_old w_new
  pub rose : Rose before.faults after.faults
  pub all : length done.steps ≡ length (lines_of (take limit done.text))
  pub no_trap : NoTrap done.replies

-- A write of the last reply failed or took nothing, which the writer counted. The lines up to that reply's were done, and only
-- its text was cut.
pub record StopsAtWriteFault (contexts : List WasiSocketsCtx) (limit : ℕ) (before after : Reading) (k_old k_new : Writing) (w_old w_new : Seen) : Type 0 where
  pub rose : CountRose k_old k_new
  pub text : List ℕ
  pub gave : Gave before text after
  pub steps : List Step
  pub first_lines : StartWith (length contexts) (lines_of (take limit text)) steps
  pub replies : List Reply
  pub state : Machine
  pub stopped : Seen
  pub ran : Reaches (run contexts [] first_state 1 steps) (Give (replies, state)) w_old stopped
  pub quiet : AsksNothing stopped w_new
  pub answered : length replies ≡ length steps
  pub written : List ℕ
  pub took : Took k_old written k_new
  pub cut : CutLast replies written

-- Memory ran out. The lines before were done and answered, none of them a trap; of the line met, if any, only first asks were
-- made, and it has no reply.
pub record StopsForMemory (contexts : List WasiSocketsCtx) (limit : ℕ) (before after : Reading) (k_old k_new : Writing) (w_old w_new : Seen) : Type 0 where
  pub text : List ℕ
  pub gave : Gave before text after
  pub steps : List Step
  pub met : List Step  -- the line in which memory ran out, or none
  pub first_lines : StartWith (length contexts) (lines_of (take limit text)) (steps ++ met)
  pub replies : List Reply
  pub state : Machine
  pub seen : Seen  -- the world after the lines that were done
  pub ran : Reaches (run contexts [] first_state 1 steps) (Give (replies, state)) w_old seen
  pub stopped : Seen
  pub first_asks : Met contexts state (1 + length steps) met seen stopped
  pub quiet : AsksNothing stopped w_new
  pub answered : length replies ≡ length steps
  pub took : Took k_old (texts replies) k_new
  pub counted : SameCounts k_old k_new
  pub no_trap : NoTrap replies
