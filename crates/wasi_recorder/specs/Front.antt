-- What a replay makes of a script and a log that was cut.
use Rattle.std.specs.Prelude.{◌≡◌, ◌⊎◌, ℕ, ◌+◌, Bool, true, List, [], ◌∷◌, ◌++◌, Option, Result, Ok, Err, length, take}
use Rattle.wasi_world.specs.declared.call.Entry.{Entry}
use Rattle.wasi_world.specs.declared.outcome.WasiSocketsCtx.{WasiSocketsCtx}
use Rattle.wasi_world.specs.Asks.{Asks, Give, Left}
use Rattle.world_io.specs.Io.{Reading, Writing, Gave}
use Rattle.world_io.specs.Written.{TookAll, TookPart}
use Rattle.world_text.specs.Lines.{lines_of}
use Rattle.host_store.specs.declared.machine.Machine.{Machine}
use Rattle.host_store.specs.Machine.{first_state}
use Rattle.wasi_machine.specs.Machine.{run, machine_asks}
use Rattle.wasi_steps.specs.declared.step.Step.{Step}
use Rattle.wasi_steps.specs.declared.reply.Reply.{Reply}
use Rattle.wasi_run.specs.declared.run.RunEnd.{RunEnd}
use Rattle.wasi_run.specs.declared.error.RunError.{RunError}
use Rattle.wasi_run.specs.declared.error.RunError.TheVariants.{WriteFault, Memory}
use Rattle.wasi_run.specs.Lines.{StartWith}
use Rattle.wasi_run.specs.Ran.{texts, NoTrap}
use Rattle.wasi_recorder.specs.declared.front.FrontEnd.{FrontEnd}
use Rattle.wasi_recorder.specs.declared.front.FrontEnd.TheVariants.{LogEnds, Of}
use Rattle.wasi_recorder.specs.Outcome.{Replayed, Compares, IsCut, Stops, Finishes}

-- the line met asks these calls first, or is none
abbrev pub Begins : List WasiSocketsCtx → Machine → ℕ → List Step → List Entry → Type 0
Begins contexts state line [] entries = entries ≡ []
Begins contexts state line (s ∷ []) entries = (rest : Asks (Reply × Machine)) × Left (machine_asks contexts state line s) entries rest
Begins contexts state line _ entries = ⊥

-- The first lines that the reader gave were done, none of them a trap, and asked just the first entries; the line met, if any, asked
-- the others; and of the replies to the lines done this holds.
pub record UpToEnd (contexts : List WasiSocketsCtx) (recorded : List Entry) (limit : ℕ) (before after : Reading) (P : List Reply → Type 0) : Type 0 where
  pub text : List ℕ
  pub gave : Gave before text after
  pub steps : List Step
  pub met : List Step  -- the line in which the log ended, or none
  pub first_lines : StartWith (length contexts) (lines_of (take limit text)) (steps ++ met)
  pub replies : List Reply
  pub answered : length replies ≡ length steps
  pub state : Machine
  pub asked : List Entry
  pub others : List Entry
  pub are_all : recorded ≡ asked ++ others
  pub left : Left (run contexts [] first_state 1 steps) asked (Give (replies, state))
  pub begins : Begins contexts state (1 + length steps) met others
  pub no_trap : NoTrap replies
  pub holds : P replies

-- what is written: the replies to the lines before the log ended; or as on a whole log
abbrev pub FrontReplayed : List WasiSocketsCtx → List Entry → ℕ → Reading → Reading → Writing → Writing → FrontEnd → Type 0
FrontReplayed contexts recorded limit before after k_old k_new LogEnds = UpToEnd contexts recorded limit before after (λ replies. TookAll k_old (texts replies) k_new)
FrontReplayed contexts recorded limit before after k_old k_new (Of e) = Replayed contexts limit before after (Compares contexts recorded k_old k_new e)

-- what an error says: at a failed write a part of those replies was written; else as on a whole log
abbrev pub FrontStops : List WasiSocketsCtx → List Entry → ℕ → Reading → Reading → Writing → Writing → RunError → Type 0
FrontStops contexts recorded limit before after k_old k_new WriteFault =
    Replayed contexts limit before after (IsCut contexts recorded k_old k_new)
    ⊎ UpToEnd contexts recorded limit before after (λ replies. TookPart k_old (texts replies) k_new)
FrontStops contexts recorded limit before after k_old k_new e = Stops contexts recorded limit before after k_old k_new e

-- == the parts of a replay
-- the replies were written, or a part of them
abbrev pub WritesReplies : List ℕ → Writing → Writing → Result FrontEnd RunError → Type 0
WritesReplies replies k_old k_new (Ok LogEnds) = TookAll k_old replies k_new
WritesReplies replies k_old k_new (Err WriteFault) = TookPart k_old replies k_new
WritesReplies replies k_old k_new _ = ⊥

-- how it ends as on a whole log
abbrev pub FinishesAsWhole : Result RunEnd RunError → Option ℕ → List ℕ → Writing → Writing → Result FrontEnd RunError → Type 0
FinishesAsWhole outcome differs replies k_old k_new (Ok LogEnds) = ⊥
FinishesAsWhole outcome differs replies k_old k_new (Ok (Of e)) = Finishes outcome differs replies k_old k_new (Ok e)
FinishesAsWhole outcome differs replies k_old k_new (Err e) = Finishes outcome differs replies k_old k_new (Err e)

-- how it ends, where the run ended so, differs there and has these replies: what was asked is the log, the run stopped for memory, and
-- the replies were written; or as on a whole log
abbrev pub FinishesFront : Result RunEnd RunError → Bool → Option ℕ → List ℕ → Writing → Writing → Result FrontEnd RunError → Type 0
FinishesFront outcome at_end differs replies k_old k_new r =
    ((at_end ≡ true) × (outcome ≡ Err Memory) × WritesReplies replies k_old k_new r)
    ⊎ FinishesAsWhole outcome differs replies k_old k_new r
