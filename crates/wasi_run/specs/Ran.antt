-- What became of lines.
use Rattle.std.specs.Prelude.{◌≡◌, ℕ, List, [], ◌∷◌, ◌++◌, ◌+◌, ◌<◌, true, false, Result, Ok, Err, take, length}
use Rattle.wasi_world.specs.declared.outcome.WasiSocketsCtx.{WasiSocketsCtx}
use Rattle.wasi_world.specs.Seen.{Seen}
use Rattle.wasi_world.specs.Asks.{Give, Reaches, Started}
use Rattle.world_io.specs.Io.{Writing, Took, SameCounts, CountRose}
use Rattle.host_store.specs.declared.machine.Machine.{Machine}
use Rattle.wasi_steps.specs.declared.step.Step.{Step}
use Rattle.wasi_steps.specs.declared.reply.Reply.{Reply}
use Rattle.wasi_run.specs.declared.lines.LinesEnd.{LinesEnd}
use Rattle.wasi_run.specs.declared.lines.LinesEnd.TheVariants as lines
use Rattle.wasi_run.specs.declared.error.RunError.{RunError}
use Rattle.wasi_run.specs.declared.error.RunError.TheVariants.{Memory, BadStep, WriteFault}
use Rattle.wasi_steps.specs.Reply.{is_trap}
use Rattle.wasi_steps.specs.Replies.{text_of}
use Rattle.wasi_machine.specs.Machine.{machine_asks, run}
use Rattle.host_store.specs.KnownSides.{KnowsSides}
use Rattle.wasi_run.specs.Lines.{StartWith, BadAfter}
use Rattle.wasi_calls.specs.Stretches.{Stretch}

abbrev pub texts : List Reply → List ℕ
texts [] = []
texts (r ∷ replies) = text_of r ++ texts replies

abbrev pub NoTrap : List Reply → Type 0
NoTrap [] = Unit {0}
NoTrap (r ∷ replies) = (is_trap r ≡ false) × NoTrap replies

-- Only the last is a trap.
pub record OneTrap (replies : List Reply) : Type 0 where
  pub front : List Reply
  pub last : Reply
  pub all : replies ≡ front ++ last ∷ []
  pub others : NoTrap front
  pub trap : is_trap last ≡ true

-- All were written whole but the last, which was cut.
pub record CutLast (replies : List Reply) (written : List ℕ) : Type 0 where
  pub front : List Reply
  pub last : Reply
  pub cut : ℕ
  pub all : replies ≡ front ++ last ∷ []
  pub others : NoTrap front
  pub short : cut < length (text_of last)
  pub is : written ≡ texts front ++ take cut (text_of last)

-- where memory ran out: between two lines, or in a line of which the first asks were made
abbrev pub Met : List WasiSocketsCtx → Machine → ℕ → List Step → Seen → Seen → Type 0
Met contexts state line [] old now = now ≡ old
Met contexts state line (s ∷ []) old now = Started (machine_asks contexts state line s) old now
Met contexts state line _ old now = ⊥

-- what was asked after the lines done: nothing, but when memory runs out the first asks of the line met
abbrev pub Beyond : List WasiSocketsCtx → Result LinesEnd RunError → Machine → ℕ → List Step → Seen → Seen → Type 0
Beyond contexts (Err Memory) state line met old now = Met contexts state line met old now
Beyond contexts _ state line met old now = (met ≡ []) × (now ≡ old)

-- what was written, and where a trap is
abbrev pub Wrote : Result LinesEnd RunError → List Reply → List ℕ → Type 0
Wrote (Err WriteFault) replies written = CutLast replies written
Wrote (Ok lines.Trapped) replies written = OneTrap replies × (written ≡ texts replies)
Wrote _ replies written = NoTrap replies × (written ≡ texts replies)

-- what the writer counted
abbrev pub Counted : Result LinesEnd RunError → Writing → Writing → Type 0
Counted (Err WriteFault) old new = CountRose old new
Counted _ old new = SameCounts old new

-- All lines were done, and this is the machine then.
pub record AllDone (contexts : List WasiSocketsCtx) (first : Machine) (line : ℕ) (all : List (List ℕ)) (steps : List Step) (replies : List Reply) (state last : Machine) (old now : Seen) : Type 0 where
  pub count : length steps ≡ length all
  pub stands : state ≡ last
  pub on : Stretch contexts first line steps replies state old now

-- why it ended so: at a bad step the line after those done isn't one; a text that is too long and a read that fails end no line
abbrev pub Cause : List WasiSocketsCtx → Machine → ℕ → List (List ℕ) → Result LinesEnd RunError → List Step → List Reply → Machine → Machine → Seen → Seen → Type 0
Cause contexts first line all (Ok lines.AllDone) steps replies state last old now = AllDone contexts first line all steps replies state last old now
Cause contexts first line all (Ok lines.Trapped) steps replies state last old now = Unit {0}
Cause contexts first line all (Err Memory) steps replies state last old now = Unit {0}
Cause contexts first line all (Err (BadStep n)) steps replies state last old now = (n ≡ line + length steps) × BadAfter (length contexts) all steps
Cause contexts first line all (Err WriteFault) steps replies state last old now = Unit {0}
Cause contexts first line all (Err _) steps replies state last old now = ⊥

-- From the machine's state first and this line number on, the lines were done, and ended so.
pub record LinesRan (contexts : List WasiSocketsCtx) (w_old w_new : Seen) (k_old k_new : Writing) (first : Machine) (line : ℕ) (all : List (List ℕ)) (outcome : Result LinesEnd RunError) (last : Machine) : Type 0 where
  pub steps : List Step  -- the lines that were done
  pub replies : List Reply
  pub state : Machine  -- the machine after them
  pub seen : Seen  -- the world after them
  pub met : List Step  -- the line in which memory ran out
  pub written : List ℕ
  -- The first lines spell the steps that were done, and the one met.
  pub first_lines : StartWith (length contexts) all (steps ++ met)
  -- The lines done ran whole, whatever was replied before, and each has its reply.
  pub ran : (so_far : List Reply) → Reaches (run contexts so_far first line steps) (Give (so_far ++ replies, state)) w_old seen
  pub answered : length replies ≡ length steps
  -- All that was asked is a prefix of the run of them and the line met, and nothing else was asked.
  pub began : (so_far : List Reply) → Started (run contexts so_far first line (steps ++ met)) w_old w_new
  pub beyond : Beyond contexts outcome state (line + length steps) met seen w_new
  -- The replies' texts were written.
  pub took : Took k_old written k_new
  pub wrote : Wrote outcome replies written
  pub counted : Counted outcome k_old k_new
  pub cause : Cause contexts first line all outcome steps replies state last w_old w_new
  -- If the records held each network socket that was made and not closed, they still do.
  pub sides : KnowsSides w_old first.store → KnowsSides w_new last.store
