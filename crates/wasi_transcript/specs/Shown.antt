-- What became of a script whose transcript was printed.
use Rattle.std.specs.Prelude.{◌≡◌, ◌≢◌, ℕ, ◌+◌, ◌<◌, ◌≤◌, ◌⊎◌, List, [], ◌∷◌, ◌++◌, length, take, Some, None, Result, Ok, Err}
use Rattle.wasi_world.specs.declared.call.Entry.{Entry}
use Rattle.wasi_world.specs.declared.outcome.WasiSocketsCtx.{WasiSocketsCtx}
use Rattle.wasi_world.specs.Asks.{Asks, Left}
use Rattle.world_io.specs.Io.{Reading, Writing, Gave, HasEnded, Took, SameCounts, CountRose}
use Rattle.world_text.specs.Lines.{lines_of, rest_of}
use Rattle.wasi_world.specs.Seen.{Seen, Rose}
use Rattle.host_store.specs.declared.machine.Machine.{Machine}
use Rattle.host_store.specs.Machine.{first_state}
use Rattle.wasi_steps.specs.declared.reply.Reply.{Reply}
use Rattle.wasi_run.specs.declared.run.RunEnd.{RunEnd}
use Rattle.wasi_run.specs.declared.run.RunEnd.TheVariants as end
use Rattle.wasi_run.specs.declared.error.RunError.{RunError}
use Rattle.wasi_run.specs.declared.error.RunError.TheVariants.{Memory, BadStep, TooLong, ReadFault, WriteFault}
use Rattle.wasi_steps.specs.declared.step.Step.{Step}
use Rattle.wasi_machine.specs.Machine.{machine_asks}
use Rattle.wasi_run.specs.Ran.{NoTrap, OneTrap}
use Rattle.wasi_steps.specs.Steps.{step_of}
use Rattle.wasi_transcript.specs.declared.show.Stop.{Stop}
use Rattle.wasi_transcript.specs.declared.show.Stop.TheVariants as stop
use Rattle.wasi_transcript.specs.Transcript.{Exchange, exchange_text, exchanges_text, no_step_text, closes_text, lines_in, replies_in, calls_in, AreDone, Logged}

-- why no more lines are done, where neither memory ran out nor a write failed
abbrev pub outcome_of : Stop → Result RunEnd RunError
outcome_of stop.AllRead = Ok end.AllRead
outcome_of stop.Trapped = Ok end.Trapped
outcome_of (stop.BadStep n) = Err (BadStep n)
outcome_of stop.TooLong = Err TooLong
outcome_of stop.ReadFault = Err ReadFault

-- a line that is no step, where one stopped the run
abbrev pub stop_text : Stop → List ℕ → List ℕ
stop_text (stop.BadStep n) line = no_step_text line
stop_text _ line = []

-- the last lines of a transcript: that line, and how many sockets the end of the run closed
abbrev pub ending_text : Stop → List ℕ → ℕ → List ℕ
ending_text stop line closings = stop_text stop line ++ closes_text closings

-- The next line isn't a step, or the source gave its end inside it.
abbrev pub IsBad : ℕ → ℕ → List ℕ → List (List ℕ) → List ℕ → Reading → Type 0
IsBad contexts limit text left line s_new =
    ((more : List (List ℕ)) × (left ≡ line ∷ more) × (step_of contexts line ≡ None)) ⊎ ((left ≡ []) × (rest_of (take limit text) ≡ line) × (line ≢ []) × HasEnded s_new × (length text ≤ limit))

-- Memory ran out between two lines, or in the next one, of which these were the first calls.
abbrev pub IsMet : List WasiSocketsCtx → Machine → ℕ → List (List ℕ) → List Entry → Type 0
IsMet contexts m number left met =
    (met ≡ []) ⊎ ((line : List ℕ) × (more : List (List ℕ)) × (left ≡ line ∷ more) × ((s : Step) × (step_of (length contexts) line ≡ Some s) × ((rest : Asks (Reply × Machine)) × Left (machine_asks contexts m number s) met rest)))

-- The last exchange that was done was written in part.
pub record CutLast (exchanges : List Exchange) (written : List ℕ) : Type 0 where
  pub front : List Exchange
  pub last : Exchange
  pub cut : ℕ
  pub all : exchanges ≡ front ++ last ∷ []
  pub short : cut < length (exchange_text last)
  pub is : written ≡ exchanges_text front ++ take cut (exchange_text last)

-- The exchanges were written, and the last lines in part.
pub record CutEnding (exchanges : List Exchange) (line : List ℕ) (closings : ℕ) (written : List ℕ) : Type 0 where
  pub stop : Stop
  pub cut : ℕ
  pub short : cut < length (ending_text stop line closings)
  pub is : written ≡ exchanges_text exchanges ++ take cut (ending_text stop line closings)

-- A script was done until it stopped, and so much of its transcript was written.
pub record Done (contexts : List WasiSocketsCtx) (limit : ℕ) (s_old s_new : Reading) (w_old w_new : Seen) : Type 0 where
  pub text : List ℕ  -- what the source gave
  pub gave : Gave s_old text s_new
  pub within : length text ≤ limit + 1
  -- the lines within the limit that were done, and those that weren't
  pub exchanges : List Exchange
  pub left : List (List ℕ)
  pub lines : lines_of (take limit text) ≡ lines_in exchanges ++ left
  pub last : Machine
  pub done : AreDone contexts first_state 1 exchanges last
  -- the log has all their calls, once and in order, and nothing else but the first calls of a line in which memory ran out
  pub met : List Entry
  pub logged : Logged w_old (calls_in exchanges ++ met) w_new

-- why it stopped
abbrev pub Stops : (contexts : List WasiSocketsCtx) (limit : ℕ) (s_old s_new : Reading) (w_old w_new : Seen) → Done contexts limit s_old s_new w_old w_new → List ℕ → Result RunEnd RunError → Type 0
Stops contexts limit s_old s_new w_old w_new d line (Ok end.AllRead) = HasEnded s_new × (length d.text ≤ limit) × (d.left ≡ []) × (rest_of (take limit d.text) ≡ []) × NoTrap (replies_in d.exchanges) × (d.met ≡ [])
Stops contexts limit s_old s_new w_old w_new d line (Ok end.Trapped) = OneTrap (replies_in d.exchanges) × (d.met ≡ [])
Stops contexts limit s_old s_new w_old w_new d line (Err (BadStep n)) = (n ≡ length d.exchanges + 1) × IsBad (length contexts) limit d.text d.left line s_new × NoTrap (replies_in d.exchanges) × (d.met ≡ [])
Stops contexts limit s_old s_new w_old w_new d line (Err TooLong) = (length d.text ≡ limit + 1) × (d.left ≡ []) × NoTrap (replies_in d.exchanges) × (d.met ≡ [])
Stops contexts limit s_old s_new w_old w_new d line (Err ReadFault) = Rose s_old.faults s_new.faults × NoTrap (replies_in d.exchanges) × (d.met ≡ [])
Stops contexts limit s_old s_new w_old w_new d line (Err WriteFault) = d.met ≡ []
Stops contexts limit s_old s_new w_old w_new d line (Err Memory) = IsMet contexts d.last (length d.exchanges + 1) d.left d.met

-- what was written of the exchanges
abbrev pub WroteLines : List Exchange → List ℕ → Writing → Writing → Result RunEnd RunError → Type 0
WroteLines exchanges written k_old k_new (Err WriteFault) = CutLast exchanges written × CountRose k_old k_new
WroteLines exchanges written k_old k_new _ = (written ≡ exchanges_text exchanges) × SameCounts k_old k_new

-- what was written of the whole transcript
abbrev pub WroteWhole : List Exchange → Stop → List ℕ → ℕ → List ℕ → Writing → Writing → Type 0
WroteWhole exchanges stop line closings written k_old k_new = (written ≡ exchanges_text exchanges ++ ending_text stop line closings) × SameCounts k_old k_new

abbrev pub Wrote : List Exchange → List ℕ → ℕ → List ℕ → Writing → Writing → Result RunEnd RunError → Type 0
Wrote exchanges line closings written k_old k_new (Ok end.AllRead) = WroteWhole exchanges stop.AllRead line closings written k_old k_new
Wrote exchanges line closings written k_old k_new (Ok end.Trapped) = WroteWhole exchanges stop.Trapped line closings written k_old k_new
Wrote exchanges line closings written k_old k_new (Err (BadStep n)) = WroteWhole exchanges (stop.BadStep n) line closings written k_old k_new
Wrote exchanges line closings written k_old k_new (Err TooLong) = WroteWhole exchanges stop.TooLong line closings written k_old k_new
Wrote exchanges line closings written k_old k_new (Err ReadFault) = WroteWhole exchanges stop.ReadFault line closings written k_old k_new
Wrote exchanges line closings written k_old k_new (Err WriteFault) = (CutLast exchanges written ⊎ CutEnding exchanges line closings written) × CountRose k_old k_new
Wrote exchanges line closings written k_old k_new (Err Memory) = (written ≡ exchanges_text exchanges) × SameCounts k_old k_new

-- The script that the source gave was done, and this is its transcript.
pub record IsShown (contexts : List WasiSocketsCtx) (limit : ℕ) (s_old s_new : Reading) (k_old k_new : Writing) (w_old w_new : Seen) (result : Result RunEnd RunError) : Type 0 where
  pub done : Done contexts limit s_old s_new w_old w_new
  pub line : List ℕ  -- the line that is no step, where one stopped the run
  pub stops : Stops contexts limit s_old s_new w_old w_new done line result
  pub written : List ℕ
  pub took : Took k_old written k_new
  pub wrote : Wrote done.exchanges line w_new.closings written k_old k_new result
