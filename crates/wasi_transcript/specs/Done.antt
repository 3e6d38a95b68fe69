-- What became of one line.
use Rattle.std.specs.Prelude.{◌≡◌, ◌⊎◌, ℕ, ◌+◌, Bool, true, false, List, [], length, Some, None, Result, Ok, Err}
use Rattle.std.specs.declared.alloc.AllocError.{AllocError}
use Rattle.wasi_world.specs.declared.call.Entry.{Entry}
use Rattle.wasi_world.specs.declared.outcome.WasiSocketsCtx.{WasiSocketsCtx}
use Rattle.wasi_world.specs.Asks.{Asks, Left}
use Rattle.wasi_world.specs.Seen.{Seen}
use Rattle.wasi_steps.specs.declared.reply.Reply.{Reply}
use Rattle.wasi_calls.specs.declared.progress.Progress.{Progress}
use Rattle.wasi_steps.specs.declared.step.Step.{Step}
use Rattle.wasi_machine.specs.Machine.{machine_asks}
use Rattle.wasi_steps.specs.Reply.{is_trap}
use Rattle.wasi_steps.specs.Steps.{step_of}
use Rattle.host_store.specs.declared.machine.Machine.{Machine}
use Rattle.wasi_transcript.specs.declared.exchange.LineEnd.{LineEnd}
use Rattle.wasi_transcript.specs.declared.exchange.LineEnd.TheVariants.{Answered, Trapped, NoStep}
use Rattle.wasi_transcript.specs.Transcript.{Exchange, exchange_text, IsDone, Logged}

-- The line was done, its calls were logged, and this is its part of the transcript; its reply is a trap or isn't.
pub record Exchanged (contexts : List WasiSocketsCtx) (m next : Machine) (number : ℕ) (line : List ℕ) (old new : Seen) (text : List ℕ) (trap : Bool) : Type 0 where
  pub exchange : Exchange
  pub line_is : exchange.line ≡ line
  pub done : IsDone contexts m number exchange next
  pub logged : Logged old exchange.calls new
  pub closings : new.closings ≡ old.closings
  pub text_is : text ≡ exchange_text exchange
  pub trap_is : is_trap exchange.reply ≡ trap

-- The line is no step, and nothing happened.
pub record IsNoStep (contexts : List WasiSocketsCtx) (s_old s_new : Progress) (line : List ℕ) (old new : Seen) : Type 0 where
  pub none : step_of (length contexts) line ≡ None
  pub progress : s_new ≡ s_old
  pub same : new ≡ old

-- Memory ran out; these calls were logged, the first that the line's step makes where it is a step.
pub record Starved (contexts : List WasiSocketsCtx) (m : Machine) (number : ℕ) (line : List ℕ) (old new : Seen) : Type 0 where
  pub calls : List Entry
  pub logged : Logged old calls new
  pub closings : new.closings ≡ old.closings
  pub first : calls ≡ [] ⊎ ((s : Step) × (step_of (length contexts) line ≡ Some s) × ((rest : Asks (Reply × Machine)) × Left (machine_asks contexts m number s) calls rest))

-- what became of a line, by how it ended
abbrev pub LineDone : List WasiSocketsCtx → Progress → Progress → List ℕ → Seen → Seen → Result LineEnd AllocError → Type 0
LineDone contexts s_old s_new line old new (Ok (Answered text)) = Exchanged contexts s_old.machine s_new.machine (s_old.lines + 1) line old new text.items false × (s_new.lines ≡ s_old.lines + 1)
LineDone contexts s_old s_new line old new (Ok (Trapped text)) = Exchanged contexts s_old.machine s_new.machine (s_old.lines + 1) line old new text.items true × (s_new.lines ≡ s_old.lines + 1)
LineDone contexts s_old s_new line old new (Ok NoStep) = IsNoStep contexts s_old s_new line old new
LineDone contexts s_old s_new line old new (Err e) = Starved contexts s_old.machine (s_old.lines + 1) line old new
