-- The transcript of a script: its lines, beneath each the calls that it made on the network, and its reply.
use Rattle.std.specs.Prelude.{◌≡◌, ℕ, ◌+◌, List, [], ◌∷◌, ◌++◌, map, length, codes, decimal, Some, option_map}
use Rattle.std.specs.List.{flat_map}
use Rattle.wasi_world.specs.declared.call.Entry.{Entry}
use Rattle.wasi_world.specs.declared.outcome.WasiSocketsCtx.{WasiSocketsCtx}
use Rattle.wasi_world.specs.Asks.{Give, Left}
use Rattle.world_text.specs.EntryText.{entry_text}
use Rattle.wasi_world.specs.Seen.{Seen}
use Rattle.host_store.specs.declared.machine.Machine.{Machine}
use Rattle.wasi_steps.specs.declared.reply.Reply.{Reply}
use Rattle.wasi_steps.specs.declared.step.Step.{Step}
use Rattle.wasi_machine.specs.Machine.{machine_asks}
use Rattle.wasi_steps.specs.Replies.{text_of}
use Rattle.wasi_steps.specs.Steps.{step_of}

-- A line that was done: its step, the calls that it made on the network, and its reply.
pub record Exchange : Type 0 where
  pub line : List ℕ
  pub step : Step
  pub calls : List Entry
  pub reply : Reply

-- == text
-- a line of a script
abbrev pub line_text : List ℕ → List ℕ
line_text line = codes "> " ++ line ++ codes "\n"

-- one call
abbrev pub call_line : Entry → List ℕ
call_line call = codes "    " ++ entry_text call ++ codes "\n"

abbrev pub calls_text : List Entry → List ℕ
calls_text calls = flat_map call_line calls

-- a line, its calls and its reply
abbrev pub answered_text : List ℕ → List Entry → Reply → List ℕ
answered_text line calls reply = line_text line ++ calls_text calls ++ text_of reply

abbrev pub exchange_text : Exchange → List ℕ
exchange_text x = answered_text x.line x.calls x.reply

abbrev pub exchanges_text : List Exchange → List ℕ
exchanges_text exchanges = flat_map exchange_text exchanges

-- a line that is no step
abbrev pub no_step_text : List ℕ → List ℕ
no_step_text line = line_text line ++ codes "no step\n"

-- how many sockets the end of the run closed
abbrev pub closes_text : ℕ → List ℕ
closes_text count = codes "closes " ++ decimal count ++ codes "\n"

-- == what is done
abbrev pub lines_in : List Exchange → List (List ℕ)
lines_in exchanges = map (λ x. x.line) exchanges

abbrev pub steps_in : List Exchange → List Step
steps_in exchanges = map (λ x. x.step) exchanges

abbrev pub replies_in : List Exchange → List Reply
replies_in exchanges = map (λ x. x.reply) exchanges

-- all calls, in order
abbrev pub calls_in : List Exchange → List Entry
calls_in exchanges = flat_map (λ x. x.calls) exchanges

-- The line of this number spells the step, and the step's asks with their answers are the calls: they give the reply, and leave the machine so.
pub record IsDone (contexts : List WasiSocketsCtx) (m : Machine) (number : ℕ) (x : Exchange) (next : Machine) : Type 0 where
  pub spelled : step_of (length contexts) x.line ≡ Some x.step
  pub asked : Left (machine_asks contexts m number x.step) x.calls (Give (x.reply, next))

-- the lines were done one after another, the first of which has this number
abbrev pub AreDone : List WasiSocketsCtx → Machine → ℕ → List Exchange → Machine → Type 0
AreDone contexts m number [] last = m ≡ last
AreDone contexts m number (x ∷ xs) last = (next : Machine) × IsDone contexts m number x next × AreDone contexts next (number + 1) xs last

-- From old to new these calls were logged, and no others, and the plan stayed.
pub record Logged (old : Seen) (calls : List Entry) (new : Seen) : Type 0 where
  pub log : new.log ≡ option_map (λ log. log ++ calls) old.log
  pub plan : new.plan ≡ old.plan
