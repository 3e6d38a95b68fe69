-- The bytes of the writes that the machine let the steps of a run begin on a network socket, and the steps that it did.
use Rattle.std.specs.Prelude.{◌≡◌, ℕ, ◌+◌, nat_lt, if◌then◌else◌, List, [], ◌∷◌, ◌++◌, length, Option, Some, None}
use Rattle.wasi_world.specs.declared.ids.OpId.{OpId}
use Rattle.wasi_world.specs.declared.call.Entry.{Entry}
use Rattle.wasi_world.specs.declared.outcome.WasiSocketsCtx.{WasiSocketsCtx}
use Rattle.wasi_world.specs.Asks.{Asks, Left}
use Rattle.wasi_streams.specs.Streams.{zeros}
use Rattle.host_store.specs.declared.machine.Machine.{Machine}
use Rattle.host_store.specs.declared.store.Standing.{Standing}
use Rattle.record_common.specs.Names.{own_of}
use Rattle.host_store.specs.Standing.{call_of}
use Rattle.wasi_steps.specs.declared.reply.Reply.{Reply}
use Rattle.wasi_steps.specs.declared.step.Step.{Step}
use Rattle.wasi_steps.specs.declared.guest_call.GuestCall.TheVariants as guest
use Rattle.wasi_steps.specs.declared.guest_call.StreamCall.TheVariants as stream_call
use Rattle.wasi_steps.specs.declared.guest_call.P3TcpCall.TheVariants as p3_tcp_call
use Rattle.wasi_steps.specs.declared.step.Step.TheVariants as step
use Rattle.wasi_machine.specs.Machine.{is_held_up, machine_asks}
use Rattle.wasi_walks.specs.Answered.{Answered}
use Rattle.wasi_laws.specs.Writes.{let_write, let_splice, let_blocking_write, let_blocking_splice, let_end, let_resumed}

-- == the bytes of the writes of a step
-- along what its line asks, by the entries so far: a write begins at once, whatever the line is told; one of a splice, or of a call
-- that blocks, once what is asked before it is answered; and one of 0.3, which is one ask, by its answer
abbrev pub permitted_when : Machine → OpId → ℕ → Step → List Entry → List ℕ
permitted_when m side line (step.Call ctx (guest.Stream (stream_call.Write output bytes))) entries = let_write side m output bytes
permitted_when m side line (step.Call ctx (guest.Stream (stream_call.WriteZeroes output len))) entries = let_write side m output (zeros len)
permitted_when m side line (step.Call ctx (guest.Stream (stream_call.Splice to from len))) entries = let_splice side m (own_of line) to from len entries
permitted_when m side line (step.Call ctx (guest.Stream (stream_call.BlockingWrite output bytes))) entries = let_blocking_write side m (own_of line) output bytes (nat_lt 4096 (length bytes)) entries
permitted_when m side line (step.Call ctx (guest.Stream (stream_call.BlockingZeroes output len))) entries = let_blocking_write side m (own_of line) output (zeros len) (nat_lt 4096 len) entries
permitted_when m side line (step.Call ctx (guest.Stream (stream_call.BlockingSplice to from len))) entries = let_blocking_splice side m (own_of line) to from len entries
permitted_when m side line (step.Call ctx (guest.P3Tcp (p3_tcp_call.Write end bytes))) entries = let_end side m end bytes entries
permitted_when m side line (step.Poll n) entries = let_resumed side m (call_of m.store.standing n) entries
permitted_when m side line s entries = []

-- while an exclusive call is pending every guest call is busy, and so is a poll of a call beside it
abbrev pub permitted_in : Machine → OpId → ℕ → Option Standing → Step → List Entry → List ℕ
permitted_in m side line None s entries = permitted_when m side line s entries
permitted_in m side line (Some standing) s entries = if is_held_up m.store s then [] else permitted_when m side line s entries

-- the bytes that the machine lets a step write to a network socket, along these first entries of its line
abbrev pub permitted_by : Machine → OpId → ℕ → Step → List Entry → List ℕ
permitted_by m side line s entries = permitted_in m side line m.store.standing s entries

-- == the steps that were done
-- From this machine and line on the steps were done, one after another: what they asked was answered by these entries, these
-- are the bytes that they were let write to the network socket, and so the machine is left.
pub data Did (contexts : List WasiSocketsCtx) (side : OpId) : Machine → ℕ → List Step → List Entry → List ℕ → Machine → Type 0 where
  Nothing : (m : Machine) (line : ℕ) → Did contexts side m line [] [] [] m
  Then : (m next after : Machine) (line : ℕ) (s : Step) (steps : List Step) (entries log : List Entry) (reply : Reply) (permitted : List ℕ)
      → Answered contexts m line s entries reply next → Did contexts side next (line + 1) steps log permitted after
      → Did contexts side m line (s ∷ steps) (entries ++ log) (permitted_by m side line s entries ++ permitted) after

-- these are the first entries of the next step, where there is one
abbrev pub Begun : List WasiSocketsCtx → Machine → ℕ → List Step → List Entry → Type 0
Begun contexts m line [] entries = entries ≡ []
Begun contexts m line (s ∷ steps) entries = (rest : Asks (Reply × Machine)) × Left (machine_asks contexts m line s) entries rest

-- The log is that of the steps that were done, and of a prefix of the next.
pub record IsOfSteps (contexts : List WasiSocketsCtx) (side : OpId) (first : Machine) (line : ℕ) (steps : List Step) (log : List Entry) : Type 0 where
  pub done : List Step
  pub left : List Step
  pub front : List Entry
  pub entries : List Entry
  pub permitted : List ℕ
  pub after : Machine
  pub all : steps ≡ done ++ left
  pub whole : log ≡ front ++ entries
  pub did : Did contexts side first line done front permitted after
  pub begun : Begun contexts after (line + length done) left entries
