-- What is read off of the rows of streams' steps.
use Rattle.wasi_causes.proofs.Words.{◌≡◌, ◌∙◌, ◌↔◌, ℕ, true, List, [], ◌∷◌, Option, None, Some, refl, sym, subst, inl, inr, Entry, Machine, Reply, WasiSocketsCtx, is_full, bytes_fields, Step}
use Rattle.wasi_world.specs.declared.ids.Ids.{Ids}
use Rattle.wasi_world.specs.declared.outcome.TrapKind.{TrapKind}
use Rattle.wasi_world.specs.declared.outcome.TrapKind.TheVariants as trap
use Rattle.host_store.specs.declared.store.BlockingCall.{BlockingCall}
use Rattle.host_store.specs.declared.kind.PlainOutput.{PlainOutput}
use Rattle.wasi_records.specs.Records.{output_pipe_at}
use Rattle.host_streams.specs.StreamCalls.{plain_output_at}
use Rattle.wasi_steps.specs.declared.reply.Reply.TheVariants as reply
use Rattle.wasi_steps.specs.declared.guest_call.GuestCall.TheVariants as guest
use Rattle.wasi_steps.specs.declared.guest_call.StreamCall.TheVariants as stream_call
use Rattle.wasi_steps.specs.declared.guest_call.PipeCall.TheVariants as pipe_call
use Rattle.wasi_steps.specs.declared.step.Step.TheVariants as step
use Rattle.wasi_walks.specs.Missing.{pipe_of}
use Rattle.wasi_causes.proofs.tables.Steps.{its_own}
use Rattle.wasi_causes.specs.Blocking.{AsRead, EndsByRead, ReadsOn}
use Rattle.wasi_causes.specs.Outcomes.{Outcome, Quiet, Traps}
use Rattle.wasi_causes.specs.Plain.{MakesStream}

module _ (contexts : List WasiSocketsCtx) (m : Machine) (line : ℕ) where
  full_of : (es : List Entry) (after : Machine) → is_full after.table ≡ true → Quiet m es after → (is_full m.table ≡ true) × Quiet m es after
  full_of es after full q = (subst (λ (x : Machine). is_full x.table ≡ true) q.1 full, q)

  pub full_quiet : (s : Step) (es : List Entry) (after : Machine) → MakesStream s → Traps contexts m line s es trap.Full after → (is_full m.table ≡ true) × Quiet m es after
  full_quiet (step.Call c (guest.Pipe (pipe_call.In bytes))) es after makes h = full_of es after h.1.0 h.2
  full_quiet (step.Call c (guest.Pipe (pipe_call.Out capacity))) es after makes h = full_of es after h.1.0 h.2
  full_quiet (step.Call c (guest.Pipe pipe_call.Sink)) es after makes h = full_of es after h.1.0 h.2
  full_quiet (step.Call c (guest.Pipe pipe_call.ClosedIn)) es after makes h = full_of es after h.1.0 h.2
  full_quiet (step.Call c (guest.Pipe pipe_call.ClosedOut)) es after makes h = full_of es after h.1.0 h.2
  full_quiet _ es after makes h = absurd makes

  -- == what a pipe holds
  module _ (c output : ℕ) where
    abbrev Contained : List Entry → Reply → Machine → Type 0
    Contained es r after = Outcome contexts m line (step.Call c (guest.Pipe (pipe_call.Contents output))) es r after

    trapped : (es : List Entry) (kind : TrapKind) (after : Machine) → Traps contexts m line (step.Call c (guest.Pipe (pipe_call.Contents output))) es kind after → reply.Trap kind ≡ reply.Trap trap.NoSuchHandle
    trapped es trap.NoSuchHandle after h = refl
    trapped es trap.HasChildren after h = absurd h.0
    trapped es trap.Full after h = absurd h.0
    trapped es trap.NotPermitted after h = absurd (elim h.0 [ inl k ↦ k | inr k ↦ k ])
    trapped es trap.StreamsAlive after h = absurd h.0
    trapped es trap.Capacity after h = absurd h.0
    trapped es trap.TooLong after h = absurd h.0
    trapped es trap.EmptyList after h = absurd h.0
    trapped es _ after h = absurd h

    misses : (es : List Entry) (r : Reply) (after : Machine) → Contained es r after → pipe_of m (plain_output_at m output) ≡ None → r ≡ reply.Trap trap.NoSuchHandle
    misses es (reply.Ok fields) after row none = let h = row.1.1 in let k : output_pipe_at m.store.records h.place ≡ None = subst (λ (o : Option PlainOutput). pipe_of m o ≡ None) h.names none in absurd (let both : Some h.pipe ≡ None = sym h.at ∙ k in cc)
    misses es (reply.Err w) after row none = absurd row.1.0
    misses es reply.Closed after row none = absurd row.1.0
    misses es (reply.Failed w handle) after row none = absurd row.1.0.0
    misses es (reply.Trap kind) after row none = trapped es kind after row.1
    misses es (reply.Pending n) after row none = absurd row.1.0.0
    misses es reply.Cancelled after row none = absurd row.1.0
    misses es reply.Dropped after row none = absurd row.1.0
    misses es reply.Unfilled after row none = absurd row.1.0
    misses es reply.NoSuchCall after row none = absurd (elim row.1.0 [ inl k ↦ k | inr k ↦ k ])
    misses es _ after row none = absurd row.1

    pub no_pipe : (es : List Entry) (r : Reply) (after : Machine) → Contained es r after → (r ≡ reply.Trap trap.NoSuchHandle) ↔ (pipe_of m (plain_output_at m output) ≡ None)
    no_pipe es r after row = (λ e. (subst (λ (x : Reply). Contained es x after) e row).1.0, misses es r after row)

-- == a read
pub ends_by_read : (contexts : List WasiSocketsCtx) (m : Machine) (ids : Ids) (call : BlockingCall) (c input len b : ℕ) (bytes : List ℕ) (es : List Entry) (after : Machine) → ReadsOn contexts m ids call input len (step.Call c (guest.Stream (stream_call.Read input len))) (reply.Ok (bytes_fields [])) es (reply.Ok (bytes_fields (b ∷ bytes))) after → EndsByRead m ids.line input len (b ∷ bytes) es after
ends_by_read contexts m ids call c input len b bytes _ _ (AsRead es fs _ after look w other) = record { front = es; rest = fs; cut = refl; looked = look; told = (its_own contexts m ids.line (step.Call c (guest.Stream (stream_call.Read input len))) fs (reply.Ok (bytes_fields (b ∷ bytes))) after w (λ e. cc)).1.1 }
