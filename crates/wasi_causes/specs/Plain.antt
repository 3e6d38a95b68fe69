-- Inputs and outputs of no connection: how they are made, what their calls answer and what is left. Nothing is asked but their marks.
use Rattle.wasi_causes.specs.GivenUp.{giving_back}
use Rattle.std.specs.Prelude.{◌≡◌, ◌≢◌, ◌↔◌, ℕ, ◌<◌, List, [], ◌∷◌, ◌++◌, take, drop, Some, None, IfSome, IsSomeAnd}
use Rattle.wasi_world.specs.declared.call.Call.TheVariants as call
use Rattle.wasi_world.specs.declared.call.Entry.{Entry}
use Rattle.wasi_world.specs.declared.call.Told.TheVariants as told
use Rattle.wasi_world.specs.declared.outcome.TrapKind.TheVariants.{Capacity}
use Rattle.memory_streams.specs.Plain.{Contents, left_in}
use Rattle.host_store.specs.declared.kind.Kind.{Kind}
use Rattle.host_store.specs.declared.kind.PlainInput.{PlainInput}
use Rattle.host_store.specs.declared.kind.PlainInput.TheVariants as input
use Rattle.host_store.specs.declared.kind.PlainOutput.{PlainOutput}
use Rattle.host_store.specs.declared.kind.PlainOutput.TheVariants as output
use Rattle.host_store.specs.declared.kind.Watched.TheVariants as watched
use Rattle.host_store.specs.declared.machine.Machine.{Machine}
use Rattle.host_store.specs.Kinds.{kind_at, name_of, watch_of, with_handle}
use Rattle.host_store.specs.Machine.{own_of}
use Rattle.host_streams.specs.PlainStreams.{with_contents, with_input_bytes}
use Rattle.wasi_records.specs.Records.{input_pipe_at, output_pipe_at}
use Rattle.host_store.specs.Store.{Records}
use Rattle.host_streams.specs.StreamCalls.{plain_input_at, plain_output_at}
use Rattle.wasi_steps.specs.declared.reply.Field.{Field}
use Rattle.wasi_steps.specs.declared.reply.Reply.{Reply}
use Rattle.wasi_steps.specs.declared.reply.Reply.TheVariants as reply
use Rattle.wasi_steps.specs.declared.step.Step.{Step}
use Rattle.wasi_steps.specs.declared.guest_call.GuestCall.TheVariants as guest
use Rattle.wasi_steps.specs.declared.guest_call.PipeCall.TheVariants as pipe_call
use Rattle.wasi_steps.specs.declared.step.Step.TheVariants as step
use Rattle.wasi_steps.specs.Reply.{number_fields}
use Rattle.wasi_walks.specs.Licence.{entry}
use Rattle.wasi_walks.specs.Missing.{pipe_of}

-- nothing was asked, and the machine is as it was
abbrev pub Quiet : Machine → List Entry → Machine → Type 0
Quiet m es after = (es ≡ []) × (after ≡ m)

-- == what they name
-- The handle names an input that reads a pipe, in which these bytes are left, and of this all it holds.
pub record OfInputPipe (m : Machine) (handle : ℕ) (P : ℕ → List ℕ → Type 0) : Type 0 where
  pub place : ℕ
  pub bytes : List ℕ
  pub names : plain_input_at m handle ≡ Some (input.Pipe place)
  pub at : input_pipe_at m.store.records place ≡ Some bytes
  pub holds : P place bytes

-- The handle names an output that writes to this pipe, and of this all it holds.
pub record OfOutputPipe (m : Machine) (handle : ℕ) (P : ℕ → Contents → Type 0) : Type 0 where
  pub place : ℕ
  pub pipe : Contents
  pub names : plain_output_at m handle ≡ Some (output.Pipe place)
  pub at : output_pipe_at m.store.records place ≡ Some pipe
  pub holds : P place pipe

-- the machine, where these bytes are left in the pipe at a place, and where the pipe holds this
abbrev pub leaving : Machine → ℕ → List ℕ → Machine
leaving m place bytes = record m { store = with_input_bytes m.store place bytes }

abbrev pub containing : Machine → ℕ → Contents → Machine
containing m place pipe = record m { store = with_contents m.store place pipe }

-- the pollable watches one
abbrev pub WatchesPlain : Machine → ℕ → Type 0
WatchesPlain m pollable = watch_of (kind_at m.table pollable) ≡ Some watched.Plain

-- == how they are made
abbrev pub MakesStream : Step → Type 0
MakesStream (step.Call ctx (guest.Pipe (pipe_call.In bytes))) = Unit {0}
MakesStream (step.Call ctx (guest.Pipe (pipe_call.Out capacity))) = Unit {0}
MakesStream (step.Call ctx (guest.Pipe pipe_call.Sink)) = Unit {0}
MakesStream (step.Call ctx (guest.Pipe pipe_call.ClosedIn)) = Unit {0}
MakesStream (step.Call ctx (guest.Pipe pipe_call.ClosedOut)) = Unit {0}
MakesStream _ = ⊥

-- The next handle was made and marked; it stands for this, and these are the records then.
pub record MakesPlain (m : Machine) (line : ℕ) (k : Kind) (store : Records) (es : List Entry) (fields : List Field) (after : Machine) : Type 0 where
  pub number : fields ≡ number_fields m.table.next
  pub marked : es ≡ entry (own_of line) (call.Made m.table.next (name_of k) None None) told.Done ∷ []
  pub made : after ≡ record { table = with_handle m.table k None; store = store }

-- == reading
-- it is closed, or a pipe in which nothing is left
abbrev pub HasEnded : Machine → PlainInput → Type 0
HasEnded m (input.Pipe place) = input_pipe_at m.store.records place ≡ Some []
HasEnded m input.Closed = Unit {0}

-- what a read of an input of no connection answers and asks, if it is one: it is `closed` exactly where it has ended
abbrev pub PlainRead : Machine → ℕ → List Entry → Reply → Type 0
PlainRead m h es r = IfSome (plain_input_at m h) (λ i. (es ≡ []) × ((r ≡ reply.Closed) ↔ HasEnded m i))

-- these bytes were taken from the front of a pipe
abbrev pub TakesFront : Machine → ℕ → ℕ → List ℕ → List Entry → Machine → Type 0
TakesFront m h len bytes es after = OfInputPipe m h (λ place left. (bytes ≡ take len left) × (es ≡ []) × (after ≡ leaving m place (drop len left)))

-- none were taken from a pipe, since none were to be; something is left in it
abbrev pub TakesNothing : Machine → ℕ → ℕ → List Entry → Machine → Type 0
TakesNothing m h len es after = OfInputPipe m h (λ place left. left ≢ []) × (len ≡ 0) × Quiet m es after

-- it is an input of no connection, and has ended
abbrev pub EndsPlain : Machine → ℕ → List Entry → Machine → Type 0
EndsPlain m h es after = IsSomeAnd (plain_input_at m h) (HasEnded m) × Quiet m es after

-- == writing
-- nothing may be written: it is closed, or a pipe that is full
abbrev pub TakesNoMore : Machine → PlainOutput → Type 0
TakesNoMore m (output.Pipe place) = IsSomeAnd (output_pipe_at m.store.records place) (λ pipe. left_in pipe ≡ 0)
TakesNoMore m output.Sink = ⊥
TakesNoMore m output.Closed = Unit {0}

-- what a look at what may be written, a write and a flush answer, if it is an output of no connection
abbrev pub PlainCheck : Machine → ℕ → List Entry → Reply → Machine → Type 0
PlainCheck m h es r after = IfSome (plain_output_at m h) (λ o. Quiet m es after × ((r ≡ reply.Closed) ↔ TakesNoMore m o))

abbrev pub PlainWrite : Machine → ℕ → List Entry → Reply → Type 0
PlainWrite m h es r = IfSome (plain_output_at m h) (λ o. (es ≡ []) × ((r ≡ reply.Closed) ↔ (o ≡ output.Closed)))

abbrev pub PlainFlush : Machine → ℕ → List Entry → Reply → Machine → Type 0
PlainFlush m h es r after = IfSome (plain_output_at m h) (λ o. Quiet m es after × ((r ≡ reply.Closed) ↔ (o ≡ output.Closed)))

-- so many bytes may be written to it: as many as the pipe has room for, and 65536 to a sink
abbrev pub PermitsPlain : Machine → PlainOutput → ℕ → Type 0
PermitsPlain m (output.Pipe place) n = IsSomeAnd (output_pipe_at m.store.records place) (λ pipe. (n ≡ left_in pipe) × (0 < n))
PermitsPlain m output.Sink n = n ≡ 65536
PermitsPlain m output.Closed n = ⊥

-- the bytes were written: a pipe holds them after what it held; a sink keeps nothing
abbrev pub WritesPlain : Machine → PlainOutput → List ℕ → Machine → Type 0
WritesPlain m (output.Pipe place) bytes after = IsSomeAnd (output_pipe_at m.store.records place) (λ pipe. after ≡ containing m place (record pipe { held = pipe.held ++ bytes }))
WritesPlain m output.Sink bytes after = after ≡ m
WritesPlain m output.Closed bytes after = ⊥

-- a write traps so exactly where it has more bytes than the pipe has room for
abbrev pub PastCapacity : Machine → ℕ → ℕ → Reply → Type 0
PastCapacity m h n r = (r ≡ reply.Trap Capacity) ↔ IsSomeAnd (pipe_of m (plain_output_at m h)) (λ pipe. left_in pipe < n)

-- it is a closed output
abbrev pub EndsOutput : Machine → ℕ → List Entry → Machine → Type 0
EndsOutput m h es after = (plain_output_at m h ≡ Some output.Closed) × Quiet m es after

-- it is an output of which nothing more is taken
abbrev pub EndsCheck : Machine → ℕ → List Entry → Machine → Type 0
EndsCheck m h es after = IsSomeAnd (plain_output_at m h) (TakesNoMore m) × Quiet m es after

-- == a drop
-- the record of a pipe is given back, with its bytes
abbrev pub InputPipeGone : Machine → ℕ → ℕ → Machine → Machine → Type 0
InputPipeGone m handle place without after = (bytes : List ℕ) → input_pipe_at m.store.records place ≡ Some bytes → after ≡ giving_back without place

abbrev pub OutputPipeGone : Machine → ℕ → ℕ → Machine → Machine → Type 0
OutputPipeGone m handle place without after = (pipe : Contents) → output_pipe_at m.store.records place ≡ Some pipe → after ≡ giving_back without place
