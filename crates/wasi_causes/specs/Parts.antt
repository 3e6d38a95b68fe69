-- Calls of streams that are made of others: a skip is a read, a write of zeros is a write, and a splice looks at what may be written,
-- reads so much, and writes that. Each part is a step of its own line.
use Rattle.std.specs.Prelude.{◌≡◌, ◌⊎◌, ℕ, suc, min, false, List, [], ◌∷◌, ◌++◌, length}
use Rattle.wasi_world.specs.declared.call.Entry.{Entry}
use Rattle.wasi_world.specs.declared.outcome.TrapKind.TheVariants.{NoSuchHandle}
use Rattle.wasi_world.specs.declared.outcome.WasiSocketsCtx.{WasiSocketsCtx}
use Rattle.host_store.specs.declared.machine.Machine.{Machine}
use Rattle.host_store.specs.Kinds.{kind_at, is_readable, is_writable}
use Rattle.wasi_steps.specs.declared.reply.Field.{Field}
use Rattle.wasi_steps.specs.declared.reply.Field.TheVariants as field
use Rattle.wasi_steps.specs.declared.reply.Reply.{Reply}
use Rattle.wasi_steps.specs.declared.reply.Reply.TheVariants as reply
use Rattle.wasi_steps.specs.declared.guest_call.GuestCall.TheVariants as guest
use Rattle.wasi_steps.specs.declared.guest_call.StreamCall.TheVariants as stream_call
use Rattle.wasi_steps.specs.declared.step.Step.TheVariants as step
use Rattle.wasi_steps.specs.Reply.{bytes_fields, number_fields}
use Rattle.wasi_walks.specs.Answered.{Answered}

-- a call of a stream that gives nothing: it is at an end, failed, or traps
abbrev pub GivesNone : Reply → Type 0
GivesNone reply.Closed = Unit {0}
GivesNone (reply.Failed word handle) = Unit {0}
GivesNone (reply.Trap kind) = Unit {0}
GivesNone _ = ⊥

-- == a skip
-- how many bytes a read gave
abbrev pub count_fields : List Field → List Field
count_fields (field.Bytes bytes ∷ []) = number_fields (length bytes)
count_fields fields = fields

abbrev pub counted_reply : Reply → Reply
counted_reply (reply.Ok fields) = reply.Ok (count_fields fields)
counted_reply r = r

-- A read of the same was answered so, and this is the reply that counts its bytes.
pub record Skips (contexts : List WasiSocketsCtx) (m : Machine) (line c input len : ℕ) (es : List Entry) (r : Reply) (after : Machine) : Type 0 where
  pub given : Reply
  pub reads : Answered contexts m line (step.Call c (guest.Stream (stream_call.Read input len))) es given after
  pub counts : r ≡ counted_reply given

-- == a splice
-- the reply of a splice, by that of its write
abbrev pub spliced_reply : ℕ → Reply → Reply
spliced_reply n (reply.Ok fields) = reply.Ok (number_fields n)
spliced_reply n r = r

-- one of the handles is that of no output, or that of no input
abbrev pub LacksStream : Machine → ℕ → ℕ → Type 0
LacksStream m to from = (is_writable (kind_at m.table to) ≡ false) ⊎ (is_readable (kind_at m.table from) ≡ false)

-- How a splice comes out: its handles are tested; then one of its parts gives nothing; or nothing is to be read; or nothing was read;
-- or what was read is written.
pub data Splices (contexts : List WasiSocketsCtx) (m : Machine) (line c to from len : ℕ) : List Entry → Reply → Machine → Type 0 where
  NoStream : LacksStream m to from → Splices contexts m line c to from len [] (reply.Trap NoSuchHandle) m
  CheckGivesNone : (es : List Entry) (r : Reply) (after : Machine) → Answered contexts m line (step.Call c (guest.Stream (stream_call.CheckWrite to))) es r after → GivesNone r → Splices contexts m line c to from len es r after
  NoneToRead : (es : List Entry) (permit : ℕ) (after : Machine) → Answered contexts m line (step.Call c (guest.Stream (stream_call.CheckWrite to))) es (reply.Ok (number_fields permit)) after → min permit len ≡ 0
      → Splices contexts m line c to from len es (reply.Ok (number_fields 0)) after
  ReadGivesNone : (es fs : List Entry) (permit count : ℕ) (mid : Machine) (r : Reply) (after : Machine) → Answered contexts m line (step.Call c (guest.Stream (stream_call.CheckWrite to))) es (reply.Ok (number_fields permit)) mid → min permit len ≡ suc count
      → Answered contexts mid line (step.Call c (guest.Stream (stream_call.Read from (suc count)))) fs r after → GivesNone r → Splices contexts m line c to from len (es ++ fs) r after
  NoneRead : (es fs : List Entry) (permit count : ℕ) (mid after : Machine) → Answered contexts m line (step.Call c (guest.Stream (stream_call.CheckWrite to))) es (reply.Ok (number_fields permit)) mid → min permit len ≡ suc count
      → Answered contexts mid line (step.Call c (guest.Stream (stream_call.Read from (suc count)))) fs (reply.Ok (bytes_fields [])) after → Splices contexts m line c to from len (es ++ fs) (reply.Ok (number_fields 0)) after
  Writes : (es fs gs : List Entry) (permit count b : ℕ) (bytes : List ℕ) (mid read : Machine) (r : Reply) (after : Machine) → Answered contexts m line (step.Call c (guest.Stream (stream_call.CheckWrite to))) es (reply.Ok (number_fields permit)) mid → min permit len ≡ suc count
      → Answered contexts mid line (step.Call c (guest.Stream (stream_call.Read from (suc count)))) fs (reply.Ok (bytes_fields (b ∷ bytes))) read → Answered contexts read line (step.Call c (guest.Stream (stream_call.Write to (b ∷ bytes)))) gs r after
      → Splices contexts m line c to from len (es ++ (fs ++ gs)) (spliced_reply (length (b ∷ bytes)) r) after
