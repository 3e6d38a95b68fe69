-- A log beside a recorded one: how far they are the same, and what is answered past that.
use Rattle.std.specs.Prelude.{◌≡◌, ◌≢◌, ℕ, ◌<◌, ◌≤◌, Bool, List, Option, Some, None, option_map, take, length, slice_get}
use Rattle.wasi_addr.specs.declared.code.ErrorCode.TheVariants as code
use Rattle.wasi_world.specs.declared.ids.OpId.{OpId}
use Rattle.wasi_world.specs.declared.call.Call.{Call}
use Rattle.wasi_world.specs.declared.call.Call.TheVariants.{Check, Hand, Refuse, ReadReady, WriteReady, Shutdown, Close, Made}
use Rattle.wasi_world.specs.declared.call.Entry.{Entry}
use Rattle.wasi_world.specs.declared.call.Told.{Told}
use Rattle.wasi_world.specs.declared.call.Told.TheVariants.{Pending, Done, No, Code, Took}
use Rattle.wasi_world.specs.Seen.{Seen}

-- the bytes that a write took
abbrev pub taken : Told → Option (List ℕ)
taken (Took bytes) = Some bytes
taken _ = None

-- two writes took as many bytes, and not the same
pub record TookOthers (recorded told : Told) : Type 0 where
  pub as_many : option_map length (taken told) ≡ option_map length (taken recorded)
  pub others : taken told ≢ taken recorded

-- The log is the recorded one up to a place, and there it has another call, or a write that took other bytes, or one call more.
pub record DiffersAt (recorded log : List Entry) (place : ℕ) : Type 0 where
  pub within : place < length log
  pub inside : place ≤ length recorded
  pub same : take place log ≡ take place recorded
  pub other : (e r : Entry) → slice_get log place ≡ Some e → slice_get recorded place ≡ Some r → e.op ≡ r.op → e.call ≡ r.call → TookOthers r.answer e.answer

-- how a log stands to a recorded one: it is its beginning, or differs from it at a place
abbrev pub StandsTo : List Entry → List Entry → Option ℕ → Type 0
StandsTo recorded log None = (length log ≤ length recorded) × (log ≡ take (length log) recorded)
StandsTo recorded log (Some place) = DiffersAt recorded log place

-- These entries are the recorded ones; or, once the log differs, they are the log, of which so many calls were made.
pub record Follows (recorded entries : List Entry) (made : ℕ) (differs : Option ℕ) : Type 0 where
  pub same : differs ≡ None → entries ≡ recorded
  pub whole : (place : ℕ) → differs ≡ Some place → (made ≡ length entries) × DiffersAt recorded entries place

-- this call is recorded
abbrev pub IsRecorded : Option Entry → OpId → Call → Type 0
IsRecorded None op called = ⊥
IsRecorded (Some recorded) op called = (recorded.op ≡ op) × (recorded.call ≡ called)

-- what a call is answered that isn't recorded
abbrev pub unrecorded : Call → Told
unrecorded (Check _ _ _) = No
unrecorded (Hand _ _) = Done
unrecorded (Refuse _ _) = Done
unrecorded (ReadReady _) = Pending
unrecorded (WriteReady _) = Pending
unrecorded (Shutdown _ _) = Done
unrecorded (Close _) = Done
unrecorded (Made _ _ _ _) = Done
unrecorded _ = Code code.Other

-- one call with its answer
abbrev pub entry : OpId → Call → Told → Entry
entry op called told = record { op = op; call = called; answer = told }

-- what is known of a world that goes by no plan and has this log
abbrev pub seen_of : List Entry → Bool → ℕ → ℕ → Seen
seen_of log ended closings faults = record { log = Some log; ended = ended; closings = closings; faults = faults; plan = None }
