-- The state of a write core, and the records that it stands for.
use Rattle.std.specs.Prelude.{◌≡◌, ℕ, ◌+◌, ◌-◌, ◌≤◌, Bool, ◌==◌, not, ◌&&◌, ◌||◌, is_some, is_none, unwrap_or, List, [], ◌++◌, length, drop, sum, Option, Some, None}
use Rattle.std.specs.Option.{option_to_list}
use Rattle.wasi_pipes.specs.declared.cores.write.WriteFlags.{WriteFlags}
use Rattle.wasi_pipes.specs.declared.cores.write.Work.{Work}
use Rattle.wasi_pipes.specs.declared.cores.write.Work.TheVariants as work
use Rattle.wasi_pipes.specs.Fault.{is_met}
use Rattle.wasi_pipes.specs.WriteRecord.{WriteRecord, WriteEvent, WriteAnswer, fresh, answer, happens, unwritten}

-- what a write core keeps
pub record WriteState : Type 0 where
  pub budget : ℕ  -- how many bytes may be accepted
  pub queued : List ℕ  -- the lengths that were accepted and not popped, in order
  pub hand : Option ℕ  -- the length that was popped and isn't wholly written
  pub flags : WriteFlags

-- what contracts see of a write core
pub record WriteView : Type 0 where
  pub state : WriteState
  pub room : Bool  -- whether one more length takes no memory

-- nothing was accepted yet
abbrev pub fresh_state : ℕ → WriteState
fresh_state budget = record { budget = budget; queued = []; hand = None; flags = (fresh budget).flags }

-- the lengths that aren't wholly written: the one in hand, and those queued
abbrev pub outstanding : WriteState → List ℕ
outstanding s = option_to_list s.hand ++ s.queued

-- the budget that it began with
abbrev pub initial_of : WriteState → ℕ
initial_of s = s.budget + sum (outstanding s)

-- these lengths were accepted
abbrev pub with_accepted : WriteState → List ℕ → WriteState
with_accepted s lengths = record s { budget = s.budget - sum lengths; queued = s.queued ++ lengths }

-- this work was popped
abbrev pub after_pop : WriteState → Work → WriteState
after_pop s (work.Write len) = record s { queued = drop 1 s.queued; hand = Some len }
after_pop s work.Flush = s
after_pop s work.Idle = s
after_pop s work.Stop = s

-- the length in hand was written
abbrev pub after_write : WriteState → WriteState
after_write s = record s { budget = s.budget + unwrap_or s.hand 0; hand = None }

-- the flags alone changed
abbrev pub with_flags : WriteView → WriteFlags → WriteView
with_flags core flags = record core { state = record core.state { flags = flags } }

-- whether the owner needn't wait: a fault is kept, the stream is closed, or no flush is pending and the budget isn't 0
abbrev pub is_ready : WriteState → Bool
is_ready s = (is_met s.flags.fault || s.flags.stopped) || (not s.flags.flushing && not (s.budget == 0))

-- whether nothing is left to wait for: all is written and flushed, or the worker failed, or the stream was stopped
abbrev pub is_done : WriteState → Bool
is_done s = (is_met s.flags.fault || s.flags.stopped) || ((is_none s.hand && (length s.queued == 0)) && not s.flags.flushing)

-- A core stands for a record: its initial budget, its lengths, its hand and its flags are the record's.
pub record StandsFor (s : WriteState) (r : WriteRecord) : Type 0 where
  pub initial : initial_of s ≡ r.initial
  pub counted : r.written ≤ length r.accepted  -- no more are written than were accepted
  pub lengths : outstanding s ≡ unwritten r
  pub hand : is_some s.hand ≡ r.in_hand
  pub flags : s.flags ≡ r.flags

-- From old to new an event came that was answered so: for each record that old stands for it is the record's answer,
-- and new stands for what the event makes of the record.
pub record Follows (old : WriteState) (e : WriteEvent) (told : WriteAnswer) (new : WriteState) : Type 0 where
  pub answered : (r : WriteRecord) → StandsFor old r → told ≡ answer r e
  pub stands : (r : WriteRecord) → StandsFor old r → StandsFor new (happens r e)
