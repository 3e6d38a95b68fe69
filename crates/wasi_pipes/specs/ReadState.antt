-- The state of a read core, and the records that it stands for.
use Rattle.std.specs.Prelude.{◌≡◌, ℕ, ◌≤◌, Bool, ◌||◌, is_some, length, Option, None}
use Rattle.std.specs.Option.{option_to_list}
use Rattle.wasi_pipes.specs.declared.cores.read.ReadFlags.{ReadFlags}
use Rattle.wasi_pipes.specs.Fault.{is_met}
use Rattle.wasi_pipes.specs.ReadRecord.{ReadRecord, ReadEvent, ReadAnswer, fresh, answer, happens, untaken}

-- what a read core keeps, and contracts see of it
pub record ReadState : Type 0 where
  pub slot : Option ℕ  -- the length that was offered and not taken
  pub flags : ReadFlags

-- nothing was offered yet
abbrev pub fresh_state : ReadState
fresh_state = record { slot = None; flags = fresh.flags }

-- whether the owner needn't wait: the slot is full, a fault is kept, or the stream is closed
abbrev pub is_ready : ReadState → Bool
is_ready s = (is_some s.slot || is_met s.flags.fault) || (s.flags.ended || s.flags.stopped)

-- A core stands for a record: its slot and its flags are the record's.
pub record StandsFor (s : ReadState) (r : ReadRecord) : Type 0 where
  pub counted : r.taken ≤ length r.offered  -- no more are taken than were offered
  pub slot : option_to_list s.slot ≡ untaken r
  pub flags : s.flags ≡ r.flags

-- From old to new an event came that was answered so: for each record that old stands for it is the record's answer,
-- and new stands for what the event makes of the record.
pub record Follows (old : ReadState) (e : ReadEvent) (told : ReadAnswer) (new : ReadState) : Type 0 where
  pub answered : (r : ReadRecord) → StandsFor old r → told ≡ answer r e
  pub stands : (r : ReadRecord) → StandsFor old r → StandsFor new (happens r e)
