-- The record of a read stream: every length that the worker offered, and how many of them its owner took.
use Rattle.std.specs.Prelude.{◌≡◌, ℕ, ◌+◌, ◌<◌, Bool, true, false, ◌==◌, ◌||◌, if◌then◌else◌, List, [], ◌∷◌, ◌++◌, drop, Result, Ok, Err, alloc_error}
use Rattle.std.specs.List.{flat_map, fold}
use Rattle.std.specs.Result.{result_and}
use Rattle.wasi_addr.specs.declared.code.ErrorCode.{ErrorCode}
use Rattle.wasi_streams.specs.declared.error.StreamError.{StreamError}
use Rattle.wasi_streams.specs.declared.error.StreamError.TheVariants.{LastOperationFailed, Closed, Memory}
use Rattle.wasi_pipes.specs.declared.cores.fault.WorkerFault.{WorkerFault}
use Rattle.wasi_pipes.specs.declared.cores.fault.WorkerFault.TheVariants.{Unmet, Kept, Told}
use Rattle.wasi_pipes.specs.declared.cores.read.ReadFault.{ReadFault}
use Rattle.wasi_pipes.specs.declared.cores.read.ReadFault.TheVariants.{Failed, Starved}
use Rattle.wasi_pipes.specs.declared.cores.read.ReadFlags.{ReadFlags}
use Rattle.wasi_pipes.specs.Fault.{after_telling}
use Rattle.wasi_pipes.specs.Run.{AllMay, Step, steps_of}

pub record ReadRecord : Type 0 where
  pub offered : List ℕ  -- the lengths that were offered, in order
  pub taken : ℕ  -- how many of them were taken
  pub flags : ReadFlags

-- what may happen to a read stream: four events of its worker, two of its owner
pub data ReadEvent : Type 0 where
  Offer : ℕ → ReadEvent
  End : ReadEvent
  Fail : ErrorCode → ReadEvent
  Starve : ReadEvent
  Take : ReadEvent
  Stop : ReadEvent

-- what an event answers
pub data ReadAnswer : Type 0 where
  Silent : ReadAnswer
  Taken : Result ℕ StreamError → ReadAnswer  -- take

-- nothing was offered yet
abbrev pub fresh : ReadRecord
fresh = record { offered = []; taken = 0; flags = record { ended = false; fault = Unmet; stopped = false } }

-- the lengths that aren't taken; the slot is full where there is one
abbrev pub untaken : ReadRecord → List ℕ
untaken r = drop r.taken r.offered

-- how a fault is reported
abbrev pub error_of : ReadFault → StreamError
error_of (Failed code) = LastOperationFailed code
error_of Starved = Memory alloc_error

-- what the owner is answered where nothing is to be taken: a kept fault, or that the stream is closed, by its end or a
-- stop (it is over then) or since its fault was reported
abbrev pub admission_of : WorkerFault ReadFault → Bool → Result (Unit {0}) StreamError
admission_of (Kept fault) over = Err (error_of fault)
admission_of (Told fault) over = Err Closed
admission_of Unmet true = Err Closed
admission_of Unmet false = Ok tt

-- the same, by the flags
abbrev pub admission : ReadFlags → Result (Unit {0}) StreamError
admission flags = admission_of flags.fault (flags.ended || flags.stopped)

-- what the owner takes of these lengths: the first, or 0 where it is to wait
abbrev pub take_answer : ReadFlags → List ℕ → Result ℕ StreamError
take_answer flags (len ∷ rest) = Ok len
take_answer flags [] = result_and (admission flags) (Ok 0)

-- the flags once the owner was told of a kept fault
abbrev pub after_told : ReadFlags → ReadFlags
after_told flags = record flags { fault = after_telling flags.fault }

-- the record once the owner took what it could of these lengths
abbrev pub after_take : ReadRecord → List ℕ → ReadRecord
after_take r (len ∷ rest) = record r { taken = r.taken + 1 }
after_take r [] = record r { flags = after_told r.flags }

-- the condition of an event
abbrev pub May : ReadRecord → ReadEvent → Type 0
May r (Offer len) = (untaken r ≡ []) × (0 < len)
May r (Fail code) = r.flags.fault ≡ Unmet
May r Starve = r.flags.fault ≡ Unmet
May r _ = Unit {0}

-- what an event answers
abbrev pub answer : ReadRecord → ReadEvent → ReadAnswer
answer r Take = Taken (take_answer r.flags (untaken r))
answer r _ = Silent

-- what an event makes of the record
abbrev pub happens : ReadRecord → ReadEvent → ReadRecord
happens r (Offer len) = record r { offered = r.offered ++ len ∷ [] }
happens r End = record r { flags = record r.flags { ended = true } }
happens r (Fail code) = record r { flags = record r.flags { fault = Kept (Failed code) } }
happens r Starve = record r { flags = record r.flags { fault = Kept Starved } }
happens r Take = after_take r (untaken r)
happens r Stop = record r { flags = record r.flags { stopped = true } }

-- each event meets its condition when it comes
abbrev pub Meets : ReadRecord → List ReadEvent → Type 0
Meets r events = AllMay May happens r events

-- the record after these events
abbrev pub run : ReadRecord → List ReadEvent → ReadRecord
run r events = fold happens r events

-- these events with their answers
abbrev pub trace : ReadRecord → List ReadEvent → List (Step ReadEvent ReadAnswer)
trace r events = steps_of answer happens r events

-- the length that an event offers
abbrev pub offered_by : ReadEvent → List ℕ
offered_by (Offer len) = len ∷ []
offered_by _ = []

-- the lengths that were offered, in order
abbrev pub offered_lengths : List (Step ReadEvent ReadAnswer) → List ℕ
offered_lengths steps = flat_map (λ step. offered_by step.event) steps

-- the length that an answer gives, which is none where it is 0
abbrev pub taken_by : ReadAnswer → List ℕ
taken_by (Taken (Ok len)) = if len == 0 then [] else len ∷ []
taken_by _ = []

-- the lengths that were taken, in order
abbrev pub taken_lengths : List (Step ReadEvent ReadAnswer) → List ℕ
taken_lengths steps = flat_map (λ step. taken_by step.answer) steps

-- whether an answer reports a fault
abbrev pub tells_fault : ReadAnswer → Bool
tells_fault (Taken (Err (LastOperationFailed code))) = true
tells_fault (Taken (Err (Memory e))) = true
tells_fault _ = false
