-- The record of a write stream: every length that was accepted, and how far the worker has come with them.
use Rattle.std.specs.Prelude.{◌≡◌, ℕ, ◌+◌, ◌-◌, Bool, true, false, ◌==◌, nat_lt, if◌then◌else◌, List, [], ◌∷◌, ◌++◌, length, drop, sum, Result, Ok, Err}
use Rattle.std.specs.List.{flat_map, fold}
use Rattle.std.specs.Result.{result_and}
use Rattle.wasi_addr.specs.declared.code.ErrorCode.{ErrorCode}
use Rattle.wasi_world.specs.declared.outcome.TrapKind.TheVariants as trap
use Rattle.wasi_streams.specs.declared.error.StreamError.{StreamError}
use Rattle.wasi_streams.specs.declared.error.StreamError.TheVariants.{LastOperationFailed, Closed, Trap}
use Rattle.wasi_pipes.specs.declared.cores.fault.WorkerFault.{WorkerFault}
use Rattle.wasi_pipes.specs.declared.cores.fault.WorkerFault.TheVariants.{Unmet, Kept, Told}
use Rattle.wasi_pipes.specs.declared.cores.write.WriteFlags.{WriteFlags}
use Rattle.wasi_pipes.specs.declared.cores.write.Work.{Work}
use Rattle.wasi_pipes.specs.declared.cores.write.Work.TheVariants as work
use Rattle.wasi_pipes.specs.Fault.{after_telling}
use Rattle.wasi_pipes.specs.Run.{AllMay, Step, steps_of}

pub record WriteRecord : Type 0 where
  pub initial : ℕ  -- the initial budget
  pub accepted : List ℕ  -- the lengths that were accepted, in order
  pub written : ℕ  -- how many of them are wholly written
  pub in_hand : Bool  -- whether the worker has the next one in hand
  pub flags : WriteFlags

-- what may happen to a write stream: four events of its owner, four of its worker
pub data WriteEvent : Type 0 where
  Accept : ℕ → WriteEvent
  Flush : WriteEvent
  Check : WriteEvent
  Stop : WriteEvent
  Pop : WriteEvent
  Wrote : WriteEvent
  Flushed : WriteEvent
  Failed : ErrorCode → WriteEvent

-- what an event answers
pub data WriteAnswer : Type 0 where
  Silent : WriteAnswer
  Answered : Result (Unit {0}) StreamError → WriteAnswer  -- accept and flush
  Allowed : Result ℕ StreamError → WriteAnswer  -- check
  Given : Work → WriteAnswer  -- pop

-- nothing was accepted yet
abbrev pub fresh : ℕ → WriteRecord
fresh initial = record { initial = initial; accepted = []; written = 0; in_hand = false; flags = record { flushing = false; fault = Unmet; stopped = false } }

-- the lengths that aren't wholly written: those queued, after the one in hand
abbrev pub unwritten : WriteRecord → List ℕ
unwritten r = drop r.written r.accepted

-- the lengths that weren't popped
abbrev pub queued : WriteRecord → List ℕ
queued r = drop (if r.in_hand then r.written + 1 else r.written) r.accepted

-- the initial budget less the lengths that aren't wholly written
abbrev pub budget : WriteRecord → ℕ
budget r = r.initial - sum (unwritten r)

-- what the owner is answered before all else: a kept fault, or that the stream is closed, by a stop or since its fault was
-- reported
abbrev pub admission_of : WorkerFault ErrorCode → Bool → Result (Unit {0}) StreamError
admission_of (Kept code) stopped = Err (LastOperationFailed code)
admission_of (Told code) stopped = Err Closed
admission_of Unmet true = Err Closed
admission_of Unmet false = Ok tt

-- the same, by the flags
abbrev pub admission : WriteFlags → Result (Unit {0}) StreamError
admission flags = admission_of flags.fault flags.stopped

-- the answer to a write of so many bytes, under this budget
abbrev pub accept_answer : WriteFlags → ℕ → ℕ → Result (Unit {0}) StreamError
accept_answer flags budget len =
    result_and (admission flags)
    (if flags.flushing then Err (Trap trap.FlushPending) else (if nat_lt budget len then Err (Trap trap.Budget) else Ok tt))

-- how many bytes may be written
abbrev pub check_answer : WriteFlags → ℕ → Result ℕ StreamError
check_answer flags budget = result_and (admission flags) (Ok (if flags.flushing then 0 else budget))

-- what is to be done about these lengths
abbrev pub work_on : Bool → List ℕ → Work
work_on flushing (len ∷ rest) = work.Write len
work_on flushing [] = if flushing then work.Flush else work.Idle

-- what a worker with none in hand is to do next, where these are the lengths
abbrev pub next_work : WriteFlags → List ℕ → Work
next_work flags lengths = if flags.stopped then work.Stop else work_on flags.flushing lengths

-- the lengths that an accepted write of so many bytes makes: none where it has no bytes
abbrev pub chunk : ℕ → List ℕ
chunk len = if len == 0 then [] else len ∷ []

-- the lengths that a write adds to the accepted ones, by its answer
abbrev pub joining : Result (Unit {0}) StreamError → ℕ → List ℕ
joining (Ok done) len = chunk len
joining (Err e) len = []

-- whether the worker is to write
abbrev pub is_write : Work → Bool
is_write (work.Write len) = true
is_write work.Flush = false
is_write work.Idle = false
is_write work.Stop = false

-- the flags once the owner was told of a kept fault
abbrev pub after_told : WriteFlags → WriteFlags
after_told flags = record flags { fault = after_telling flags.fault }

-- the flags once a flush was answered so
abbrev pub after_flush : Result (Unit {0}) StreamError → WriteFlags → WriteFlags
after_flush (Ok done) flags = record flags { flushing = true }
after_flush (Err e) flags = after_told flags

-- what an event makes of the flags
abbrev pub flags_after : WriteFlags → WriteEvent → WriteFlags
flags_after flags (Accept len) = after_told flags
flags_after flags Flush = after_flush (admission flags) flags
flags_after flags Check = after_told flags
flags_after flags Stop = record flags { stopped = true }
flags_after flags Pop = flags
flags_after flags Wrote = flags
flags_after flags Flushed = record flags { flushing = false }
flags_after flags (Failed code) = record flags { fault = Kept code; flushing = false }

-- the condition of an event
abbrev pub May : WriteRecord → WriteEvent → Type 0
May r Pop = r.in_hand ≡ false
May r Wrote = r.in_hand ≡ true
May r Flushed = (r.flags.flushing ≡ true) × (r.written ≡ length r.accepted)
May r (Failed code) = r.flags.fault ≡ Unmet
May r _ = Unit {0}

-- what an event answers
abbrev pub answer : WriteRecord → WriteEvent → WriteAnswer
answer r (Accept len) = Answered (accept_answer r.flags (budget r) len)
answer r Flush = Answered (admission r.flags)
answer r Check = Allowed (check_answer r.flags (budget r))
answer r Pop = Given (next_work r.flags (unwritten r))
answer r _ = Silent

-- what an event makes of the record
abbrev pub happens : WriteRecord → WriteEvent → WriteRecord
happens r (Accept len) = record r { accepted = r.accepted ++ joining (accept_answer r.flags (budget r) len) len; flags = flags_after r.flags (Accept len) }
happens r Pop = record r { in_hand = is_write (next_work r.flags (unwritten r)) }
happens r Wrote = record r { written = r.written + 1; in_hand = false }
happens r e = record r { flags = flags_after r.flags e }

-- each event meets its condition when it comes
abbrev pub Meets : WriteRecord → List WriteEvent → Type 0
Meets r events = AllMay May happens r events

-- the record after these events
abbrev pub run : WriteRecord → List WriteEvent → WriteRecord
run r events = fold happens r events

-- these events with their answers
abbrev pub trace : WriteRecord → List WriteEvent → List (Step WriteEvent WriteAnswer)
trace r events = steps_of answer happens r events

-- what an event with this answer accepted
abbrev pub accepted_by : WriteEvent → WriteAnswer → List ℕ
accepted_by (Accept len) (Answered result) = joining result len
accepted_by _ _ = []

-- the lengths that were accepted, in order
abbrev pub accepted_lengths : List (Step WriteEvent WriteAnswer) → List ℕ
accepted_lengths steps = flat_map (λ step. accepted_by step.event step.answer) steps

-- the length that a pop gave
abbrev pub popped_by : WriteAnswer → List ℕ
popped_by (Given (work.Write len)) = len ∷ []
popped_by _ = []

-- the lengths that pops gave, in order
abbrev pub popped_lengths : List (Step WriteEvent WriteAnswer) → List ℕ
popped_lengths steps = flat_map (λ step. popped_by step.answer) steps

-- whether an answer reports a fault
abbrev pub tells_fault : WriteAnswer → Bool
tells_fault (Answered (Err (LastOperationFailed code))) = true
tells_fault (Allowed (Err (LastOperationFailed code))) = true
tells_fault _ = false

-- whether an event ends a pending flush
abbrev pub ends_flush : WriteEvent → Bool
ends_flush Flushed = true
ends_flush (Failed code) = true
ends_flush _ = false

-- whether an event asks for a write or a flush
abbrev pub asks : WriteEvent → Bool
asks (Accept len) = true
asks Flush = true
asks _ = false

-- the owner's calls are answered `Closed`
pub record IsClosed (r : WriteRecord) : Type 0 where
  pub accept : (len : ℕ) → answer r (Accept len) ≡ Answered (Err Closed)
  pub flush : answer r Flush ≡ Answered (Err Closed)
  pub check : answer r Check ≡ Allowed (Err Closed)
