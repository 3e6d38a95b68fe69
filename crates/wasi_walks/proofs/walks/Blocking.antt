-- The calls of streams that block, as moves: begun by a line, or continued by a poll, they are made of the same calls, and are
-- pending where there is nothing yet.
use Rattle.std.specs.Prelude.{◌==◌, ℕ, zero, suc, min, nat_lt, ⊤, ◌⊎◌, Bool, true, false, List, [], ◌∷◌, drop, length, take, Option, Result, Ok, Err}
use Rattle.wasi_streams.specs.Streams.{zeros}
use Rattle.wasi_world.specs.declared.ids.Ids.{Ids}
use Rattle.wasi_walks.proofs.Words.{Give, Machine, Pending, Ready, Step, WasiSocketsCtx, if◌then◌else◌, is_readable, is_writable, inl, inr, kind_at, refl, Answer, Stop, ap, sym, ◌≡◌}
use Rattle.host_streams.specs.Blocking.{Again, Blocked, blocking_flush_asks, blocking_handles, blocking_read_asks, blocking_skip_asks, blocking_splice_asks, blocking_splice_when, blocking_write_asks, blocking_zeroes_asks, finish_flushed, finish_write_asks, flush_begun, flush_checked, last_check_asks, last_checked, read_answer, read_looked, round_checked, round_written, skip_answer, skip_looked, splice_count, splice_given, splice_looked, splice_permitted, splice_written, waits_as, write_ended, write_rest_asks, write_rounds, write_when, zeroes_when}
use Rattle.host_store.specs.CallStops.{CallStop, Closed, Failed, Traps}
use Rattle.wasi_host.specs.Pending.{blocked_outcome, gone_on, nothing_given, places_on, unblock_asks}
use Rattle.host_store.specs.declared.store.BlockingCall.{BlockingCall}
use Rattle.host_store.specs.declared.store.BlockingCall.TheVariants.{Read, Skip, Write, Finish, Flush, Splice, Block, Poll}
use Rattle.wasi_host.specs.declared.pending.Outcome.{Outcome}
use Rattle.wasi_host.specs.declared.pending.Outcome.TheVariants.{Bytes, Count}
use Rattle.wasi_host.specs.declared.polling.Look.TheVariants.{Later}
use Rattle.wasi_walks.proofs.walks.Polling.{block_walks, poll_walks}
use Rattle.wasi_walks.proofs.walks.Moves.{CallKind, Calls, Here, Leaves, OfStreams, StandsBlocking, Used, kind_of}
use Rattle.wasi_walks.proofs.walks.Law.{BeginsWrites, Law, Walks, and_then, give, gives, move}
use Rattle.wasi_walks.proofs.walks.Calls.{Calling, check_asks_walks, flushed_asks_walks, look_asks_walks, read_asks_walks, skip_asks_walks, write_asks_walks}
use Rattle.wasi_walks.proofs.walks.States.{Over, OverWith}
use Rattle.wasi_walks.proofs.walks.Writes.{AsAny}

-- the pending call writes nothing after it asked
abbrev pub WritesNone : BlockingCall → Type 0
WritesNone (Write output rest) = ⊥
WritesNone (Splice to from len) = ⊥
WritesNone _ = ⊤

-- it is done again, on the handles that it was begun on
abbrev pub Recalled : ℕ → BlockingCall → Option (ℕ × ℕ) → Machine → Here
Recalled n call at m = record { machine = m; at = at; made = Calls (kind_of call) n (blocking_handles call); own = Used }

module _ {contexts : List WasiSocketsCtx} {line : ℕ} {origin : Step} {law : Law contexts line origin} (ids : Ids) where
  -- the call is pending
  pub waits_walks : {A : Type 0} {at : Option (ℕ × ℕ)} (m : Machine) (call : BlockingCall) → kind_of call ≡ OfStreams → (let done : Blocked A = waits_as ids call m in Walks law (Calling ids.line (blocking_handles call) at Used m) OverWith (Give done))
  waits_walks m call of = move (StandsBlocking _ ids call (blocking_handles call) (ap (λ (kind : CallKind). Calls kind ids.line (blocking_handles call)) (sym of)) refl) (gives _ (Leaves _))

  -- == a read, and a skip
  module _ (input len : ℕ) where
    read_again_walks : {at : Option (ℕ × ℕ)} (m : Machine) (none : Bool) → (let done : Blocked (List ℕ) = if none then (Ok (Ready []), m) else waits_as ids (Read input len) m in Walks law (Calling ids.line (input ∷ []) at Used m) OverWith (Give done))
    read_again_walks m true = gives _ (Leaves _)
    read_again_walks m false = waits_walks m (Read input len) refl

    read_answer_walks : {at : Option (ℕ × ℕ)} (done : Result (List ℕ) CallStop × Machine) → Walks law (Calling ids.line (input ∷ []) at Used done.1) OverWith (Give (read_answer ids input len done))
    read_answer_walks (Ok [], m) = read_again_walks m (len == 0)
    read_answer_walks (Ok (b ∷ bytes), m) = gives _ (Leaves _)
    read_answer_walks (Err why, m) = gives _ (Leaves _)

    read_looked_walks : {at : Option (ℕ × ℕ)} (looked : Result Bool CallStop × Machine) → Walks law (Calling ids.line (input ∷ []) at Used looked.1) OverWith (read_looked ids input len looked)
    read_looked_walks (Ok true, m) = and_then (read_asks_walks m input (inl refl) len) read_answer_walks
    read_looked_walks (Ok false, m) = waits_walks m (Read input len) refl
    read_looked_walks (Err why, m) = gives _ (Leaves _)

    pub blocking_read_walks : {at : Option (ℕ × ℕ)} (m : Machine) → Walks law (Calling ids.line (input ∷ []) at Used m) OverWith (blocking_read_asks m ids input len)
    blocking_read_walks m = and_then (look_asks_walks m input (inl refl)) read_looked_walks

    skip_again_walks : {at : Option (ℕ × ℕ)} (m : Machine) (none : Bool) → (let done : Blocked ℕ = if none then (Ok (Ready 0), m) else waits_as ids (Skip input len) m in Walks law (Calling ids.line (input ∷ []) at Used m) OverWith (Give done))
    skip_again_walks m true = gives _ (Leaves _)
    skip_again_walks m false = waits_walks m (Skip input len) refl

    skip_answer_walks : {at : Option (ℕ × ℕ)} (done : Result ℕ CallStop × Machine) → Walks law (Calling ids.line (input ∷ []) at Used done.1) OverWith (Give (skip_answer ids input len done))
    skip_answer_walks (Ok zero, m) = skip_again_walks m (len == 0)
    skip_answer_walks (Ok (suc n), m) = gives _ (Leaves _)
    skip_answer_walks (Err why, m) = gives _ (Leaves _)

    skip_looked_walks : {at : Option (ℕ × ℕ)} (looked : Result Bool CallStop × Machine) → Walks law (Calling ids.line (input ∷ []) at Used looked.1) OverWith (skip_looked ids input len looked)
    skip_looked_walks (Ok true, m) = and_then (skip_asks_walks m input (inl refl) len) skip_answer_walks
    skip_looked_walks (Ok false, m) = waits_walks m (Skip input len) refl
    skip_looked_walks (Err why, m) = gives _ (Leaves _)

    pub blocking_skip_walks : {at : Option (ℕ × ℕ)} (m : Machine) → Walks law (Calling ids.line (input ∷ []) at Used m) OverWith (blocking_skip_asks m ids input len)
    blocking_skip_walks m = and_then (look_asks_walks m input (inl refl)) skip_looked_walks

  -- == a flush, and the end of a write
  module _ (output : ℕ) where
    flush_checked_walks : {at : Option (ℕ × ℕ)} (checked : Result ℕ CallStop × Machine) → Walks law (Calling ids.line (output ∷ []) at Used checked.1) OverWith (Give (flush_checked ids output checked))
    flush_checked_walks (Ok zero, m) = waits_walks m (Flush output) refl
    flush_checked_walks (Ok (suc n), m) = gives _ (Leaves _)
    flush_checked_walks (Err why, m) = gives _ (Leaves _)

    flush_begun_walks : {at : Option (ℕ × ℕ)} (done : Result (Unit {0}) CallStop × Machine) → Walks law (Calling ids.line (output ∷ []) at Used done.1) OverWith (flush_begun ids output done)
    flush_begun_walks (Ok done, m) = and_then (check_asks_walks m output (inl refl)) flush_checked_walks
    flush_begun_walks (Err why, m) = gives _ (Leaves _)

    pub blocking_flush_walks : {at : Option (ℕ × ℕ)} (m : Machine) → Walks law (Calling ids.line (output ∷ []) at Used m) OverWith (blocking_flush_asks m ids output)
    blocking_flush_walks m = and_then (flushed_asks_walks m output (inl refl)) flush_begun_walks

    ended_walks : {at : Option (ℕ × ℕ)} (why : CallStop) (m : Machine) → Walks law (Calling ids.line (output ∷ []) at Used m) OverWith (Give (write_ended why m))
    ended_walks Closed m = gives _ (Leaves _)
    ended_walks (Failed c e) m = gives _ (Leaves _)
    ended_walks (Traps kind) m = gives _ (Leaves _)

    last_checked_walks : {at : Option (ℕ × ℕ)} (checked : Result ℕ CallStop × Machine) → Walks law (Calling ids.line (output ∷ []) at Used checked.1) OverWith (Give (last_checked ids output checked))
    last_checked_walks (Ok zero, m) = waits_walks m (Finish output) refl
    last_checked_walks (Ok (suc n), m) = gives _ (Leaves _)
    last_checked_walks (Err why, m) = ended_walks why m

    pub last_check_walks : {at : Option (ℕ × ℕ)} (m : Machine) → Walks law (Calling ids.line (output ∷ []) at Used m) OverWith (last_check_asks m ids output)
    last_check_walks m = and_then (check_asks_walks m output (inl refl)) last_checked_walks

    flushed_walks : {at : Option (ℕ × ℕ)} (done : Result (Unit {0}) CallStop × Machine) → Walks law (Calling ids.line (output ∷ []) at Used done.1) OverWith (finish_flushed ids output done)
    flushed_walks (Ok done, m) = last_check_walks m
    flushed_walks (Err why, m) = ended_walks why m

    pub finish_walks : {at : Option (ℕ × ℕ)} (m : Machine) → Walks law (Calling ids.line (output ∷ []) at Used m) OverWith (finish_write_asks m ids output)
    finish_walks m = and_then (flushed_asks_walks m output (inl refl)) flushed_walks

    -- == a write, by rounds
    module _ (begins : BeginsWrites law) where
      written_walks : {at : Option (ℕ × ℕ)} (again : Again) (rest : List ℕ) (done : Result (Unit {0}) CallStop × Machine) → ((m : Machine) (left : List ℕ) → Walks law (Calling ids.line (output ∷ []) at Used m) OverWith (again m left))
          → Walks law (Calling ids.line (output ∷ []) at Used done.1) OverWith (round_written ids output again rest done)
      written_walks again rest (Err why, m) k = gives _ (Leaves _)
      written_walks again [] (Ok done, m) k = finish_walks m
      written_walks again (b ∷ rest) (Ok done, m) k = k m (b ∷ rest)

      checked_walks : {at : Option (ℕ × ℕ)} (again : Again) (rest : List ℕ) (checked : Result ℕ CallStop × Machine) → ((now : Option (ℕ × ℕ)) (m : Machine) (left : List ℕ) → Walks law (Calling ids.line (output ∷ []) now Used m) OverWith (again m left))
          → Walks law (Calling ids.line (output ∷ []) at Used checked.1) OverWith (round_checked ids output again rest checked)
      checked_walks again rest (Ok zero, m) k = waits_walks m (Write output rest) refl
      checked_walks again rest (Ok (suc n), m) k = and_then (write_asks_walks m output (inl refl) (take (suc n) rest) (AsAny refl begins)) (λ done. written_walks again (drop (suc n) rest) done (k _))
      checked_walks again rest (Err why, m) k = gives _ (Leaves _)

      rounds_walks : (rounds : ℕ) (at : Option (ℕ × ℕ)) (m : Machine) (rest : List ℕ) → Walks law (Calling ids.line (output ∷ []) at Used m) OverWith (write_rounds rounds ids output m rest)
      rounds_walks zero at m rest = waits_walks m (Write output rest) refl
      rounds_walks (suc k) at m rest = and_then (check_asks_walks m output (inl refl)) (λ checked. checked_walks (write_rounds k ids output) rest checked (rounds_walks k))

      pub write_rest_walks : {at : Option (ℕ × ℕ)} (m : Machine) (rest : List ℕ) → Walks law (Calling ids.line (output ∷ []) at Used m) OverWith (write_rest_asks m ids output rest)
      write_rest_walks m rest = rounds_walks 4096 _ m rest

      write_when_walks : {at : Option (ℕ × ℕ)} (m : Machine) (bytes : List ℕ) (writable too_long : Bool) → Walks law (Calling ids.line (output ∷ []) at Used m) OverWith (write_when m ids output bytes writable too_long)
      write_when_walks m bytes false too_long = gives _ (Leaves _)
      write_when_walks m bytes true true = gives _ (Leaves _)
      write_when_walks m bytes true false = write_rest_walks m bytes

      pub blocking_write_walks : {at : Option (ℕ × ℕ)} (m : Machine) (bytes : List ℕ) → Walks law (Calling ids.line (output ∷ []) at Used m) OverWith (blocking_write_asks m ids output bytes)
      blocking_write_walks m bytes = write_when_walks m bytes (is_writable (kind_at m.table output)) (nat_lt 4096 (length bytes))

      zeroes_when_walks : {at : Option (ℕ × ℕ)} (m : Machine) (len : ℕ) (writable too_long : Bool) → Walks law (Calling ids.line (output ∷ []) at Used m) OverWith (zeroes_when m ids output len writable too_long)
      zeroes_when_walks m len false too_long = gives _ (Leaves _)
      zeroes_when_walks m len true true = gives _ (Leaves _)
      zeroes_when_walks m len true false = write_rest_walks m (zeros len)

      pub blocking_zeroes_walks : {at : Option (ℕ × ℕ)} (m : Machine) (len : ℕ) → Walks law (Calling ids.line (output ∷ []) at Used m) OverWith (blocking_zeroes_asks m ids output len)
      blocking_zeroes_walks m len = zeroes_when_walks m len (is_writable (kind_at m.table output)) (nat_lt 4096 len)

  -- == a splice
  module _ (begins : BeginsWrites law) (to from len : ℕ) where
    spliced_walks : {at : Option (ℕ × ℕ)} (count : ℕ) (done : Result (Unit {0}) CallStop × Machine) → Walks law (Calling ids.line (to ∷ from ∷ []) at Used done.1) OverWith (Give (splice_written count done))
    spliced_walks count (Ok done, m) = gives _ (Leaves _)
    spliced_walks count (Err why, m) = gives _ (Leaves _)

    given_walks : {at : Option (ℕ × ℕ)} (read : Result (List ℕ) CallStop × Machine) → Walks law (Calling ids.line (to ∷ from ∷ []) at Used read.1) OverWith (splice_given ids to from len read)
    given_walks (Ok [], m) = waits_walks m (Splice to from len) refl
    given_walks (Ok (b ∷ bytes), m) = and_then (write_asks_walks m to (inl refl) (b ∷ bytes) (AsAny refl begins)) (spliced_walks (length (b ∷ bytes)))
    given_walks (Err why, m) = gives _ (Leaves _)

    splice_looked_walks : {at : Option (ℕ × ℕ)} (count : ℕ) (looked : Result Bool CallStop × Machine) → Walks law (Calling ids.line (to ∷ from ∷ []) at Used looked.1) OverWith (splice_looked ids to from len count looked)
    splice_looked_walks count (Ok true, m) = and_then (read_asks_walks m from (inr (inl refl)) count) given_walks
    splice_looked_walks count (Ok false, m) = waits_walks m (Splice to from len) refl
    splice_looked_walks count (Err why, m) = gives _ (Leaves _)

    count_walks : {at : Option (ℕ × ℕ)} (m : Machine) (count : ℕ) → Walks law (Calling ids.line (to ∷ from ∷ []) at Used m) OverWith (splice_count ids to from len m count)
    count_walks m zero = gives _ (Leaves _)
    count_walks m (suc count) = and_then (look_asks_walks m from (inr (inl refl))) (splice_looked_walks (suc count))

    permitted_walks : {at : Option (ℕ × ℕ)} (checked : Result ℕ CallStop × Machine) → Walks law (Calling ids.line (to ∷ from ∷ []) at Used checked.1) OverWith (splice_permitted ids to from len checked)
    permitted_walks (Ok zero, m) = waits_walks m (Splice to from len) refl
    permitted_walks (Ok (suc n), m) = count_walks m (min (suc n) len)
    permitted_walks (Err why, m) = gives _ (Leaves _)

    splice_when_walks : {at : Option (ℕ × ℕ)} (m : Machine) (writable readable : Bool) → Walks law (Calling ids.line (to ∷ from ∷ []) at Used m) OverWith (blocking_splice_when m ids to from len writable readable)
    splice_when_walks m true true = and_then (check_asks_walks m to (inl refl)) permitted_walks
    splice_when_walks m true false = gives _ (Leaves _)
    splice_when_walks m false readable = gives _ (Leaves _)

    pub blocking_splice_walks : {at : Option (ℕ × ℕ)} (m : Machine) → Walks law (Calling ids.line (to ∷ from ∷ []) at Used m) OverWith (blocking_splice_asks m ids to from len)
    blocking_splice_walks m = splice_when_walks m (is_writable (kind_at m.table to)) (is_readable (kind_at m.table from))

-- == a call that was pending is done again
module _ {contexts : List WasiSocketsCtx} {line : ℕ} {origin : Step} {law : Law contexts line origin} where
  unblocked_walks : {A : Type 0} (outcome : A → Outcome) (done : Blocked A) → Walks law (Over done.1) OverWith (Give (blocked_outcome outcome done))
  unblocked_walks outcome (Ok (Ready value), m) = give _
  unblocked_walks outcome (Ok Pending, m) = give _
  unblocked_walks outcome (Err (Failed c e), m) = give _
  unblocked_walks outcome (Err Closed, m) = give _
  unblocked_walks outcome (Err (Traps kind), m) = give _

  -- and a call on pollables
  waited_walks : (done : Result (Answer (Unit {0})) Stop × Machine) → Walks law (Over done.1) OverWith (Give (gone_on done))
  waited_walks (Ok answer, m) = give _
  waited_walks (Err why, m) = give _

  places_walks : (done : Result (Answer (List ℕ)) Stop × Machine) → Walks law (Over done.1) OverWith (Give (places_on done))
  places_walks (Ok answer, m) = give _
  places_walks (Err why, m) = give _

  -- it is on the handles that it was begun on; what writes after it asked needs a law that lets it
  pub unblock_walks : (ids : Ids) {at : Option (ℕ × ℕ)} (m : Machine) (call : BlockingCall) → BeginsWrites law ⊎ WritesNone call → Walks law (Recalled ids.line call at m) OverWith (unblock_asks m ids call)
  unblock_walks ids m (Read input len) lets = and_then (blocking_read_walks ids input len m) (unblocked_walks Bytes)
  unblock_walks ids m (Skip input len) lets = and_then (blocking_skip_walks ids input len m) (unblocked_walks Count)
  unblock_walks ids m (Write output rest) (inl begins) = and_then (write_rest_walks ids output begins m rest) (unblocked_walks nothing_given)
  unblock_walks ids m (Write output rest) (inr none) = absurd none
  unblock_walks ids m (Finish output) lets = and_then (last_check_walks ids output m) (unblocked_walks nothing_given)
  unblock_walks ids m (Flush output) lets = and_then (blocking_flush_walks ids output m) (unblocked_walks nothing_given)
  unblock_walks ids m (Splice to from len) (inl begins) = and_then (blocking_splice_walks ids begins to from len m) (unblocked_walks Count)
  unblock_walks ids m (Splice to from len) (inr none) = absurd none
  unblock_walks ids m (Block pollable) lets = and_then (block_walks law ids.line (pollable ∷ []) Later tt pollable refl m 1) waited_walks
  unblock_walks ids m (Poll pollables) lets = and_then (poll_walks law ids.line pollables Later tt pollables refl m 1) places_walks
