-- All that is known of a part of a call: what it was answered as a step of its own, its row in the table, and what it keeps.
use Rattle.wasi_causes.proofs.Words.{◌≢◌, ℕ, List, [], refl, inl, inr, CallStop, Entry, Full, Give, Left, Machine, NoSuchHandle, Result, TrapKind, WasiSocketsCtx, bytes_reply, check_asks, flushed_asks, own_of, permit_reply, read_asks, taken_reply, write_asks, NotPermitted}
use Rattle.wasi_steps.specs.declared.guest_call.GuestCall.TheVariants as guest
use Rattle.wasi_steps.specs.declared.guest_call.StreamCall.TheVariants as stream_call
use Rattle.wasi_steps.specs.declared.step.Step.TheVariants as step
use Rattle.wasi_world.specs.declared.outcome.TrapKind.TheVariants as trap
use Rattle.wasi_causes.proofs.streams.Composed.{HandsOn}
use Rattle.wasi_causes.proofs.streams.Halves.{check_rows, flush_rows, read_rows, write_rows}
use Rattle.wasi_causes.proofs.streams.Kept.{Kept, checks_keep, flushes_keep, reads_keep, writes_keep}
use Rattle.wasi_causes.proofs.streams.Permits.{Permitting, Short, Writable, checks_permit, reads_are_short, reads_leave_writers}
use Rattle.wasi_causes.proofs.tables.Meets.{Meets, both, widen}
use Rattle.wasi_causes.proofs.tables.Parts.{by_left}
use Rattle.wasi_causes.proofs.tables.Routes.{Replied}
use Rattle.wasi_causes.specs.Outcomes.{Traps}

module _ (contexts : List WasiSocketsCtx) (line c : ℕ) where
  pub record CheckFacts (m : Machine) (output : ℕ) (es : List Entry) (done : Result ℕ CallStop × Machine) : Type 0 where
    pub did : Left (check_asks m (own_of line) output) es (Give done)
    pub row : Replied contexts m line (step.Call c (guest.Stream (stream_call.CheckWrite output))) permit_reply es done
    pub kept : Kept m es done
    pub permits : Permitting m output es done

  pub check_facts : (m : Machine) (output : ℕ) → Meets (CheckFacts m output) [] (check_asks m (own_of line) output)
  check_facts m output = widen (λ es done k. record { did = k.0; row = k.1.0; kept = k.1.1.0; permits = k.1.1.1 }) (both (by_left (check_asks m (own_of line) output) (λ es a h. h)) (both (check_rows contexts m line c output) (both (checks_keep m (own_of line) output) (checks_permit m (own_of line) output))))

  pub record ReadFacts (m : Machine) (input len : ℕ) (es : List Entry) (done : Result (List ℕ) CallStop × Machine) : Type 0 where
    pub did : Left (read_asks m (own_of line) input len) es (Give done)
    pub row : Replied contexts m line (step.Call c (guest.Stream (stream_call.Read input len))) bytes_reply es done
    pub kept : Kept m es done
    pub short : Short m (own_of line) input len es done
    pub writers : Writable m es done

  pub record WriteFacts (m : Machine) (output : ℕ) (bytes : List ℕ) (es : List Entry) (done : Result (Unit {0}) CallStop × Machine) : Type 0 where
    pub did : Left (write_asks m (own_of line) output bytes) es (Give done)
    pub row : Replied contexts m line (step.Call c (guest.Stream (stream_call.Write output bytes))) taken_reply es done
    pub kept : Kept m es done

  pub record FlushFacts (m : Machine) (output : ℕ) (es : List Entry) (done : Result (Unit {0}) CallStop × Machine) : Type 0 where
    pub did : Left (flushed_asks m (own_of line) output) es (Give done)
    pub row : Replied contexts m line (step.Call c (guest.Stream (stream_call.Flush output))) taken_reply es done
    pub kept : Kept m es done

  pub read_facts : (m : Machine) (input len : ℕ) → Meets (ReadFacts m input len) [] (read_asks m (own_of line) input len)
  read_facts m input len = widen (λ es done k. record { did = k.0; row = k.1.0; kept = k.1.1.0; short = k.1.1.1.0; writers = k.1.1.1.1 }) (both (by_left (read_asks m (own_of line) input len) (λ es a h. h)) (both (read_rows contexts m line c input len) (both (reads_keep m (own_of line) input len) (both (reads_are_short m (own_of line) input len) (reads_leave_writers m (own_of line) input len)))))

  pub write_facts : (m : Machine) (output : ℕ) (bytes : List ℕ) → Meets (WriteFacts m output bytes) [] (write_asks m (own_of line) output bytes)
  write_facts m output bytes = widen (λ es done k. record { did = k.0; row = k.1.0; kept = k.1.1 }) (both (by_left (write_asks m (own_of line) output bytes) (λ es a h. h)) (both (write_rows contexts m line c output bytes) (writes_keep m (own_of line) output bytes)))

  pub flush_facts : (m : Machine) (output : ℕ) → Meets (FlushFacts m output) [] (flushed_asks m (own_of line) output)
  flush_facts m output = widen (λ es done k. record { did = k.0; row = k.1.0; kept = k.1.1 }) (both (by_left (flushed_asks m (own_of line) output) (λ es a h. h)) (both (flush_rows contexts m line c output) (flushes_keep m (own_of line) output)))

  -- == the traps of each part
  module _ (m : Machine) (h : ℕ) (es : List Entry) (after : Machine) where
    pub check_traps : (kind : TrapKind) → Traps contexts m line (step.Call c (guest.Stream (stream_call.CheckWrite h))) es kind after → HandsOn kind
    check_traps trap.NoSuchHandle k = inl refl
    check_traps trap.Full k = inr refl
    check_traps trap.NotPermitted k = elim k.0 [ inl w ↦ absurd w | inr s ↦ absurd s ]
    check_traps trap.HasChildren k = absurd k.0
    check_traps trap.StreamsAlive k = absurd k.0
    check_traps trap.Capacity k = absurd k.0
    check_traps trap.TooLong k = absurd k.0
    check_traps trap.EmptyList k = absurd k.0
    check_traps _ k = absurd k

    pub flush_traps : (kind : TrapKind) → Traps contexts m line (step.Call c (guest.Stream (stream_call.Flush h))) es kind after → HandsOn kind
    flush_traps trap.NoSuchHandle k = inl refl
    flush_traps trap.Full k = inr refl
    flush_traps trap.NotPermitted k = elim k.0 [ inl w ↦ absurd w | inr s ↦ absurd s ]
    flush_traps trap.HasChildren k = absurd k.0
    flush_traps trap.StreamsAlive k = absurd k.0
    flush_traps trap.Capacity k = absurd k.0
    flush_traps trap.TooLong k = absurd k.0
    flush_traps trap.EmptyList k = absurd k.0
    flush_traps _ k = absurd k

    pub read_traps : (len : ℕ) (kind : TrapKind) → Traps contexts m line (step.Call c (guest.Stream (stream_call.Read h len))) es kind after → HandsOn kind
    read_traps len trap.NoSuchHandle k = inl refl
    read_traps len trap.Full k = inr refl
    read_traps len trap.NotPermitted k = elim k.0 [ inl w ↦ absurd w | inr s ↦ absurd s ]
    read_traps len trap.HasChildren k = absurd k.0
    read_traps len trap.StreamsAlive k = absurd k.0
    read_traps len trap.Capacity k = absurd k.0
    read_traps len trap.TooLong k = absurd k.0
    read_traps len trap.EmptyList k = absurd k.0
    read_traps len _ k = absurd k

    -- a write that is within what is permitted
    pub write_traps : (bytes : List ℕ) (kind : TrapKind) → Traps contexts m line (step.Call c (guest.Stream (stream_call.Write h bytes))) es kind after → kind ≢ NotPermitted → kind ≢ trap.Capacity → HandsOn kind
    write_traps bytes trap.NoSuchHandle k permitted fits = inl refl
    write_traps bytes trap.Full k permitted fits = inr refl
    write_traps bytes trap.NotPermitted k permitted fits = absurd (permitted refl)
    write_traps bytes trap.HasChildren k permitted fits = absurd k.0
    write_traps bytes trap.StreamsAlive k permitted fits = absurd k.0
    write_traps bytes trap.Capacity k permitted fits = absurd (fits refl)
    write_traps bytes trap.TooLong k permitted fits = absurd k.0
    write_traps bytes trap.EmptyList k permitted fits = absurd k.0
    write_traps bytes _ k permitted fits = absurd k
