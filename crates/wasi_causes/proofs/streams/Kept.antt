-- What each call of a stream keeps: what is pending, the streams and the pipes that are there, and the handles, where it gives something.
use Rattle.wasi_causes.proofs.Words.{◌≡◌, ◌∙◌, ℕ, ⊤, Bool, true, false, if◌then◌else◌, nat_lt, List, [], ◌∷◌, ◌++◌, Option, Some, None, Result, Ok, Err, IsSome, is_some, inl, inr, refl, sym, subst, ap, CallStop, Entry, Machine, OpId, Permits, ReadState, Records, StreamStop, TcpRecord, WriteState, check_asks, check_write_asks, flush_asks, flushed_asks, input_at, length, marks_in, output_at, read_asks, read_state_asks, reader_of, streams_in, with_job, with_reader, with_writer, write_asks, write_state_asks, writer_of}
use Rattle.memory_streams.specs.Plain.{Contents, left_in}
use Rattle.wasi_streams.specs.StreamStop as stop
use Rattle.wasi_jobs.specs.declared.job.HostJob.{HostJob}
use Rattle.host_store.specs.Limits.{most_of}
use Rattle.host_store.specs.declared.kind.PlainInput.{PlainInput}
use Rattle.host_store.specs.declared.kind.PlainInput.TheVariants as input
use Rattle.host_store.specs.declared.kind.PlainOutput.{PlainOutput}
use Rattle.host_store.specs.declared.kind.PlainOutput.TheVariants as output
use Rattle.wasi_records.specs.declared.records.Record.{Record}
use Rattle.host_store.specs.CallStops.{Closed}
use Rattle.host_streams.specs.PlainStreams.{flush_plain, read_pipe_at, check_plain, write_pipe_at, contents_put}
use Rattle.wasi_records.specs.Records.{input_pipe_at, input_pipe_put, output_pipe_at, output_pipe_put, tcp2_at, tcp2_put}
use Rattle.std.specs.Prelude.{drop}
use Rattle.wasi_causes.proofs.Words.{ReadsNone, begins_job, with_socket}
use Rattle.wasi_world.specs.declared.outcome.TrapKind.TheVariants.{Capacity}
use Rattle.host_streams.specs.StreamCalls.{check_by, flush_by, plain_answer, plain_done, plain_input_at, plain_output_at, read_by, write_by}
use Rattle.wasi_walks.proofs.Places.{input_sort, other_put, output_sort, put_some}
use Rattle.wasi_walks.specs.Answered.{LengthZero, ToldToWait, IsReady, NotReady, GoesOn}
use Rattle.wasi_causes.proofs.streams.Halves.{CheckRow, FlushRow, ReadRow, WriteRow, checks, flushes, reads, writes}
use Rattle.wasi_causes.proofs.streams.Routes.{Told, job_noted, on_stream, on_write}
use Rattle.wasi_causes.proofs.tables.Meets.{Meets, Rows, ends, widen}
use Rattle.wasi_walks.proofs.Places.{put_stays, tcp_sort}

-- == what is there
-- Streams and pipes that were there are.
pub record PartsThere (old now : List Record) : Type 0 where
  pub streams : (k : ℕ) → IsSome (streams_in (tcp2_at old k)) → IsSome (streams_in (tcp2_at now k))
  pub inputs : (k : ℕ) → is_some (input_pipe_at old k) ≡ true → is_some (input_pipe_at now k) ≡ true
  pub outputs : (k : ℕ) → is_some (output_pipe_at old k) ≡ true → is_some (output_pipe_at now k) ≡ true

pub there_same : (xs : List Record) → PartsThere xs xs
there_same xs = record { streams = λ k h. h; inputs = λ k h. h; outputs = λ k h. h }

streams_by : (o : Option TcpRecord) → IsSome (streams_in o) → (r : TcpRecord) × (o ≡ Some r)
streams_by None h = absurd (cc)
streams_by (Some r) h = (r, refl)

-- a record that has streams is replaced by one that has
pub there_put : (xs : List Record) (i : ℕ) (r now : TcpRecord) → tcp2_at xs i ≡ Some r → IsSome now.streams → PartsThere xs (tcp2_put xs i now)
there_put xs i r now at has = record {
  streams = λ k h.
      let found = streams_by (tcp2_at xs k) h in
      elim (put_stays tcp_sort xs i now k found.0 found.1) [
        | inl e ↦ subst (λ (o : Option TcpRecord). IsSome (streams_in o)) (found.1 ∙ sym e) h
        | inr e ↦ subst (λ (o : Option TcpRecord). IsSome (streams_in o)) (sym e.1) has
      ];
  inputs = λ k h. ap (λ o. is_some o) (other_put tcp_sort input_sort (λ t. refl) xs i r now k at) ∙ h;
  outputs = λ k h. ap (λ o. is_some o) (other_put tcp_sort output_sort (λ t. refl) xs i r now k at) ∙ h;
}

-- a pipe is replaced by a pipe
pub there_input : (xs : List Record) (i : ℕ) (was now : List ℕ) → input_pipe_at xs i ≡ Some was → PartsThere xs (input_pipe_put xs i now)
there_input xs i was now at = record {
  streams =
      λ k h. subst (λ (o : Option TcpRecord). IsSome (streams_in o))
      (sym (other_put input_sort tcp_sort (λ t. refl) xs i was now k at)) h;
  inputs = λ k h. put_some input_sort xs i now k h;
  outputs = λ k h. ap (λ o. is_some o) (other_put input_sort output_sort (λ t. refl) xs i was now k at) ∙ h;
}

pub there_output : (xs : List Record) (i : ℕ) (was now : Contents) → output_pipe_at xs i ≡ Some was → PartsThere xs (output_pipe_put xs i now)
there_output xs i was now at = record {
  streams =
      λ k h. subst (λ (o : Option TcpRecord). IsSome (streams_in o))
      (sym (other_put output_sort tcp_sort (λ t. refl) xs i was now k at)) h;
  inputs = λ k h. ap (λ o. is_some o) (other_put output_sort input_sort (λ t. refl) xs i was now k at) ∙ h;
  outputs = λ k h. put_some output_sort xs i now k h;
}

-- == what a call keeps
-- What is pending is as it was, and what is there stays.
pub record Keeps (m after : Machine) : Type 0 where
  pub standing : after.store.standing ≡ m.store.standing
  pub there : PartsThere m.store.records after.store.records

-- and where it gives something, the handles are as they were, and none was marked; they are as they were at an end, too
abbrev pub Kept : {T : Type 0} → Machine → Rows (Result T CallStop × Machine)
Kept m es (Ok value, after) = Keeps m after × (after.table ≡ m.table) × (marks_in es ≡ 0)
Kept m es (Err Closed, after) = Keeps m after × (after.table ≡ m.table)
Kept m es (Err why, after) = Keeps m after

-- of a stream's own call
abbrev MarksNone : {T : Type 0} → List Entry → Result T StreamStop → Type 0
MarksNone es (Ok value) = marks_in es ≡ 0
MarksNone es (Err why) = ⊤

-- what is kept of the records, by which also the jobs change
abbrev KeepsStore : Records → Records → Type 0
KeepsStore old now = (now.standing ≡ old.standing) × PartsThere old.records now.records

job_keeps : (store : Records) (job : HostJob) (begins : Bool) → ((with_job store job begins).standing ≡ store.standing) × ((with_job store job begins).records ≡ store.records)
job_keeps store job true = (refl, refl)
job_keeps store job false = (refl, refl)

module _ {T : Type 0} (m : Machine) (own : OpId) (handle : ℕ) where
  told_kept : (es : List Entry) (res : Result T StreamStop) (store : Records) → KeepsStore m.store store → MarksNone es res → Told m own handle (Kept m) es res store
  told_kept es (Ok value) store k none = (record { standing = k.0; there = k.1 }, refl, none)
  told_kept es (Err stop.Closed) store k none = (record { standing = k.0; there = k.1 }, refl)
  told_kept es (Err (stop.Trap kind)) store k none = record { standing = k.0; there = k.1 }
  told_kept es (Err (stop.Failed c)) store k none = (λ full. record { standing = k.0; there = k.1 }, λ side. record { standing = k.0; there = k.1 })

nothing_kept : (m : Machine) → Keeps m m
nothing_kept m = record { standing = refl; there = there_same m.store.records }

-- == each call
read_marks : (own : OpId) (len : ℕ) (reader : ReadState) (es : List Entry) (done : Result (List ℕ) StreamStop × ReadState) → ReadRow own len reader es done → MarksNone es done.0
read_marks own len reader es (Ok [], now) h = by_none h.0
  where
    by_none : {gs : List Entry} → ReadsNone own len reader gs → marks_in gs ≡ 0
    by_none (LengthZero half e zero) = refl
    by_none (ToldToWait half e) = refl
read_marks own len reader es (Ok (b ∷ bytes), now) h = ap marks_in h.0.asked
read_marks own len reader es (Err why, now) h = tt

check_marks : (own : OpId) (most : ℕ) (writer : WriteState) (es : List Entry) (done : Result ℕ StreamStop × WriteState) → CheckRow own most writer es done → MarksNone es done.0
check_marks own most writer es (Ok n, now) h = by_permit h
  where
    by_permit : {k : ℕ} {gs : List Entry} → Permits own writer most k gs → marks_in gs ≡ 0
    by_permit (GoesOn on) = refl
    by_permit (NotReady half permit e) = refl
    by_permit (IsReady half permit e) = refl
check_marks own most writer es (Err why, now) h = tt

write_marks : (own : OpId) (n : ℕ) (writer : WriteState) (es : List Entry) (done : Result (Unit {0}) StreamStop × WriteState) → WriteRow own n writer es done → MarksNone es done.0
write_marks own n writer es (Ok given, now) h = h.1
write_marks own n writer es (Err why, now) h = tt

flush_marks : (writer : WriteState) (es : List Entry) (done : Result (Unit {0}) StreamStop × WriteState) → FlushRow writer es done → MarksNone es done.0
flush_marks writer es (Ok given, now) h = ap marks_in h.0
flush_marks writer es (Err why, now) h = tt

module _ (m : Machine) (own : OpId) (handle : ℕ) where
  -- a read
  read_left : (place len : ℕ) (o : Option (List ℕ)) → input_pipe_at m.store.records place ≡ o → Kept m [] (plain_done m (read_pipe_at m.store place len o))
  read_left place len None at = nothing_kept m
  read_left place len (Some []) at = (record { standing = refl; there = there_input m.store.records place [] [] at }, refl)
  read_left place len (Some (b ∷ bytes)) at = (record { standing = refl; there = there_input m.store.records place (b ∷ bytes) (drop len (b ∷ bytes)) at }, refl, refl)

  read_kept : (len : ℕ) (o : Option PlainInput) → plain_input_at m handle ≡ o → Meets (Kept m) [] (read_by m own handle len o)
  read_kept len (Some (input.Pipe place)) is = ends (read_left place len (input_pipe_at m.store.records place) refl)
  read_kept len (Some input.Closed) is = ends (nothing_kept m, refl)
  read_kept len None is =
      on_stream m own handle (Kept m) (λ s. s.reader) with_reader (input_at m handle) (λ none. nothing_kept m) (λ r reader. read_state_asks own reader len) (λ r o. reader_of r (λ reader. read_state_asks own reader len) o) (λ r. refl) (λ r s. refl)
      (λ place r s n. widen (λ es done k. told_kept m own handle es done.0 _ (refl, there_put m.store.records place r (with_reader r s done.1) n.at refl) (read_marks own len s.reader es done k)) (reads own len s.reader)) (input_at m handle) refl

  pub reads_keep : (len : ℕ) → Meets (Kept m) [] (read_asks m own handle len)
  reads_keep len = read_kept len (plain_input_at m handle) refl

  -- a look at what may be written
  check_kept : (o : Option PlainOutput) → plain_output_at m handle ≡ o → Meets (Kept m) [] (check_by m own handle o)
  check_kept (Some plain) is = ends (of_answer (plain_answer (check_plain m.store plain)))
    where
      of_answer : (answer : Result ℕ CallStop) → Kept m [] (answer, m)
      of_answer (Ok n) = (nothing_kept m, refl, refl)
      of_answer (Err Closed) = (nothing_kept m, refl)
      of_answer (Err _) = nothing_kept m
  check_kept None is =
      on_stream m own handle (Kept m) (λ s. s.writer) with_writer (output_at m handle) (λ none. nothing_kept m) (λ r. check_write_asks (most_of m.store r) own) (λ r o. writer_of r (check_write_asks (most_of m.store r) own) o) (λ r. refl) (λ r s. refl)
      (λ place r s n. widen (λ es done k. told_kept m own handle es done.0 _ (refl, there_put m.store.records place r (with_writer r s done.1) n.at refl) (check_marks own (most_of m.store r) s.writer es done k)) (checks own (most_of m.store r) s.writer)) (output_at m handle) refl

  pub checks_keep : Meets (Kept m) [] (check_asks m own handle)
  checks_keep = check_kept (plain_output_at m handle) refl

  -- a flush
  flush_kept : (o : Option PlainOutput) → plain_output_at m handle ≡ o → Meets (Kept m) [] (flush_by m own handle o)
  flush_kept (Some plain) is = ends (of_answer (plain_answer (flush_plain plain)))
    where
      of_answer : (answer : Result (Unit {0}) CallStop) → Kept m [] (answer, m)
      of_answer (Ok done) = (nothing_kept m, refl, refl)
      of_answer (Err Closed) = (nothing_kept m, refl)
      of_answer (Err _) = nothing_kept m
  flush_kept None is =
      on_stream m own handle (Kept m) (λ s. s.writer) with_writer (output_at m handle) (λ none. nothing_kept m) (λ r. flush_asks) (λ r o. writer_of r flush_asks o) (λ r. refl) (λ r s. refl)
      (λ place r s n. widen (λ es done k. told_kept m own handle es done.0 _ (refl, there_put m.store.records place r (with_writer r s done.1) n.at refl) (flush_marks s.writer es done k)) (flushes s.writer)) (output_at m handle) refl

  pub flushes_keep : Meets (Kept m) [] (flushed_asks m own handle)
  flushes_keep = flush_kept (plain_output_at m handle) refl

  -- a write
  module _ (bytes : List ℕ) where
    write_fits : (place : ℕ) (pipe : Contents) → output_pipe_at m.store.records place ≡ Some pipe → (b : Bool) → Kept {T = Unit {0}} m [] (plain_done m (contents_put m.store place (if b then (Err (stop.Trap Capacity), pipe) else (Ok tt, record pipe { held = pipe.held ++ bytes }))))
    write_fits place pipe at true = record { standing = refl; there = there_output m.store.records place pipe pipe at }
    write_fits place pipe at false = (record { standing = refl; there = there_output m.store.records place pipe (record pipe { held = pipe.held ++ bytes }) at }, refl, refl)

    write_left : (place : ℕ) (o : Option Contents) → output_pipe_at m.store.records place ≡ o → Kept m [] (plain_done m (write_pipe_at m.store place bytes o))
    write_left place None at = nothing_kept m
    write_left place (Some pipe) at = write_fits place pipe at (nat_lt (left_in pipe) (length bytes))

    -- a job that begins changes no record
    noted_keeps : (place : ℕ) (r now : TcpRecord) → tcp2_at m.store.records place ≡ Some r → IsSome now.streams → KeepsStore m.store (job_noted place (Some r) (with_socket m.store place now))
    noted_keeps place r now at has =
        let k = job_keeps (with_socket m.store place now) (HostJob.Write place) (begins_job (Some r) (tcp2_at (with_socket m.store place now).records place)) in
        (k.0, subst (PartsThere m.store.records) (sym k.1) (there_put m.store.records place r now at has))

    write_kept : (o : Option PlainOutput) → plain_output_at m handle ≡ o → Meets (Kept m) [] (write_by m own handle bytes o)
    write_kept (Some (output.Pipe place)) is = ends (write_left place (output_pipe_at m.store.records place) refl)
    write_kept (Some output.Sink) is = ends (nothing_kept m, refl, refl)
    write_kept (Some output.Closed) is = ends (nothing_kept m, refl)
    write_kept None is =
        on_write m own handle (Kept m) (λ s. s.writer) with_writer (output_at m handle) (λ none. nothing_kept m) (λ r w. write_state_asks own w bytes) (λ r o. writer_of r (λ w. write_state_asks own w bytes) o) (λ r. refl) (λ r s. refl)
        (λ place r s n. widen (λ es done k. told_kept m own handle es done.0 _ (noted_keeps place r (with_writer r s done.1) n.at refl) (write_marks own (length bytes) s.writer es done k)) (writes own bytes s.writer)) (output_at m handle) refl

    pub writes_keep : Meets (Kept m) [] (write_asks m own handle bytes)
    writes_keep = write_kept (plain_output_at m handle) refl
