-- What the halves of a connection give: reads, and looks at what may be written, writes and flushes; and why an output waits
-- that is dropped.
use Rattle.wasi_causes.proofs.Words.{◌↔◌, ◌≢◌, Reply}
use Rattle.wasi_causes.specs.Outcomes.{Always}
use Rattle.host_store.specs.declared.kind.PlainInput.{PlainInput}
use Rattle.host_store.specs.declared.kind.PlainOutput.{PlainOutput}
use Rattle.host_streams.specs.StreamCalls.{plain_input_at, plain_output_at, read_by, check_by, write_by, flush_by}
use Rattle.wasi_causes.proofs.streams.Plain.{plain_reads, plain_checks, plain_writes, plain_flushes}
use Rattle.wasi_causes.specs.Plain.{PastCapacity, PlainCheck, PlainFlush, PlainRead, PlainWrite}
use Rattle.wasi_world.specs.declared.outcome.TrapKind.TheVariants.{Capacity}
use Rattle.wasi_steps.specs.declared.reply.Reply.TheVariants as reply
use Rattle.wasi_records.specs.Records.{tcp2_at}
use Rattle.wasi_jobs.specs.declared.job.HostJob.TheVariants as HostJob
use Rattle.wasi_records.specs.declared.records.Record.{Record}
use Rattle.host_store.specs.declared.store.StandingCall.TheVariants.{DropOutput}
use Rattle.wasi_causes.proofs.Words.{Again, AlreadyClosed, Answer, Asks, Bool, CheckFails, CodeTold, Done, End, Ends, Entry, Err, ErrorCode}
use Rattle.wasi_causes.proofs.Words.{ErrorKept, Front, Give, IsDone, IsRead, IsSomeAnd, IsUnpermitted, Item, LengthZero, List, Machine, None}
use Rattle.wasi_causes.proofs.Words.{NotPermitted, NotReady, Ok, OpId, Option, OutputWaits, Pending, Permits, ReadFails, ReadState, ReadsEnd}
use Rattle.wasi_causes.proofs.Words.{ReadsNone, ReadsTold, Ready, Receive, Records, Refused, Result, Send, Some, StreamStop, Streams, TcpRecord}
use Rattle.wasi_causes.proofs.Words.{TcpReceiveStream, TcpSendStream, Told, ToldNone, ToldToWait, Waits, WasiSocketsCtx, Write, WriteFails}
use Rattle.wasi_causes.proofs.Words.{WriteState, WriterWaits, WritesOn, [], after, after_read, ap, append_assoc, arith, ask_read, begins_job, begun}
use Rattle.wasi_causes.proofs.Words.{bind, bytes_reply, check_asks, check_write_asks, closing_writer, collected, drop_output_at, drop_waits, entry}
use Rattle.wasi_causes.proofs.Words.{eqb-true, false, flush_asks, flushed_asks, has_job, inl, if◌then◌else◌, input_at, length, less_one, look_asks}
use Rattle.wasi_causes.proofs.Words.{look_in, ltb-false, ltb-true, marks_in, marks_in-push, min, nat_lt, new_job, not, output_at, output_streams}
use Rattle.wasi_causes.proofs.Words.{own_of, permit_reply, permitted, poll_asks, polled_answer, polls, putting, read_asks, read_entry}
use Rattle.wasi_causes.proofs.Words.{read_state_asks, reader_of, refl, round, standing_as, subst, suc, sym, taken_front}
use Rattle.wasi_causes.proofs.Words.{taken_reply, told_bytes, told_ready, told_taken, true, wait_answer, wait_at, wait_put, wait_writer, with_error}
use Rattle.wasi_causes.proofs.Words.{with_job, with_reader, with_socket, with_writer, write_asks, write_front, write_on_asks, write_state_asks}
use Rattle.wasi_causes.proofs.Words.{writer_of, zero, ℕ, ⊤, ◌&&◌, ◌++◌, ◌==◌, ◌∙◌, ◌∷◌, ◌≡◌}
use Rattle.wasi_world.specs.declared.ids.Ids.{Ids}
use Rattle.wasi_causes.proofs.operations.Marks.{poll_marks_none}
use Rattle.wasi_causes.proofs.streams.Routes.{failed_so, HasStreams, of_streams, streams_same, Told as TellsStream, on_stream, the_streams, job_noted, none_begun, on_write}
use Rattle.wasi_causes.proofs.tables.Meets.{Rows, Meets, ends, asks, onto, widen, chain, branch, both}
use Rattle.wasi_causes.proofs.tables.Routes.{Replied, Says, full_so, code_word, apart, none_has}
use Rattle.wasi_causes.specs.GivenUp.{LooksOnce, NoLook, OneLook}
use Rattle.wasi_walks.specs.Answered.{ToldToWait, GoesOn, IsReady}
use Rattle.wasi_steps.specs.declared.guest_call.GuestCall.TheVariants as guest
use Rattle.wasi_steps.specs.declared.guest_call.StreamCall.TheVariants as stream_call
use Rattle.wasi_steps.specs.declared.step.Step.TheVariants as step
use Rattle.wasi_streams.specs.StreamStop.{Failed, Closed, Trap}
use Rattle.wasi_streams.specs.StreamStop as stop
use Rattle.wasi_tcp.specs.Job.{writer, job_after}
use Rattle.host_store.specs.Limits.{most_of}
use Rattle.wasi_tcp.specs.Writer.{drop_permit, error_of_code, stop_of, write_half_asks}
use Rattle.wasi_tcp.specs.declared.reader.ReadState.TheVariants as reading
use Rattle.wasi_tcp.specs.declared.writer.WriteError.{WriteError}
use Rattle.wasi_tcp.specs.declared.writer.WriteError.TheVariants as error
use Rattle.wasi_tcp.specs.declared.writer.WriteState.TheVariants as writing
use Rattle.wasi_world.specs.Fits.{IsReady as FitsReady}
use Rattle.wasi_world.specs.declared.call.Call.TheVariants as call
use Rattle.wasi_world.specs.declared.call.Told.TheVariants as told
use Rattle.wasi_walks.proofs.Places.{put_finds, tcp_sort}

-- == a look at a writer
module _ (own : OpId) (writer : WriteState) where
  abbrev pub LookRow : Rows (Result (Answer (Unit {0})) StreamStop × WriteState)
  LookRow es (Ok Pending, now) = WriterWaits own writer es
  LookRow es (_, now) = LooksOnce own es

  told_look : (half : TcpSendStream) (permit : ℕ) (now : WriteState) (t : Told) → collected writer ≡ writing.Ready half permit → FitsReady t → LookRow (entry own (call.WriteReady half.side) t ∷ []) (Ok (told_ready t), now)
  told_look half permit now told.Done e fits = OneLook half.side told.Done
  told_look half permit now told.Pending e fits = ToldToWait half permit e
  told_look half permit now _ e fits = absurd fits

  looks_as : (now : WriteState) → collected writer ≡ now → Meets LookRow [] (look_in own now)
  unfolding bind
  looks_as (writing.Ready half permit) e = asks (λ t fits. ends (told_look half permit (writing.Ready half permit) t e fits))
  looks_as (writing.Closed kept) e = ends NoLook
  looks_as _ e = ends (WritesOn (rw e tt))

  pub looks : Meets LookRow [] (look_asks own writer)
  looks = looks_as (collected writer) refl

-- the same where its permit went before
dropped_looks : (own : OpId) (writer : WriteState) → Meets (LookRow own writer) [] (look_asks own (drop_permit writer))
unfolding bind
dropped_looks own (writing.Ready half permit) = asks (λ t fits. ends (told_look own (writing.Ready half permit) half permit (writing.Ready half 0) t refl fits))
dropped_looks own writer = looks own writer

-- == an output that goes
module _ (store : Records) (ids : Ids) (place : ℕ) where
  -- the output of this record waits
  abbrev WaitsThere : List Entry → Type 0
  WaitsThere es = (m : Machine) → m.store.records ≡ store.records → OutputWaits m (own_of ids.line) (Some place) es

  -- one that waits is pending under its line's number, and else what stood does
  abbrev pub OutputRow : Rows (Answer (Unit {0}) × Records)
  OutputRow es (Pending, now) = WaitsThere es × (now.standing ≡ Some (standing_as ids (DropOutput place)))
  OutputRow es (Ready done, now) = LooksOnce (own_of ids.line) es × (now.standing ≡ store.standing)

  abbrev WaitRow : Rows (Answer (Unit {0}) × Records)
  WaitRow es (Pending, now) = WaitsThere es × (now.standing ≡ store.standing)
  WaitRow es (Ready done, now) = LooksOnce (own_of ids.line) es × (now.standing ≡ store.standing)

  module _ (r : TcpRecord) (at : tcp2_at store.records place ≡ Some r) where
    of_look : (s : Streams) → r.streams ≡ Some s → (es : List Entry) (looked : Result (Answer (Unit {0})) StreamStop × WriteState) → LookRow (own_of ids.line) s.writer es looked → WaitRow es (wait_put store place (wait_answer looked.0, with_writer r s looked.1))
    of_look s has es (Ok Pending, now) k = (λ m same. record { place = place; found = r; streams = s; names = refl; at = ap (λ (rs : List Record). tcp2_at rs place) same ∙ at; has = has; holds = k }, refl)
    of_look s has es (Ok (Ready done), now) k = (k, refl)
    of_look s has es (Err why, now) k = (k, refl)

    by_streams : (o : Option Streams) → r.streams ≡ o → Meets (λ es done. WaitRow es (wait_put store place done)) [] (wait_writer (own_of ids.line) r o)
    by_streams None has = ends (NoLook, refl)
    by_streams (Some s) has = onto _ (widen (of_look s has) (dropped_looks (own_of ids.line) s.writer))

  waits_at : (o : Option TcpRecord) → tcp2_at store.records place ≡ o → Meets WaitRow [] (wait_at store (own_of ids.line) place o)
  waits_at None at = ends (NoLook, refl)
  waits_at (Some r) at = onto _ (by_streams r at r.streams refl)

  waits : (es : List Entry) (done : Answer (Unit {0}) × Records) → WaitRow es done → OutputRow es (drop_waits ids place done)
  waits es (Ready done, now) k = k
  waits es (Pending, now) k = (k.0, refl)

  pub outputs : (o : Option TcpRecord) → tcp2_at store.records place ≡ o → Meets OutputRow [] (drop_output_at store ids place o)
  outputs o at = onto _ (widen waits (waits_at o at))

-- == what a reader gives
module _ (own : OpId) (len : ℕ) where
  abbrev pub ReadRow : ReadState → Rows (Result (List ℕ) StreamStop × ReadState)
  ReadRow reader es (Ok [], now) = ReadsNone own len reader es × (now ≡ reader)
  ReadRow reader es (Ok (b ∷ bytes), now) = ReadsTold own len reader (b ∷ bytes) es × (now ≡ reader)
  ReadRow reader es (Err Closed, now) = ReadsEnd own len reader es × (now ≡ reading.Closed)
  ReadRow reader es (Err (Failed c), now) = ReadFails own len reader c es × (now ≡ reading.Closed)
  ReadRow reader es (Err (Trap kind), now) = ⊥

  module _ (half : TcpReceiveStream) where
    abbrev opened : ReadState
    opened = reading.Open half

    shut : (e : Entry) (why : StreamStop) (t : Told) → IsDone t → ReadRow opened (e ∷ entry own (call.Shutdown half.side Receive) told.Done ∷ []) (Err why, reading.Closed) → ReadRow opened (e ∷ entry own (call.Shutdown half.side Receive) t ∷ []) (Err why, reading.Closed)
    shut e why told.Done fits row = row
    shut e why _ fits row = absurd fits

    told_read : (t : Told) → IsRead (min len 65536) t → Meets (ReadRow opened) (read_entry own len half t ∷ []) (after_read own opened (polled_answer (told_bytes t)))
    unfolding bind
    told_read told.Pending fits = ends (ToldToWait half refl, refl)
    told_read (told.Bytes []) fits = asks (λ t fits. ends (shut _ Closed t fits (ToldNone half refl, refl)))
    told_read (told.Bytes (b ∷ bytes)) fits = ends (record { half = half; is_open = refl; asked = refl }, refl)
    told_read (told.Code c) fits = asks (λ t fits. ends (shut _ (Failed c) t fits (record { half = half; is_open = refl; asked = refl }, refl)))
    told_read _ fits = absurd fits

    by_zero : (zero : Bool) → (len == 0) ≡ zero
        → Meets (ReadRow opened) [] (if zero then Give (Ok [], opened) else bind (if zero then Give (Ok (Ready [])) else bind (ask_read own half.side (min len 65536)) (λ told. Give (polled_answer told))) (after_read own opened))
    unfolding bind
    by_zero true e = ends (LengthZero half refl (eqb-true len 0 e), refl)
    by_zero false e = asks (λ t fits. told_read t fits)

  pub reads : (reader : ReadState) → Meets (ReadRow reader) [] (read_state_asks own reader len)
  reads (reading.Open half) = by_zero half (len == 0) refl
  reads reading.Closed = ends (AlreadyClosed refl, refl)

-- == a read
module _ (contexts : List WasiSocketsCtx) (m : Machine) (line c input len : ℕ) where
  -- of an input of a connection nothing is said of those of none
  module _ (connected : plain_input_at m input ≡ None) where
    not_plain : (es : List Entry) (said : Reply) → PlainRead m input es said
    not_plain es said = rw connected tt

  module _ (connected : plain_input_at m input ≡ None) (place : ℕ) (r : TcpRecord) (s : Streams) (n : HasStreams m (input_at m input) place r s) where
    abbrev left_reading : ReadState → Machine
    left_reading reader = putting m place (with_reader r s reader)

    same_reading : (now : ReadState) → now ≡ s.reader → left_reading now ≡ m
    same_reading now e = ap left_reading e ∙ streams_same n

    told_as : (es : List Entry) (done : Result (List ℕ) StreamStop × ReadState) → ReadRow (own_of line) len s.reader es done → TellsStream m (own_of line) input (Replied contexts m line (step.Call c (guest.Stream (stream_call.Read input len))) bytes_reply) es done.0 (with_socket m.store place (with_reader r s done.1))
    told_as es (Ok [], now) h = (not_plain connected es _, ((tt, tt), inl (of_streams n h.0, same_reading now h.1)))
    told_as es (Ok (b ∷ bytes), now) h = (not_plain connected es _, ((tt, tt), inl (of_streams n h.0, same_reading now h.1)))
    told_as es (Err Closed, now) h = (not_plain connected es _, (tt, inl (of_streams n (h.0, ap left_reading h.1))))
    told_as es (Err (Failed code), now) h = (
      λ full. (not_plain connected es _, (tt, full_so m m es full refl (ap marks_in h.0.asked), tt)),
      λ side. (not_plain connected _ _, ((tt, code_word code), of_streams n (failed_so code es side h.0, ap (λ (reader : ReadState). with_error (left_reading reader)) h.1))),
    )
    told_as es (Err (Trap kind), now) h = absurd h

  by_input : (o : Option PlainInput) → plain_input_at m input ≡ o → Meets (Replied contexts m line (step.Call c (guest.Stream (stream_call.Read input len))) bytes_reply) [] (read_by m (own_of line) input len o)
  by_input (Some plain) is = ends (plain_reads contexts m line c input len plain is)
  by_input None connected =
      on_stream m (own_of line) input (Replied contexts m line (step.Call c (guest.Stream (stream_call.Read input len))) bytes_reply) (λ s. s.reader) with_reader (input_at m input) (λ none. (not_plain connected [] _, ((none, rw connected tt), (refl, refl)))) (λ r reader. read_state_asks (own_of line) reader len) (λ r o. reader_of r (λ reader. read_state_asks (own_of line) reader len) o) (λ r. refl) (λ r s. refl)
      (λ place r s n. widen (told_as connected place r s n) (reads (own_of line) len s.reader)) (input_at m input) refl

  pub read_rows : Meets (Replied contexts m line (step.Call c (guest.Stream (stream_call.Read input len))) bytes_reply) [] (read_asks m (own_of line) input len)
  read_rows = by_input (plain_input_at m input) refl

  pub read : Meets (Says contexts m line (step.Call c (guest.Stream (stream_call.Read input len)))) [] (bind (read_asks m (own_of line) input len) (λ done. Give (bytes_reply done.0, done.1)))
  read = onto _ read_rows

module _ (own : OpId) (most : ℕ) where
  -- == a look at what may be written
  abbrev pub CheckRow : WriteState → Rows (Result ℕ StreamStop × WriteState)
  CheckRow writer es (Ok n, now) = Permits own writer most n es
  CheckRow writer es (Err (Failed c), now) = CheckFails (error.LastOperationFailed c) writer es × (now ≡ writing.Closed (error.LastOperationFailed c))
  CheckRow writer es (Err Closed, now) = CheckFails error.Closed writer es × (now ≡ writing.Closed error.Closed)
  CheckRow writer es (Err (Trap kind), now) = ⊥

  told_check : (writer : WriteState) (half : TcpSendStream) (permit : ℕ) (t : Told) → collected writer ≡ writing.Ready half permit → FitsReady t → CheckRow writer (entry own (call.WriteReady half.side) t ∷ []) (permitted most (Ok (told_ready t), writing.Ready half permit))
  told_check writer half permit told.Done e fits = IsReady half permit e
  told_check writer half permit told.Pending e fits = NotReady half permit e
  told_check writer half permit _ e fits = absurd fits

  told_kept : (writer : WriteState) (kept : WriteError) → collected writer ≡ writing.Closed kept → CheckRow writer [] (Err (stop_of kept), writing.Closed kept)
  told_kept writer error.Closed e = ((e, refl), refl)
  told_kept writer (error.LastOperationFailed c) e = ((e, refl), refl)

  checks_as : (writer now : WriteState) → collected writer ≡ now → Meets (CheckRow writer) [] (bind (look_in own now) (λ looked. Give (permitted most looked)))
  unfolding bind
  checks_as writer (writing.Ready half permit) e = asks (λ t fits. ends (told_check writer half permit t e fits))
  checks_as writer (writing.Closed kept) e = ends (told_kept writer kept e)
  checks_as writer _ e = ends (GoesOn (rw e tt))

  pub checks : (writer : WriteState) → Meets (CheckRow writer) [] (check_write_asks most own writer)
  checks writer = checks_as writer (collected writer) refl

-- == a poll of a write, which ends with a code where that was the answer to its last write, and the half was released then
module _ (own side : OpId) where
  pub record WasTold (es : List Entry) (c : ErrorCode) : Type 0 where
    pub front : List Entry
    pub offered : ℕ
    pub cut : es ≡ front ++ entry own (call.Write side offered) (told.Code c) ∷ []

  pub record WasGivenUp (es : List Entry) (c : ErrorCode) : Type 0 where
    pub front : List Entry
    pub offered : ℕ
    pub cut : es ≡ front ++ entry own (call.Write side offered) (told.Code c) ∷ entry own (call.Shutdown side Send) told.Done ∷ []

  abbrev FrontRow : Rows Front
  FrontRow es (Ends c given) = WasTold es c
  FrontRow es (Again item) = ⊥
  FrontRow es _ = ⊤

  abbrev PollRow : Rows (End × List Item)
  PollRow es (Refused c given, items) = WasGivenUp es c
  PollRow es _ = ⊤

  taken : (es : List Entry) (offered : ℕ) (bytes : List ℕ) (item : Item) (t : Told) → ((skip : ℕ) → Meets FrontRow (es ++ entry own (call.Write side offered) t ∷ []) (write_front (writer own side) bytes skip))
      → Meets FrontRow (es ++ entry own (call.Write side offered) t ∷ []) (taken_front (λ skip. write_front (writer own side) bytes skip) item (told_taken t))
  taken es offered bytes item (told.Took took) h = h (less_one (length took))
  taken es offered bytes item (told.Code c) h = ends (record { front = es; offered = offered; cut = refl })
  taken es offered bytes item _ h = ends tt

  fronts : (bytes : List ℕ) (skip : ℕ) (es : List Entry) → Meets FrontRow es (write_front (writer own side) bytes skip)
  unfolding bind
  fronts [] skip es = ends tt
  fronts (b ∷ bytes) (suc skip) es = fronts bytes skip es
  fronts (b ∷ bytes) zero es =
      record { along = (tt, λ t fits front. (taken es (length (b ∷ bytes)) bytes (Write (b ∷ bytes)) t (λ skip. fronts bytes skip (es ++ entry own (call.Write side (length (b ∷ bytes))) t ∷ []))).along) }

  given_up : (es : List Entry) (c : ErrorCode) (t : Told) → IsDone t → WasTold es c → WasGivenUp (es ++ entry own (call.Shutdown side Send) t ∷ []) c
  given_up es c told.Done fits w = record {
    front = w.front;
    offered = w.offered;
    cut = ap (λ (fs : List Entry). fs ++ entry own (call.Shutdown side Send) told.Done ∷ []) w.cut ∙ append_assoc w.front (entry own (call.Write side w.offered) (told.Code c) ∷ []) (entry own (call.Shutdown side Send) told.Done ∷ []);
  }
  given_up es c _ fits w = absurd fits

  after_front : (again : List Item → Asks (End × List Item)) (es : List Entry) (f : Front) → FrontRow es f → Meets PollRow es (after again (writer own side) [] (λ g. round again (writer own side) g []) f)
  unfolding bind
  after_front again es (Again item) h = absurd h
  after_front again es (Ends c given) h = asks (λ t fits. ends (given_up es c t fits h))
  after_front again es _ h = ends tt

  write_polls : (bytes : List ℕ) → Meets PollRow [] (poll_asks (new_job own side bytes).write)
  unfolding polls
  write_polls bytes = chain {Mid = FrontRow} (fronts bytes 0 []) (λ es f k. after_front (polls 63 (writer own side)) es f k)

-- == a write
-- where it is permitted or the writer is closed, it doesn't trap, and marks no handle
abbrev pub WriteRow : OpId → ℕ → WriteState → Rows (Result (Unit {0}) StreamStop × WriteState)
WriteRow own n writer es (Ok done, now) = (IsUnpermitted writer n → ⊥) × (marks_in es ≡ 0)
WriteRow own n writer es (Err (Failed c), now) = (IsUnpermitted writer n → ⊥) × (marks_in es ≡ 0) × WriteFails own (error.LastOperationFailed c) writer es × (now ≡ writing.Closed (error.LastOperationFailed c))
WriteRow own n writer es (Err Closed, now) = (IsUnpermitted writer n → ⊥) × (marks_in es ≡ 0) × WriteFails own error.Closed writer es × (now ≡ writing.Closed error.Closed)
WriteRow own n writer es (Err (Trap NotPermitted), now) = IsUnpermitted writer n × (es ≡ []) × (now ≡ writer)
WriteRow own n writer es (Err (Trap _), now) = ⊥

module _ (own : OpId) where
  of_kept : (n : ℕ) (writer : WriteState) (es : List Entry) (e : WriteError) → (IsUnpermitted writer n → ⊥) → marks_in es ≡ 0 → WriteFails own e writer es → WriteRow own n writer es (Err (stop_of e), writing.Closed e)
  of_kept n writer es error.Closed may none fails = (may, none, fails, refl)
  of_kept n writer es (error.LastOperationFailed c) may none fails = (may, none, fails, refl)

  module _ (half : TcpSendStream) (permit : ℕ) (bytes : List ℕ) (may : IsUnpermitted (writing.Ready half permit) (length bytes) → ⊥) where
    abbrev was : WriteState
    was = writing.Ready half permit

    abbrev Row : Rows (Result (Unit {0}) StreamStop × WriteState)
    Row = WriteRow own (length bytes) was

    looked : (es : List Entry) (ended : End × List Item) → (marks_in es ≡ 0) × PollRow own half.side es ended → Meets Row es (bind (look_asks own (writing.Writing (job_after (writer own half.side) ended))) (λ looked. Give (begun looked)))
    unfolding bind
    looked es (Waits, items) k = ends (may, k.0)
    looked es (Done given, items) k = asks (λ t fits. ends (may, let p = marks_in-push es (entry own (call.WriteReady half.side) t) in let none = k.0 in omega (arith, none)))
    looked es (Refused c given, items) k = ends (of_kept (length bytes) was es (error_of_code c) may k.0 (subst (WriteFails own (error_of_code c) was) (sym k.1.cut) (CodeTold half permit k.1.offered c k.1.front refl)))

    goes_on : Meets Row [] (write_on_asks own (writing.Writing (new_job own half.side bytes)))
    goes_on =
        chain {Mid = λ es turned. Meets Row es (bind (look_asks own turned.1) (λ looked. Give (begun looked)))}
        (onto _ (onto _ (widen looked (both (record { along = poll_marks_none (new_job own half.side bytes).write }) (write_polls own half.side bytes)))))
        (λ es turned k. k)

  of_half : (half : TcpSendStream) (permit : ℕ) (bytes : List ℕ) → Meets (WriteRow own (length bytes) (writing.Ready half permit)) [] (write_half_asks own half permit bytes)
  of_half half permit [] = ends (λ over. omega (arith, over), refl)
  of_half half permit (b ∷ bytes) =
      branch (nat_lt permit (length (b ∷ bytes))) (λ over. ends (ltb-true permit _ over, refl, refl)) (λ within. goes_on half permit (b ∷ bytes) (λ over. let k = ltb-false permit (length (b ∷ bytes)) within in omega (arith, k, over)))

  pub writes : (bytes : List ℕ) (writer : WriteState) → Meets (WriteRow own (length bytes) writer) [] (write_state_asks own writer bytes)
  writes bytes (writing.Ready half permit) = of_half half permit bytes
  writes bytes (writing.Closed e) = ends (of_kept (length bytes) (writing.Closed e) [] e (λ over. over) refl ErrorKept)
  writes bytes _ = ends (tt, refl, refl)

-- == a flush
-- it asks nothing, and reports the kept error
abbrev pub FlushRow : WriteState → Rows (Result (Unit {0}) StreamStop × WriteState)
FlushRow writer es (Ok done, now) = (es ≡ []) × (now ≡ writer)
FlushRow writer es (Err Closed, now) = (es ≡ []) × (now ≡ writer) × (writer ≡ writing.Closed error.Closed)
FlushRow writer es (Err (Failed c), now) = (es ≡ []) × (now ≡ writer) × (writer ≡ writing.Closed (error.LastOperationFailed c))
FlushRow writer es (Err (Trap kind), now) = ⊥

pub flushes : (writer : WriteState) → Meets (FlushRow writer) [] (flush_asks writer)
flushes (writing.Closed error.Closed) = ends (refl, refl, refl)
flushes (writing.Closed (error.LastOperationFailed c)) = ends (refl, refl, refl)
flushes _ = ends (refl, refl)

module _ (contexts : List WasiSocketsCtx) (m : Machine) (line c output : ℕ) where
  abbrev own : OpId
  own = own_of line

  module _ (place : ℕ) (r : TcpRecord) (s : Streams) (n : HasStreams m (output_at m output) place r s) where
    abbrev left : WriteState → Machine
    left writer = putting m place (with_writer r s writer)

    same : (now : WriteState) → now ≡ s.writer → left now ≡ m
    same now e = ap left e ∙ streams_same n

  -- of an output of a connection nothing is said of those of none
  module _ (connected : plain_output_at m output ≡ None) where
    no_plain_check : (es : List Entry) (said : Reply) (after : Machine) → PlainCheck m output es said after
    no_plain_check es said after = rw connected tt

    no_plain_write : (es : List Entry) (said : Reply) → PlainWrite m output es said
    no_plain_write es said = rw connected tt

    no_plain_flush : (es : List Entry) (said : Reply) (after : Machine) → PlainFlush m output es said after
    no_plain_flush es said after = rw connected tt

    no_capacity : (n : ℕ) (said : Reply) → said ≢ reply.Trap Capacity → PastCapacity m output n said
    no_capacity n said other = apart other (λ k. rw connected at k)

  -- == a look at what may be written
  check_so : (connected : plain_output_at m output ≡ None) (place : ℕ) (r : TcpRecord) (s : Streams) → HasStreams m (output_at m output) place r s → (es : List Entry) (done : Result ℕ StreamStop × WriteState) → CheckRow own (most_of m.store r) s.writer es done
      → TellsStream m own output (Replied contexts m line (step.Call c (guest.Stream (stream_call.CheckWrite output))) permit_reply) es done.0 (with_socket m.store place (with_writer r s done.1))
  check_so connected place r s n es (Ok k, now) h = (no_plain_check connected es _ _, ((tt, tt), inl (of_streams n h)))
  check_so connected place r s n es (Err stop.Closed, now) h = (no_plain_check connected es _ _, (tt, inl (of_streams n (h.0, ap (left place r s n) h.1))))
  check_so connected place r s n es (Err (stop.Failed code), now) h = (
    λ full. (no_plain_check connected es _ _, (tt, full_so m m es full refl (ap marks_in h.0.1), tt)),
    λ side. (no_plain_check connected _ _ _, ((tt, code_word code), of_streams n (failed_so code es side (h.0, ap (λ (writer : WriteState). with_error (left place r s n writer)) h.1)))),
  )
  check_so connected place r s n es (Err (stop.Trap kind), now) h = absurd h

  check_by_output : (o : Option PlainOutput) → plain_output_at m output ≡ o → Meets (Replied contexts m line (step.Call c (guest.Stream (stream_call.CheckWrite output))) permit_reply) [] (check_by m own output o)
  check_by_output (Some plain) is = ends (plain_checks contexts m line c output plain is)
  check_by_output None connected =
      on_stream m own output (Replied contexts m line (step.Call c (guest.Stream (stream_call.CheckWrite output))) permit_reply) (λ s. s.writer) with_writer (output_at m output) (λ none. (no_plain_check connected [] _ _, ((none, rw connected tt), (refl, refl)))) (λ r. check_write_asks (most_of m.store r) own) (λ r o. writer_of r (check_write_asks (most_of m.store r) own) o) (λ r. refl) (λ r s. refl)
      (λ place r s n. widen (check_so connected place r s n) (checks own (most_of m.store r) s.writer)) (output_at m output) refl

  pub check_rows : Meets (Replied contexts m line (step.Call c (guest.Stream (stream_call.CheckWrite output))) permit_reply) [] (check_asks m own output)
  check_rows = check_by_output (plain_output_at m output) refl

  pub check_write : Meets (Says contexts m line (step.Call c (guest.Stream (stream_call.CheckWrite output)))) [] (bind (check_asks m own output) (λ done. Give (permit_reply done.0, done.1)))
  check_write = onto _ check_rows

  -- == a write
  module _ (bytes : List ℕ) where
    module _ (connected : plain_output_at m output ≡ None) (place : ℕ) (r : TcpRecord) (s : Streams) (n : HasStreams m (output_at m output) place r s) where
      abbrev written : WriteState → Machine
      written now = record m { store = job_noted place (Some r) (with_socket m.store place (with_writer r s now)) }

      written_same : (now : WriteState) → now ≡ s.writer → written now ≡ m
      written_same now e =
          ap (λ (x : Machine). let after : Machine = record m { store = job_noted place (Some r) x.store } in after) (same place r s n now e)
          ∙ ap (λ (store : Records). let after : Machine = record m { store = store } in after) (none_begun m.store place (Some r) n.at)

      and_not : (b : Bool) → (b && false) ≡ false
      and_not true = refl
      and_not false = refl

      written_closed : (now : WriteState) (e : WriteError) → now ≡ writing.Closed e → written now ≡ closing_writer m place r s e
      written_closed now e p =
          let closed : TcpRecord = with_writer r s (writing.Closed e) in
          let store : Records = with_socket m.store place closed in
          let there : tcp2_at store.records place ≡ Some closed = put_finds tcp_sort m.store.records place r closed n.at in
          ap written p
          ∙ ap (λ (kept : Records). let after : Machine = record m { store = kept } in after)
          (ap (λ (o : Option TcpRecord). with_job store (HostJob.Write place) (begins_job (Some r) o)) there ∙ ap (with_job store (HostJob.Write place)) (and_not (not (has_job (Some r)))))

      was_permitted : (IsUnpermitted s.writer (length bytes) → ⊥) → IsSomeAnd (output_streams m output) (λ s. IsUnpermitted s.writer (length bytes)) → ⊥
      was_permitted may u = let k : IsUnpermitted s.writer (length bytes) = rw (the_streams n) at u in may k

      -- what comes of its permit, and of no pipe
      always_so : (es : List Entry) (said : Reply) → said ≢ reply.Trap Capacity → (said ≡ reply.Trap NotPermitted) ↔ IsSomeAnd (output_streams m output) (λ s. IsUnpermitted s.writer (length bytes)) → Always contexts m line (step.Call c (guest.Stream (stream_call.Write output bytes))) es said m
      always_so es said other permit = (permit, no_capacity connected (length bytes) said other, no_plain_write connected es said)

      write_so : (es : List Entry) (done : Result (Unit {0}) StreamStop × WriteState) → WriteRow own (length bytes) s.writer es done → TellsStream m own output (Replied contexts m line (step.Call c (guest.Stream (stream_call.Write output bytes))) taken_reply) es done.0 (job_noted place (Some r) (with_socket m.store place (with_writer r s done.1)))
      write_so es (Ok done, now) h = (always_so es _ (λ e. cc) (apart (λ e. cc) (was_permitted h.0)), (tt, rw connected tt))
      write_so es (Err stop.Closed, now) h = (always_so es _ (λ e. cc) (apart (λ e. cc) (was_permitted h.0)), (tt, inl (of_streams n (h.2, written_closed now error.Closed h.3))))
      write_so es (Err (stop.Failed code), now) h = (
        λ full. (always_so es _ (λ e. cc) (apart (λ e. cc) (was_permitted h.0)), (tt, full_so m (written now) es full refl h.1, tt)),
        λ side. (always_so _ _ (λ e. cc) (apart (λ e. cc) (was_permitted h.0)), ((tt, code_word code), of_streams n (failed_so code es side (h.2, ap with_error (written_closed now (error.LastOperationFailed code) h.3))))),
      )
      write_so es (Err (stop.Trap NotPermitted), now) h = (always_so es _ (λ e. cc) (λ e. rw (the_streams n) h.0, λ u. refl), (inl tt, (h.1, written_same now h.2)))
      write_so es (Err (stop.Trap _), now) h = absurd h

    none_there : output_streams m output ≡ None → IsSomeAnd (output_streams m output) (λ s. IsUnpermitted s.writer (length bytes)) → ⊥
    none_there none = none_has _ (output_streams m output) none

    write_by_output : (o : Option PlainOutput) → plain_output_at m output ≡ o → Meets (Replied contexts m line (step.Call c (guest.Stream (stream_call.Write output bytes))) taken_reply) [] (write_by m own output bytes o)
    write_by_output (Some plain) is = ends (plain_writes contexts m line c output bytes plain is)
    write_by_output None connected =
        on_write m own output (Replied contexts m line (step.Call c (guest.Stream (stream_call.Write output bytes))) taken_reply) (λ s. s.writer) with_writer (output_at m output) (λ none. ((apart (λ e. cc) (none_there none), no_capacity connected (length bytes) _ (λ e. cc), no_plain_write connected [] _), ((none, rw connected tt), (refl, refl)))) (λ r w. write_state_asks own w bytes) (λ r o. writer_of r (λ w. write_state_asks own w bytes) o) (λ r. refl) (λ r s. refl)
        (λ place r s n. widen (write_so connected place r s n) (writes own bytes s.writer)) (output_at m output) refl

    pub write_rows : Meets (Replied contexts m line (step.Call c (guest.Stream (stream_call.Write output bytes))) taken_reply) [] (write_asks m own output bytes)
    write_rows = write_by_output (plain_output_at m output) refl

    pub write : Meets (Says contexts m line (step.Call c (guest.Stream (stream_call.Write output bytes)))) [] (bind (write_asks m own output bytes) (λ done. Give (taken_reply done.0, done.1)))
    write = onto _ write_rows

  -- == a flush
  flush_so : (connected : plain_output_at m output ≡ None) (place : ℕ) (r : TcpRecord) (s : Streams) → HasStreams m (output_at m output) place r s → (es : List Entry) (done : Result (Unit {0}) StreamStop × WriteState) → FlushRow s.writer es done
      → TellsStream m own output (Replied contexts m line (step.Call c (guest.Stream (stream_call.Flush output))) taken_reply) es done.0 (with_socket m.store place (with_writer r s done.1))
  flush_so connected place r s n es (Ok done, now) h = (no_plain_flush connected es _ _, (tt, (h.0, same place r s n now h.1)))
  flush_so connected place r s n es (Err stop.Closed, now) h = (no_plain_flush connected es _ _, (tt, inl (of_streams n h.2, (h.0, same place r s n now h.1))))
  flush_so connected place r s n es (Err (stop.Failed code), now) h = (
    λ full. (no_plain_flush connected es _ _, (tt, full_so m m es full refl (ap marks_in h.0), tt)),
    λ side. (no_plain_flush connected _ _ _, ((tt, code_word code), (of_streams n (failed_so code es side (h.2, h.0)), ap with_error (same place r s n now h.1)))),
  )
  flush_so connected place r s n es (Err (stop.Trap kind), now) h = absurd h

  flush_by_output : (o : Option PlainOutput) → plain_output_at m output ≡ o → Meets (Replied contexts m line (step.Call c (guest.Stream (stream_call.Flush output))) taken_reply) [] (flush_by m own output o)
  flush_by_output (Some plain) is = ends (plain_flushes contexts m line c output plain is)
  flush_by_output None connected =
      on_stream m own output (Replied contexts m line (step.Call c (guest.Stream (stream_call.Flush output))) taken_reply) (λ s. s.writer) with_writer (output_at m output) (λ none. (no_plain_flush connected [] _ _, ((none, rw connected tt), (refl, refl)))) (λ r. flush_asks) (λ r o. writer_of r flush_asks o) (λ r. refl) (λ r s. refl)
      (λ place r s n. widen (flush_so connected place r s n) (flushes s.writer)) (output_at m output) refl

  pub flush_rows : Meets (Replied contexts m line (step.Call c (guest.Stream (stream_call.Flush output))) taken_reply) [] (flushed_asks m own output)
  flush_rows = flush_by_output (plain_output_at m output) refl

  pub flush : Meets (Says contexts m line (step.Call c (guest.Stream (stream_call.Flush output)))) [] (bind (flushed_asks m own output) (λ done. Give (taken_reply done.0, done.1)))
  flush = onto _ flush_rows
